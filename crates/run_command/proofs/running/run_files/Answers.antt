use Rattle.std.proofs.Common.{◌≡◌, ◌∙◌, ◌⊎◌, ◌≤◌, ℕ, Bool, List, Option, ap, arith, inl, inr, length, map, subst, sym}
use Rattle.host_threads.specs.Moves.{AreMoves}
use Rattle.command_files.specs.Sizes.{IsInside, config_of, config_named, script_for}
use Rattle.command_files.specs.Files.{HoldsImage}
use Rattle.command_files.specs.Contents.{Contents, HoldsBytes}
use Rattle.run_command.specs.Running.{ComesBeforeJournal, IsJournalled, IsRunFault}
use Rattle.host_threads.specs.Replays.{end_of_journal}
use Rattle.command_files.specs.declared.fault.Fault.{Fault}
use Rattle.command_files.specs.declared.fault.Fault.TheVariants.{CannotMake, CannotWrite, OutOfMemory}
use Rattle.command_settings.specs.declared.wanted.Run.{Run}
use Rattle.elf_loader.specs.Image.{Initial}
use Rattle.elf_loader.specs.Size.{IsMemoryKib}
use Rattle.machine_model.specs.LawfulLog.{IsLawfulLog}
use Rattle.machine_model.specs.Laws.{IsHeadline}
use Rattle.machine_model.specs.Views.{opening}
use Rattle.machine_types.specs.declared.config.Config.{Config}
use Rattle.machine_types.specs.declared.event.Event.{Event}
use Rattle.std.specs.Io.KnownBytes.{Appends}
use Rattle.std.specs.List.{AllByRecursion}
use Rattle.text_fields.specs.Writing.{Begins}
use Rattle.trace_recorder.specs.History.{History}
use Rattle.trace_text.specs.Scripts.{IsEvent, text as script_text}
use Rattle.trace_text.specs.TraceLimits.{IsTrace}
use Rattle.trace_text.specs.Traces.{text}
use Rattle.trace_text.specs.declared.script.Script.{Script}
use Rattle.command_settings.specs.Settings.{fails_on_stop}
use Rattle.hart.specs.declared.status.Status.{Status}
use Rattle.run_command.proofs.Ended.{ends_judged}
use Rattle.run_command.specs.Running.{judgement_of}
use Rattle.command_files.proofs.Left.{handed_up, spoiled}
use Rattle.command_files.proofs.Limits.{script_within}
use Rattle.command_files.proofs.Replays.{leads_there, readable}
use Rattle.run_command.proofs.running.run_files.Goals as goal

-- the script is for the machine that runs
config_kept : (config : Config) (run : Run) (script : Script) (events : List Event) (inside : IsInside run.machine) → config ≡ config_named run.machine inside → script ≡ script_for config run.machine.memory events → config ≡ config_of script run.machine.model
config_kept config run script events inside config_is script_is =
    let model = run.machine.model in
    let kib = run.machine.memory in
    config_is ∙ sym (ap (λ (s : Script). config_of s model) script_is ∙ ap (λ (c : Config). config_of (script_for c kib events) model) config_is)

kept : (held left : Contents) (config : Config) (run : Run) (image : Initial) (script : Script) (events : List Event) (inside : IsInside run.machine) → config ≡ config_named run.machine inside → script ≡ script_for config run.machine.memory events
    → HoldsImage held run.raw run.image.now run.machine.memory image → AllByRecursion IsEvent script.events → HoldsBytes left run.journal.now (script_text script) → AreMoves (opening image config) events → length events ≤ run.limit → IsJournalled held left run image script
kept held left config run image script events inside config_is script_is image_file spelt bytes moving few =
    let memory_same = ap (λ (s : Script). s.kib) script_is in
    record {
      image_file = image_file;
      inside = inside;
      config = sym (config_kept config run script events inside config_is script_is) ∙ config_is;
      memory = memory_same;
      journal_file = record {
        is_script = record { head = script_within script (subst IsMemoryKib (sym memory_same) inside.memory); events = spelt };
        bytes = bytes;
      };
      moves = subst (λ (s : Script). AreMoves (opening image (config_named run.machine inside)) s.events) (sym script_is) (subst (λ (k : Config). AreMoves (opening image k) events) config_is moving);
      limit = subst (λ (s : Script). length s.events ≤ run.limit) (sym script_is) few;
    }

printed_same : (old new : Option (List ℕ)) (t u : History) → t ≡ u → Appends old new (text t) → Appends old new (text u)
printed_same old new t u same is = subst (λ (h : History). Appends old new (text h)) same is

begun_same : (old new : Option (List ℕ)) (t u : History) → t ≡ u → Begins old new (text t) → Begins old new (text u)
begun_same old new t u same is = subst (λ (h : History). Begins old new (text h)) same is

either_told : (held : Contents) (run : Run) (fault : Fault) → (fault ≡ CannotWrite) ⊎ (fault ≡ OutOfMemory) → IsRunFault held run fault
either_told held run fault is = elim is [
  | inl at ↦ subst (IsRunFault held run) (sym at) tt
  | inr at ↦ subst (IsRunFault held run) (sym at) tt
]

-- a journal that can't be made, an output that takes no more and want of memory may come later
not_before : (fault late : Fault) → (ComesBeforeJournal late → ⊥) → (fault ≡ late) ⊎ (fault ≡ OutOfMemory) → ComesBeforeJournal fault → ⊥
not_before fault late never is before = elim is [
  | inl at ↦ never (subst ComesBeforeJournal at before)
  | inr at ↦ absurd (subst ComesBeforeJournal at before)
]

pub print-requires : goal.print-requires
print-requires g c =
    subst IsTrace (sym c.in-Ok.ensures.report.trace)
    (readable c.every_trace_has_a_text.ensures (end_of_journal c.in_ok-image.field-0.image c.in-Some.config c.in-Ok.report) c.in-Ok.ensures.reached)

pub returns-in_err-print-clause-told : goal.returns-in_err-print-clause-told
returns-in_err-print-clause-told g c =
    handed_up _ c.from_residual-in_err-print.result _ c.from_residual-in_err-print.ensures.1 (either_told _ c.args.wanted _ c.in_err-print.ensures.told)

pub returns-in_err-print-clause-unfinished : goal.returns-in_err-print-clause-unfinished
returns-in_err-print-clause-unfinished g c =
    let run = c.args.wanted in
    let script = c.script_of-script.result in
    let image = c.in_ok-image.field-0.image in
    let s = end_of_journal image c.in-Some.config c.in-Ok.report in
    let named = c.in-Some.ensures.config in
    let same = c.script_of-script.ensures.script in
    let config_same = config_kept c.in-Some.config run script c.in-Ok.report.journal.items named.0 named.1 same in
    handed_up _ c.from_residual-in_err-print.result _ c.from_residual-in_err-print.ensures.1
    (spoiled _ _ _ _ c.in_err-print.ensures.told
    (record {
      script = script;
      image = image;
      reached = s;
      kept = kept _ _ c.in-Some.config run image script c.in-Ok.report.journal.items named.0 named.1 same c.in_ok-image.ensures.loaded c.script_of-script.ensures.events c.in_ok-keep.ensures.kept c.in-Ok.ensures.moves (omega (arith, c.in-Ok.ensures.limit.events, c.from-limit.ensures));
      replayed = leads_there image script run.machine.model c.in-Some.config c.in-Ok.report.journal.items s config_same (sym (ap (λ (t : Script). t.events) same)) c.in-Ok.ensures.replays;
      begun = begun_same _ _ _ _ c.in-Ok.ensures.report.trace c.in_err-print.ensures.begun;
    }))

pub returns-in_err-print-clause-spared : goal.returns-in_err-print-clause-spared
returns-in_err-print-clause-spared g c = λ other another. c.keep.ensures.others other another ∙ ap (λ (h : Contents). h other) (c.remark_ends.ensures.stays ∙ (c.check_journal.ensures.stays ∙ c.in_ok-image.ensures.stays))

pub returns-clause-ran : goal.returns-clause-ran
returns-clause-ran g c =
    let run = c.args.wanted in
    let script = c.script_of-script.result in
    let image = c.in_ok-image.field-0.image in
    let s = end_of_journal image c.in-Some.config c.in-Ok.report in
    let named = c.in-Some.ensures.config in
    let same = c.script_of-script.ensures.script in
    let config_same = config_kept c.in-Some.config run script c.in-Ok.report.journal.items named.0 named.1 same in
    let trace_same = c.in-Ok.ensures.report.trace in
    record {
      script = script;
      image = image;
      reached = s;
      kept = kept _ _ c.in-Some.config run image script c.in-Ok.report.journal.items named.0 named.1 same c.in_ok-image.ensures.loaded c.script_of-script.ensures.events c.in_ok-keep.ensures.kept c.in-Ok.ensures.moves (omega (arith, c.in-Ok.ensures.limit.events, c.from-limit.ensures));
      judged =
          c.judged-judgement.ensures
          ∙ (ap (λ (b : Bool). judgement_of b c.statuses.result.now) c.fails_on_stop.ensures
          ∙ ap (λ (ss : List Status). judgement_of (fails_on_stop run.fail_on) ss) (c.statuses.ensures ∙ ap (λ (h : History). h.statuses) trace_same));
      composed = record {
        replayed = leads_there image script run.machine.model c.in-Some.config c.in-Ok.report.journal.items s config_same (sym (ap (λ (t : Script). t.events) same)) c.in-Ok.ensures.replays;
        printed = printed_same _ _ _ _ trace_same c.in_ok-print.ensures.printed;
        readable = readable c.every_trace_has_a_text.ensures s c.in-Ok.ensures.reached;
        headline = subst (λ (config : Config). IsHeadline image config s) config_same c.in-Ok.ensures.headline;
        log = subst (λ (t : History). IsLawfulLog t.log) trace_same c.in-Ok.ensures.log;
      };
    }

pub returns-clause-ends : goal.returns-clause-ends
returns-clause-ends g c =
    let run = c.args.wanted in
    let script = c.script_of-script.result in
    let image = c.in_ok-image.field-0.image in
    let s = end_of_journal image c.in-Some.config c.in-Ok.report in
    let named = c.in-Some.ensures.config in
    let same = c.script_of-script.ensures.script in
    let config_same = config_kept c.in-Some.config run script c.in-Ok.report.journal.items named.0 named.1 same in
    record {
      script = script;
      image = image;
      reached = s;
      kept = kept _ _ c.in-Some.config run image script c.in-Ok.report.journal.items named.0 named.1 same c.in_ok-image.ensures.loaded c.script_of-script.ensures.events c.in_ok-keep.ensures.kept c.in-Ok.ensures.moves (omega (arith, c.in-Ok.ensures.limit.events, c.from-limit.ensures));
      replayed = leads_there image script run.machine.model c.in-Some.config c.in-Ok.report.journal.items s config_same (sym (ap (λ (t : Script). t.events) same)) c.in-Ok.ensures.replays;
      begun = ends_judged (g.E.Write.contents c.args.err.now) (g.E.Write.contents c.tell_ends.new.err) s _ c.statuses-2.result.now _ c.judged-judgement.result c.tell_ends.result c.statuses-2.ensures c.in-Ok.ensures.report.trace (ap (map (λ output. output.items)) c.as_slice.ensures.value ∙ c.in-Ok.ensures.report.outputs) c.tell_ends.ensures;
    }

pub returns-clause-spared : goal.returns-clause-spared
returns-clause-spared g c = λ other another. c.keep.ensures.others other another ∙ ap (λ (h : Contents). h other) (c.remark_ends.ensures.stays ∙ (c.check_journal.ensures.stays ∙ c.in_ok-image.ensures.stays))

pub returns-in_err-print-clause-untouched : goal.returns-in_err-print-clause-untouched
returns-in_err-print-clause-untouched g c =
    handed_up _ c.from_residual-in_err-print.result _ c.from_residual-in_err-print.ensures.1 (λ before. absurd (not_before _ CannotWrite (λ b. b) c.in_err-print.ensures.told before))

pub returns-in_err-keep-clause-untouched : goal.returns-in_err-keep-clause-untouched
returns-in_err-keep-clause-untouched g c =
    handed_up _ c.from_residual-in_err-keep.result _ c.from_residual-in_err-keep.ensures.1 (λ before. absurd (not_before _ (CannotMake c.args.wanted.journal) (λ b. b) c.in_err-keep.ensures.told before))

pub returns-in_err-print-clause-image : goal.returns-in_err-print-clause-image
returns-in_err-print-clause-image g c = c.keep.ensures.others c.args.wanted.image.now c.in_ok-check_journal.ensures.apart ∙ ap (λ (h : Contents). h c.args.wanted.image.now) (c.remark_ends.ensures.stays ∙ (c.check_journal.ensures.stays ∙ c.in_ok-image.ensures.stays))

pub returns-clause-image : goal.returns-clause-image
returns-clause-image g c = c.keep.ensures.others c.args.wanted.image.now c.in_ok-check_journal.ensures.apart ∙ ap (λ (h : Contents). h c.args.wanted.image.now) (c.remark_ends.ensures.stays ∙ (c.check_journal.ensures.stays ∙ c.in_ok-image.ensures.stays))

pub returns-in_err-keep-clause-one_file : goal.returns-in_err-keep-clause-one_file
returns-in_err-keep-clause-one_file g c = λ same. absurd (c.in_ok-check_journal.ensures.two_files same)

pub returns-in_err-print-clause-one_file : goal.returns-in_err-print-clause-one_file
returns-in_err-print-clause-one_file g c = λ same. absurd (c.in_ok-check_journal.ensures.two_files same)

pub returns-clause-one_file : goal.returns-clause-one_file
returns-clause-one_file g c = λ same. absurd (c.in_ok-check_journal.ensures.two_files same)
