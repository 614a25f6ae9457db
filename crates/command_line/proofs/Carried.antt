-- What came of a command is what came of the settings that name it.
use Rattle.std.proofs.Common.{◌≡◌, ◌≢◌, ◌⊎◌, ℕ, Bool, Err, IfErr, IfOk, List, Ok, Option, Result, false, subst, sym, true}
use Rattle.std.specs.Prelude.{OnErr, nat_lt}
use Rattle.clap.specs.Words.{Text}
use Rattle.command_files.specs.Contents.{Contents}
use Rattle.command_files.specs.Faults.{LeavesAtFault}
use Rattle.command_files.specs.Status.{status_of}
use Rattle.command_files.specs.declared.fault.Fault.{Fault}
use Rattle.command_line.proofs.Meant.{beyond_explore, beyond_fences, beyond_run, beyond_show, written}
use Rattle.command_settings.specs.Settings.{message_in}
use Rattle.command_line.specs.Running.{Came, CheckCame, CheckNoted, message_check_of, ExploreCame, IsOutOfRange, IsDone, IsExploreFile, IsFaulty, IsNoted, IsWritten, ShowCame}
use Rattle.command_settings.specs.declared.wanted.Check.{Check as Judging}
use Rattle.command_settings.specs.declared.wanted.Explore.{Explore as Sought}
use Rattle.command_settings.specs.declared.wanted.Audit.{Audit}
use Rattle.command_settings.specs.declared.wanted.Settings.{Settings}
use Rattle.command_settings.specs.declared.wanted.Show.{Show as Shown}
use Rattle.command_settings.specs.declared.wanted.Settings.TheVariants.{Check, Explore, Fences, Run, Show}
use Rattle.command_settings.specs.declared.wanted.Run.{Run as Asked}
use Rattle.message_judge.specs.declared.verdict.MessageBreach.{MessageBreach}
use Rattle.message_judge.specs.declared.verdict.MessageVerdict.TheVariants.{Unlawful}
use Rattle.run_command.specs.Running.{IsRun, IsRunFault}
use Rattle.trace_commands.specs.Messages.{AreObjected}
use Rattle.command_line.specs.Telling.{AreJudged, AreWordsJudged, ComesBeforeFiles, IsFaultOfCommand, IsNotedAt, IsShowingFault}
use Rattle.fences_command.specs.Fencing.{IsAuditTold, IsFencesFault}
use Rattle.fences_command.specs.Witnesses.{IsFencesFile}
use Rattle.explore_command.specs.Exploring.{ComesBeforeScripts, IsExploreFault, LeavesPart}
use Rattle.explore_command.specs.Keeping.{SparesOthers}
use Rattle.command_files.specs.declared.allowing.Judgement.{Judgement}
use Rattle.command_files.specs.declared.allowing.Judgement.TheVariants.{Allowed, NotAllowed}

pub if_err : {T : Type 0} (P Q : Fault → Type 0) (r : Result T Fault) → ((fault : Fault) → P fault → Q fault) → IfErr r P → IfErr r Q
if_err P Q (Ok x) law so = tt
if_err P Q (Err fault) law so = law fault so

module _ (held left : Contents) (old new : Option (List ℕ)) (wanted : Settings) where
  pub explore_came : (explore : Sought) (r : Result Judgement Fault) → wanted ≡ Explore explore
      → IfOk r (λ judgement. ExploreCame (message_in explore.until) explore.architecture (nat_lt 0 explore.sample) judgement held left explore old new) → IfOk r (Came held left old new wanted)
  explore_came explore (Ok Allowed) is so = subst (IsDone held left old new) (sym is) so
  explore_came explore (Ok NotAllowed) is so = subst (IsFaulty held left old new) (sym is) so
  explore_came explore (Err fault) is so = tt

  pub show_came : (show : Shown) (r : Result Judgement Fault) → wanted ≡ Show show → IfOk r (λ judgement. ShowCame show.explore.architecture judgement held left show old new)
      → IfOk r (Came held left old new wanted)
  show_came show (Ok Allowed) is so = subst (IsDone held left old new) (sym is) so
  show_came show (Ok NotAllowed) is so = subst (IsFaulty held left old new) (sym is) so
  show_came show (Err fault) is so = tt

  pub run_came : (run : Asked) (r : Result Judgement Fault) → wanted ≡ Run run → IfOk r (λ judgement. IsRun held left run judgement old new) → IfOk r (Came held left old new wanted)
  run_came run (Ok Allowed) is so = subst (IsDone held left old new) (sym is) so
  run_came run (Ok NotAllowed) is so = subst (IsFaulty held left old new) (sym is) so
  run_came run (Err fault) is so = tt

  pub fences_came : (audit : Audit) (r : Result Judgement Fault) → wanted ≡ Fences audit → IfOk r (λ judgement. IsAuditTold held left audit judgement old new) → IfOk r (Came held left old new wanted)
  fences_came audit (Ok Allowed) is so = subst (IsDone held left old new) (sym is) so
  fences_came audit (Ok NotAllowed) is so = subst (IsFaulty held left old new) (sym is) so
  fences_came audit (Err fault) is so = tt

  pub check_came : (check : Judging) (r : Result Judgement Fault) → wanted ≡ Check check → IfOk r (λ judgement. CheckCame judgement check.messages held check old new) → IfOk r (Came held left old new wanted)
  check_came check (Ok Allowed) is so = subst (IsDone held left old new) (sym is) so
  check_came check (Ok NotAllowed) is so = subst (IsFaulty held left old new) (sym is) so
  check_came check (Err fault) is so = tt

-- what is put on standard error is what the settings that name the command put there
pub all_noted : (held left : Contents) (old new before after : Option (List ℕ)) (wanted meant : Settings) (r : Result Judgement Fault) → wanted ≡ meant → IfOk r (λ judgement. IsNoted held left old new before after judgement meant)
    → IfOk r (λ judgement. IsNoted held left old new before after judgement wanted)
all_noted held left old new before after wanted meant (Ok judgement) is so = subst (IsNoted held left old new before after judgement) (sym is) so
all_noted held left old new before after wanted meant (Err fault) is so = tt

pub messages_noted : (of_messages : Bool) (held : Contents) (check : Judging) (breach : MessageBreach) (index : ℕ) (before after : Option (List ℕ)) → of_messages ≡ true
    → AreObjected held check.trace.now (message_check_of check) (Unlawful breach index) before after → CheckNoted NotAllowed of_messages held check before after
messages_noted true held check breach index before after is are = (breach, index, are)
messages_noted false held check breach index before after is are = absurd cc

pub order_noted : (judgement : Judgement) (of_messages : Bool) (held : Contents) (check : Judging) (before after : Option (List ℕ)) → of_messages ≡ false → after ≡ before → CheckNoted judgement of_messages held check before after
order_noted Allowed of_messages held check before after is same = same
order_noted NotAllowed true held check before after is same = absurd cc
order_noted NotAllowed false held check before after is same = same

-- whatever fault a command tells is one of what the settings name
pub told_of : (held : Contents) (old new : Option (List ℕ)) (wanted meant : Settings) (fault : Fault) → wanted ≡ meant → IsFaultOfCommand held old new meant fault → IsFaultOfCommand held old new wanted fault
told_of held old new wanted meant fault is so = subst (λ w. IsFaultOfCommand held old new w fault) (sym is) so

pub all_told_of : (held : Contents) (old new : Option (List ℕ)) (wanted meant : Settings) (r : Result Judgement Fault) → wanted ≡ meant → IfErr r (IsFaultOfCommand held old new meant) → IfErr r (IsFaultOfCommand held old new wanted)
all_told_of held old new wanted meant (Ok judgement) is so = tt
all_told_of held old new wanted meant (Err fault) is so = told_of held old new wanted meant fault is so

pub explore_beyond : (held : Contents) (old new : Option (List ℕ)) (wanted : Settings) (explore : Sought) (Has : (List ℕ → Type 0) → Type 0) (r : Result Judgement Fault) → wanted ≡ Explore explore → IfErr r (IsExploreFault held explore)
    → IfErr r (λ fault. LeavesPart fault old new Has) → IfErr r (λ fault. status_of fault ≡ 2 → IsOutOfRange wanted × (new ≡ old))
explore_beyond held old new wanted explore Has (Ok judgement) is told leaves = tt
explore_beyond held old new wanted explore Has (Err fault) is told leaves = λ two.
    let it = beyond_explore held old new explore Has fault told leaves two in (subst IsOutOfRange (sym is) it.0, it.1)

pub show_beyond : (held : Contents) (old new : Option (List ℕ)) (wanted : Settings) (show : Shown) (Has : (List ℕ → Type 0) → Type 0) (r : Result Judgement Fault) → wanted ≡ Show show → IfErr r (IsShowingFault show.explore.architecture held show)
    → IfErr r (λ fault. LeavesPart fault old new Has) → IfErr r (λ fault. status_of fault ≡ 2 → IsOutOfRange wanted × (new ≡ old))
show_beyond held old new wanted show Has (Ok judgement) is told leaves = tt
show_beyond held old new wanted show Has (Err fault) is told leaves = λ two.
    let it = beyond_show show.explore.architecture held old new show Has fault told leaves two in (subst IsOutOfRange (sym is) it.0, it.1)

pub show_written : (held left : Contents) (wanted : Settings) (show : Shown) → wanted ≡ Show show → SparesOthers (IsExploreFile show.explore.architecture show.explore) held left
    → (name : Text) → left name ≢ held name → IsWritten name wanted
show_written held left wanted show is spares = λ name changed. subst (IsWritten name) (sym is) (written held left _ spares name changed)

pub explore_written : (held left : Contents) (wanted : Settings) (explore : Sought) → wanted ≡ Explore explore → SparesOthers (IsExploreFile explore.architecture explore) held left
    → (name : Text) → left name ≢ held name → IsWritten name wanted
explore_written held left wanted explore is spares = λ name changed. subst (IsWritten name) (sym is) (written held left _ spares name changed)

-- what a command says of its files is said of the settings that name it
pub stay_of : (held left : Contents) (wanted meant : Settings) (r : Result Judgement Fault) → wanted ≡ meant → IfErr r (λ fault. ComesBeforeFiles meant fault → left ≡ held) → IfErr r (λ fault. ComesBeforeFiles wanted fault → left ≡ held)
stay_of held left wanted meant (Ok judgement) is so = tt
stay_of held left wanted meant (Err fault) is so = λ early. so (subst (λ w. ComesBeforeFiles w fault) is early)

pub all_stay : (held left : Contents) (wanted : Settings) (r : Result Judgement Fault) → left ≡ held → IfErr r (λ fault. ComesBeforeFiles wanted fault → left ≡ held)
all_stay held left wanted (Ok judgement) same = tt
all_stay held left wanted (Err fault) same = λ early. same

pub check_beyond : (old new : Option (List ℕ)) (wanted : Settings) (r : Result Judgement Fault) → IfErr r (λ fault. status_of fault ≢ 2) → IfErr r (λ fault. status_of fault ≡ 2 → IsOutOfRange wanted × (new ≡ old))
check_beyond old new wanted (Ok judgement) never = tt
check_beyond old new wanted (Err fault) never = λ two. absurd (never two)

pub fences_written : (held left : Contents) (wanted : Settings) (audit : Audit) → wanted ≡ Fences audit → SparesOthers (IsFencesFile audit.fences) held left → (name : Text) → left name ≢ held name → IsWritten name wanted
fences_written held left wanted audit is spares = λ name changed. subst (IsWritten name) (sym is) (written held left _ spares name changed)

pub run_beyond : (held : Contents) (old new : Option (List ℕ)) (wanted : Settings) (run : Asked) (broken : Type 0) (r : Result Judgement Fault) → wanted ≡ Run run → IfErr r (IsRunFault held run)
    → IfErr r (λ fault. LeavesAtFault fault old new broken) → IfErr r (λ fault. status_of fault ≡ 2 → IsOutOfRange wanted × (new ≡ old))
run_beyond held old new wanted run broken (Ok judgement) is told leaves = tt
run_beyond held old new wanted run broken (Err fault) is told leaves = λ two.
    let it = beyond_run held old new run broken fault told leaves two in (subst IsOutOfRange (sym is) it.0, it.1)

pub fences_beyond : (held : Contents) (old new : Option (List ℕ)) (wanted : Settings) (audit : Audit) (Has : (List ℕ → Type 0) → Type 0) (r : Result Judgement Fault) → wanted ≡ Fences audit → IfErr r (IsFencesFault held audit)
    → IfErr r (λ fault. LeavesPart fault old new Has) → IfErr r (λ fault. status_of fault ≡ 2 → IsOutOfRange wanted × (new ≡ old))
fences_beyond held old new wanted audit Has (Ok judgement) is told leaves = tt
fences_beyond held old new wanted audit Has (Err fault) is told leaves = λ two.
    let it = beyond_fences held old new audit Has fault told leaves two in (subst IsOutOfRange (sym is) it.0, it.1)

-- an audit puts nothing on standard error
pub fences_noted : (held left : Contents) (old new before after : Option (List ℕ)) (wanted : Settings) (audit : Audit) (r : Result Judgement Fault) → wanted ≡ Fences audit → after ≡ before
    → IfOk r (λ judgement. IsNoted held left old new before after judgement wanted)
fences_noted held left old new before after wanted audit (Ok judgement) is same = subst (IsNoted held left old new before after judgement) (sym is) same
fences_noted held left old new before after wanted audit (Err fault) is same = tt

-- ---- what stands on standard error before a fault

module _ (held : Contents) (old new before after : Option (List ℕ)) (wanted : Settings) where
  pub noted_at : (meant : Settings) (fault : Fault) → wanted ≡ meant → IsNotedAt held old new before after meant fault → IsNotedAt held old new before after wanted fault
  noted_at meant fault is so = subst (λ w. IsNotedAt held old new before after w fault) (sym is) so

  pub explore_silent : (explore : Sought) (r : Result Judgement Fault) → wanted ≡ Explore explore → IfErr r (λ fault. ComesBeforeScripts fault → after ≡ before)
      → OnErr r ((after ≡ before) ⊎ AreJudged (message_in explore.until) explore.architecture (nat_lt 0 explore.sample) held explore old new before after) → IfErr r (IsNotedAt held old new before after wanted)
  explore_silent explore (Ok judgement) is silent judged = tt
  explore_silent explore (Err fault) is silent judged = noted_at (Explore explore) fault is (silent, judged)

  pub show_silent : (show : Shown) (r : Result Judgement Fault) → wanted ≡ Show show → IfErr r (λ fault. ComesBeforeScripts fault → after ≡ before)
      → OnErr r ((after ≡ before) ⊎ AreWordsJudged show.explore.architecture held show old new before after) → IfErr r (IsNotedAt held old new before after wanted)
  show_silent show (Ok judgement) is silent judged = tt
  show_silent show (Err fault) is silent judged = noted_at (Show show) fault is (silent, judged)

  pub fences_silent : (audit : Audit) (r : Result Judgement Fault) → wanted ≡ Fences audit → after ≡ before → IfErr r (IsNotedAt held old new before after wanted)
  fences_silent audit (Ok judgement) is same = tt
  fences_silent audit (Err fault) is same = noted_at (Fences audit) fault is same

  pub run_silent : (run : Asked) (r : Result Judgement Fault) → wanted ≡ Run run → OnErr r (after ≡ before) → IfErr r (IsNotedAt held old new before after wanted)
  run_silent run (Ok judgement) is same = tt
  run_silent run (Err fault) is same = noted_at (Run run) fault is same

  pub check_silent : (check : Judging) (r : Result Judgement Fault) → wanted ≡ Check check → OnErr r (after ≡ before) → IfErr r (IsNotedAt held old new before after wanted)
  check_silent check (Ok judgement) is same = tt
  check_silent check (Err fault) is same = noted_at (Check check) fault is same
