-- What a command's fault leaves, and its status, are those of a fault of the settings that name the command.
use Rattle.std.proofs.Common.{◌≡◌, ◌∙◌, ◌⊎◌, ℕ, Bool, true, false, Err, IfErr, IfOk, IfSome, IsSomeAnd, List, None, Ok, Option, Result, Some, ap, inl, inr, refl, subst, sym}
use Rattle.std.specs.Io.KnownBytes.{Appends}
use Rattle.std.specs.Prelude.{nat_lt}
use Rattle.command_files.specs.Addresses.{address}
use Rattle.script_commands.specs.Charting.{IsAddress}
use Rattle.command_files.proofs.Left.{either}
use Rattle.command_files.specs.Faults.{Name}
use Rattle.command_files.specs.Contents.{Contents}
use Rattle.command_files.specs.Sizes.{IsOutside}
use Rattle.command_files.specs.Status.{status_of}
use Rattle.command_files.specs.declared.fault.Fault.{Fault}
use Rattle.command_files.specs.declared.fault.Fault.TheVariants.{BadAddress, CannotShow, Configuration}
use Rattle.command_files.specs.declared.fault.Unshown.TheVariants.{Elsewhere}
use Rattle.command_line.proofs.StreamLeft.{stream_either}
use Rattle.command_line.specs.Running.{ExploreHas, IsHalfPrinted, IsOutOfRange, ShowHas, ShowsElsewhere}
use Rattle.command_line.specs.Telling.{LeavesOf, LeavesOfExplaining}
use Rattle.command_settings.specs.Settings.{message_in}
use Rattle.message_pattern.specs.declared.pattern.MessagePattern.{MessagePattern}
use Rattle.command_settings.specs.declared.wanted.Run.{Run as Asked}
use Rattle.command_settings.specs.declared.wanted.Check.{Check as Judging}
use Rattle.command_settings.specs.declared.wanted.Explore.{Explore as Sought}
use Rattle.command_settings.specs.declared.wanted.Audit.{Audit}
use Rattle.command_settings.specs.declared.wanted.Settings.{Settings}
use Rattle.command_settings.specs.declared.wanted.Settings.TheVariants.{Chart, Check, Explain, Explore, Fences, Page, Replay, Run, Show}
use Rattle.command_settings.specs.declared.wanted.Show.{Show as Shown}
use Rattle.trace_commands.specs.Pages.{IsHalfPaged, LeavesOfPage}
use Rattle.command_settings.specs.declared.wanted.Replay.{Replay as Played}
use Rattle.explore_command.proofs.Explored.{all_of}
use Rattle.explore_command.proofs.Faults.{some_part}
use Rattle.command_files.specs.declared.allowing.Judgement.{Judgement}
use Rattle.explore_command.specs.Showing.{IsFirstOf}
use Rattle.fences_command.specs.Fencing.{AuditHas}
use Rattle.text_fields.specs.Writing.{Begins}

-- ---- what is left

-- of an explanation too nothing is left, or a beginning
explain_either : (vcd : Bool) (old new : Option (List ℕ)) (broken : Type 0) (fault : Fault) → LeavesOfExplaining vcd fault old new broken → (new ≡ old) ⊎ broken
explain_either true old new broken fault so = either old new broken fault so
explain_either false old new broken fault so = stream_either old new broken fault so

-- of a page a beginning, or the page with a part of what is told, or none
page_either : (held : Contents) (replay : Played) (old new : Option (List ℕ)) (fault : Fault) → LeavesOfPage held replay old new fault → IsHalfPaged held replay old new
page_either held replay old new fault (inl begun) = inl begun
page_either held replay old new fault (inr so) = inr (record { between = so.between; page = so.page; behind = stream_either so.between new _ fault so.behind })

module _ (held left : Contents) (old new : Option (List ℕ)) where
  pub left_of : (wanted meant : Settings) (fault : Fault) → wanted ≡ meant → LeavesOf held left old new meant fault → LeavesOf held left old new wanted fault
  left_of wanted meant fault is so = subst (λ w. LeavesOf held left old new w fault) (sym is) so

  pub all_left_of : (wanted meant : Settings) (r : Result Judgement Fault) → wanted ≡ meant → IfErr r (LeavesOf held left old new meant) → IfErr r (LeavesOf held left old new wanted)
  all_left_of wanted meant (Ok judgement) is so = tt
  all_left_of wanted meant (Err fault) is so = left_of wanted meant fault is so

  -- all of a text is a beginning of it
  search_begins : (until : Option MessagePattern) (architecture sampled : Bool) (explore : Sought) → ExploreHas until architecture sampled held explore (Appends old new) → ExploreHas until architecture sampled held explore (Begins old new)
  search_begins (Some message) architecture sampled explore so = record { image = so.image; found = so.found; image_file = so.image_file; inside = so.inside; looked = so.looked; so = all_of old new _ so.so }
  search_begins None true sampled explore so = record { architecture = so.architecture; of_file = so.of_file; of_text = all_of old new _ so.of_text }
  search_begins None false true explore so = record { image = so.image; found = so.found; image_file = so.image_file; inside = so.inside; runs_made = so.runs_made; of_text = all_of old new _ so.of_text }
  search_begins None false false explore so = record { image = so.image; symbols = so.symbols; exploration = so.exploration; image_file = so.image_file; inside = so.inside; found = so.found; of_text = all_of old new _ so.of_text }

  words_begin : (architecture : Bool) (show : Shown) → ShowHas architecture held show (Appends old new) → ShowHas architecture held show (Begins old new)
  words_begin true show so = record { architecture = so.architecture; of_file = so.of_file; of_text = all_of old new _ so.of_text }
  words_begin false show so = record { exploration = so.exploration; of_file = so.of_file; of_text = all_of old new _ so.of_text }

  audit_begins : (audit : Audit) → AuditHas held audit (Appends old new) → AuditHas held audit (Begins old new)
  audit_begins audit so = record { symbols = so.symbols; allowance = so.allowance; image = so.image; of_file = so.of_file; of_text = all_of old new _ so.of_text }

  -- that is nothing, or no more than a beginning
  pub either_of : (wanted : Settings) (fault : Fault) → LeavesOf held left old new wanted fault → (new ≡ old) ⊎ IsHalfPrinted held left old new wanted
  either_of (Replay replay) fault so = either old new _ fault so
  either_of (Explain explain) fault so = explain_either explain.vcd old new _ fault so
  either_of (Run run) fault so = either old new _ fault so
  either_of (Explore explore) fault so = some_part old new (ExploreHas (message_in explore.until) explore.architecture (nat_lt 0 explore.sample) held explore) fault (search_begins (message_in explore.until) explore.architecture (nat_lt 0 explore.sample) explore) so
  either_of (Show show) fault so = some_part old new (ShowHas show.explore.architecture held show) fault (words_begin show.explore.architecture show) so
  either_of (Chart chart) fault so = either old new _ fault so
  either_of (Page replay) fault so = inr (page_either held replay old new fault so)
  either_of (Fences audit) fault so = some_part old new (AuditHas held audit) fault (audit_begins audit) so
  either_of (Check check) fault so = either old new _ fault so

-- ---- which status it has

abbrev failed : (T : Type 0) → Fault → Result T Fault
failed T fault = Err fault

abbrev told_in : {T : Type 0} → Result T Fault → Fault
told_in (Ok value) = Configuration
told_in (Err fault) = fault

pub as_told : {T : Type 0} (fault other : Fault) → failed T fault ≡ failed T other → status_of other ≡ 2 → status_of fault ≡ 2
as_told fault other is two = subst (λ f. status_of f ≡ 2) (sym (ap told_in is)) two

pub chart_outside : (line : Option Name) (fault : Fault) → IfSome line (λ word. address word.now ≡ None → failed (Unit {0}) fault ≡ failed (Unit {0}) (BadAddress word)) → IsSomeAnd line (λ word. address word.now ≡ None) → status_of fault ≡ 2
chart_outside None fault unnamed out = absurd out
chart_outside (Some word) fault unnamed out = as_told fault (BadAddress word) (unnamed out) refl

pub explore_outside : (wanted : Settings) (explore : Sought) (r : Result Judgement Fault) → wanted ≡ Explore explore → (IsOutside explore.machine → r ≡ Err Configuration)
    → IfErr r (λ fault. IsOutOfRange wanted → status_of fault ≡ 2)
explore_outside wanted explore (Ok judgement) is outside = tt
explore_outside wanted explore (Err fault) is outside = λ out. as_told fault Configuration (outside (subst IsOutOfRange is out)) refl

pub run_outside : (wanted : Settings) (run : Asked) (r : Result Judgement Fault) → wanted ≡ Run run → (IsOutside run.machine → r ≡ Err Configuration) → IfErr r (λ fault. IsOutOfRange wanted → status_of fault ≡ 2)
run_outside wanted run (Ok judgement) is outside = tt
run_outside wanted run (Err fault) is outside = λ out. as_told fault Configuration (outside (subst IsOutOfRange is out)) refl

pub fences_outside : (wanted : Settings) (audit : Audit) (r : Result Judgement Fault) → wanted ≡ Fences audit → (IsOutside audit.fences.machine → r ≡ Err Configuration)
    → IfErr r (λ fault. IsOutOfRange wanted → status_of fault ≡ 2)
fences_outside wanted audit (Ok judgement) is outside = tt
fences_outside wanted audit (Err fault) is outside = λ out. as_told fault Configuration (outside (subst IsOutOfRange is out)) refl

pub show_outside : (wanted : Settings) (show : Shown) (r : Result Judgement Fault) → wanted ≡ Show show → (IsOutside show.explore.machine → (r ≡ Err Configuration) ⊎ ShowsElsewhere show.explore.architecture show.explore)
    → (ShowsElsewhere show.explore.architecture show.explore → (word : Name) × IsFirstOf show.words.items word × (r ≡ Err (CannotShow word Elsewhere))) → IfErr r (λ fault. IsOutOfRange wanted → status_of fault ≡ 2)
show_outside wanted show (Ok judgement) is outside elsewhere = tt
show_outside wanted show (Err fault) is outside elsewhere = λ out. elim (subst IsOutOfRange is out) [
  | inl far ↦ elim (outside far) [
    | inl told ↦ as_told fault Configuration told refl
    | inr other ↦ at other
  ]
  | inr other ↦ at other
]
  where
    at : ShowsElsewhere show.explore.architecture show.explore → status_of fault ≡ 2
    at other = let it = elsewhere other in as_told fault (CannotShow it.0 Elsewhere) it.2 refl

-- ---- what is done is in range

pub chart_inside : (line : Option Name) (place : Option ℕ) → IsAddress line place → IsSomeAnd line (λ word. address word.now ≡ None) → ⊥
chart_inside None place named out = out
chart_inside (Some word) place named none = let bad : Some named.0 ≡ None = sym named.1.0 ∙ none in cc

pub explore_inside : (wanted : Settings) (explore : Sought) (r : Result Judgement Fault) → wanted ≡ Explore explore → (IsOutside explore.machine → r ≡ Err Configuration) → IfOk r (λ _. ¬ IsOutOfRange wanted)
explore_inside wanted explore (Ok judgement) is outside = λ out. let bad = outside (subst IsOutOfRange is out) in cc
explore_inside wanted explore (Err fault) is outside = tt

pub run_inside : (wanted : Settings) (run : Asked) (r : Result Judgement Fault) → wanted ≡ Run run → (IsOutside run.machine → r ≡ Err Configuration) → IfOk r (λ _. ¬ IsOutOfRange wanted)
run_inside wanted run (Ok judgement) is outside = λ out. let bad = outside (subst IsOutOfRange is out) in cc
run_inside wanted run (Err fault) is outside = tt

pub fences_inside : (wanted : Settings) (audit : Audit) (r : Result Judgement Fault) → wanted ≡ Fences audit → (IsOutside audit.fences.machine → r ≡ Err Configuration) → IfOk r (λ _. ¬ IsOutOfRange wanted)
fences_inside wanted audit (Ok judgement) is outside = λ out. let bad = outside (subst IsOutOfRange is out) in cc
fences_inside wanted audit (Err fault) is outside = tt

pub show_inside : (wanted : Settings) (show : Shown) (r : Result Judgement Fault) → wanted ≡ Show show → (IsOutside show.explore.machine → (r ≡ Err Configuration) ⊎ ShowsElsewhere show.explore.architecture show.explore)
    → (ShowsElsewhere show.explore.architecture show.explore → (word : Name) × IsFirstOf show.words.items word × (r ≡ Err (CannotShow word Elsewhere))) → IfOk r (λ _. ¬ IsOutOfRange wanted)
show_inside wanted show (Ok judgement) is outside elsewhere = λ out. elim (subst IsOutOfRange is out) [
  | inl far ↦ elim (outside far) [
    | inl bad ↦ cc
    | inr other ↦ never other
  ]
  | inr other ↦ never other
]
  where
    never : ShowsElsewhere show.explore.architecture show.explore → ⊥
    never other = let it = elsewhere other in let bad = it.2 in cc
show_inside wanted show (Err fault) is outside elsewhere = tt

pub check_inside : (wanted : Settings) (check : Judging) (r : Result Judgement Fault) → wanted ≡ Check check → IfOk r (λ _. ¬ IsOutOfRange wanted)
check_inside wanted check (Ok judgement) is = λ out. absurd (subst IsOutOfRange is out)
check_inside wanted check (Err fault) is = tt

pub check_outside : (wanted : Settings) (check : Judging) (r : Result Judgement Fault) → wanted ≡ Check check → IfErr r (λ fault. IsOutOfRange wanted → status_of fault ≡ 2)
check_outside wanted check (Ok judgement) is = tt
check_outside wanted check (Err fault) is = λ out. absurd (subst IsOutOfRange is out)
