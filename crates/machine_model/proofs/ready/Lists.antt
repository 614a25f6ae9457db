-- An act adds to its hart's list no more entries than it says, and to the others' none.
use Rattle.std.proofs.Common.{ℕ, zero, suc, ◌+◌, ◌≤◌, Bool, true, false, List, [], ◌∷◌, ◌++◌, ◌≡◌, Some, refl, ◌∙◌, length, slice_set, slice_index_or, if◌then◌else◌}
use Rattle.std.specs.Prelude.{◌≢◌}
use Rattle.std.proofs.lemmas.List.{get_or-set_other, length-append}
use native.Mathlib.Omega.{arith}
use Rattle.elf_loader.specs.Image.{Initial}
use Rattle.hart.specs.Local.{can_go_alone, next_entry, private_row}
use Rattle.hart.specs.Run.{after, after_instr}
use Rattle.hart.specs.declared.retired.Retired.{Retired}
use Rattle.hart.specs.declared.state.Hart.{Hart}
use Rattle.hart.specs.declared.status.Status.{Status}
use Rattle.hart.specs.declared.status.Status.TheVariants.{Running, Stopped, Exited}
use Rattle.machine_model.specs.Changing.{acted, does, with_entries, with_halt}
use Rattle.machine_model.specs.Events.{entries_by}
use Rattle.machine_model.specs.Views.{State, node_at}
use Rattle.machine_model.specs.declared.act.Act.{Act}
use Rattle.machine_model.specs.declared.act.Act.TheVariants as act
use Rattle.machine_model.proofs.Nodes.{delivered_keeps, does_keeps, drained_keeps, given_up_keeps, missed_keeps}
use Rattle.trace_recorder.specs.History.{History, with_entry}

-- at most n more at one place, and none elsewhere
pub record IsLonger (h n : ℕ) (old new : List (List Retired)) : Type 0 where
  pub here : length (slice_index_or new h []) ≤ length (slice_index_or old h []) + n
  pub there : (k : ℕ) → k ≢ h → slice_index_or new k [] ≡ slice_index_or old k []

same_lists : (h : ℕ) (old new : List (List Retired)) → new ≡ old → IsLonger h 0 old new
same_lists h old new e = rw e (record { here = omega arith; there = λ k ne. refl })

same_longer : (h n : ℕ) (old new old' new' : List (List Retired)) → old ≡ old' → new' ≡ new → IsLonger h n old new → IsLonger h n old' new'
same_longer h n old new old' new' a b longer = rw (← a, b) longer

longer_here : (lists : List (List Retired)) (h : ℕ) (entry : Retired) → length (slice_index_or (slice_set lists h (slice_index_or lists h [] ++ entry ∷ [])) h []) ≤ length (slice_index_or lists h []) + 1
longer_here [] h entry = omega arith
longer_here (row ∷ lists) zero entry = let e = length-append row (entry ∷ []) in omega (arith, e)
longer_here (row ∷ lists) (suc h) entry = longer_here lists h entry

entry_longer : (h : ℕ) (entry : Retired) (t : History) → IsLonger h 1 t.entries (with_entry h entry t).entries
entry_longer h entry t = record { here = longer_here t.entries h entry; there = λ k ne. get_or-set_other t.entries h k _ [] ne }

entries_longer : (h : ℕ) (row : List Retired) (t : History) → IsLonger h (length row) t.entries (with_entries h row t).entries
entries_longer h [] t = same_lists h t.entries t.entries refl
entries_longer h (entry ∷ row) t =
    let one = entry_longer h entry t in
    let rest = entries_longer h row (with_entry h entry t) in
    record { here = omega (arith, one.here, rest.here); there = λ k ne. rest.there k ne ∙ one.there k ne }

halt_entries : (h : ℕ) (status : Status) (t : History) → (with_halt h status t).entries ≡ t.entries
halt_entries h Running t = refl
halt_entries h (Stopped code) t = refl
halt_entries h (Exited code) t = refl

row_short : (image : Initial) (hart : Hart) (count : ℕ) → length (private_row image hart count) ≤ count
row_short image hart zero = omega arith
row_short image hart (suc count) = go (can_go_alone image hart) (row_short image (after hart (next_entry image hart)) count)
  where
    row : List Retired
    row = private_row image (after hart (next_entry image hart)) count

    go : (t : Bool) → length row ≤ count → length (if t then next_entry image hart ∷ row else []) ≤ suc count
    go true e = omega (arith, e)
    go false e = omega arith

pub acted_longer : (h : ℕ) (a : Act) (s : State) → IsLonger h (entries_by a) s.trace.entries (acted h a s).trace.entries
acted_longer h (act.Stop code) s = same_lists h s.trace.entries _ refl
acted_longer h (act.Retire entry i d) s =
    let did = does s.views.config.model h d s in
    let noted = with_entry h entry did.trace in
    same_longer h 1 did.trace.entries noted.entries s.trace.entries _ (does_keeps s.views.config.model h d s).entries (halt_entries h (after_instr (node_at did h).hart entry (Some i)).status noted) (entry_longer h entry did.trace)
acted_longer h (act.Miss line grow) s = same_lists h s.trace.entries _ (missed_keeps h line grow s).entries
acted_longer h (act.Drain word) s = same_lists h s.trace.entries _ (drained_keeps h word s).entries
acted_longer h (act.Evict line) s = same_lists h s.trace.entries _ (given_up_keeps h line s).entries
acted_longer h (act.Deliver m) s = same_lists h s.trace.entries _ (delivered_keeps h m s).entries
acted_longer h (act.Local count) s =
    let row = private_row s.trace.image (node_at s h).hart count in
    let short : length row ≤ count = row_short s.trace.image (node_at s h).hart count in
    let more : IsLonger h (length row) s.trace.entries (with_entries h row s.trace).entries = entries_longer h row s.trace in
    record { here = omega (arith, more.here, short); there = more.there }
