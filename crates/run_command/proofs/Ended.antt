-- The lines of how harts ended, and of what was judged of that.
use Rattle.std.proofs.Common.{◌≡◌, ◌∙◌, ◌++◌, [], ℕ, Err, List, Ok, Option, Result, ap, map, subst, sym}
use Rattle.std.proofs.lemmas.List.{append-nil}
use Rattle.command_files.specs.Ends.{ends_of, hart_lines}
use Rattle.command_files.specs.declared.allowing.Judgement.{Judgement}
use Rattle.hart.specs.declared.status.Status.{Status}
use Rattle.machine_model.specs.Views.{Node, State}
use Rattle.run_command.specs.Running.{judgement_line}
use Rattle.text_fields.specs.Writing.{Begins, Writes}
use Rattle.trace_recorder.specs.History.{History}

-- whatever was answered, a beginning went out
begun : {T E : Type 0} (a b : Option (List ℕ)) (text : List ℕ) (r : Result T E) → Writes a b text r → Begins a b text
begun a b text (Ok x) sent = record { front = text; rest = []; parts = sym (append-nil text); sent = sent }
begun a b text (Err e) front = front

pub ends_judged : {T E : Type 0} (a b : Option (List ℕ)) (s : State) (trace : History) (statuses : List Status) (outputs : List (List ℕ)) (judgement : Judgement) (r : Result T E)
    → statuses ≡ trace.statuses → trace ≡ s.trace → outputs ≡ map (λ (node : Node). node.output) s.views.nodes → Writes a b (hart_lines 0 statuses outputs ++ judgement_line judgement) r
    → Begins a b (ends_of s ++ judgement_line judgement)
ends_judged a b s trace statuses outputs judgement r these same those sent =
    let told = begun a b (hart_lines 0 statuses outputs ++ judgement_line judgement) r sent in
    subst (λ (ss : List Status). Begins a b (hart_lines 0 ss (map (λ (node : Node). node.output) s.views.nodes) ++ judgement_line judgement)) (these ∙ ap (λ (h : History). h.statuses) same)
    (subst (λ (os : List (List ℕ)). Begins a b (hart_lines 0 statuses os ++ judgement_line judgement)) those told)
