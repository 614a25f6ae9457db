-- The lines of how harts ended.
use Rattle.std.proofs.Common.{◌≡◌, ℕ, ◌+◌, ◌-◌, ◌≤◌, List, [], ◌∷◌, ◌++◌, ◌∙◌, Ok, Err, Option, Result, append_assoc, ap, ap₂, arith, drop, get_or, length, map, refl, suc, subst, sym, take}
use Rattle.std.proofs.lemmas.List.{append-nil}
use Rattle.std.proofs.Math.Seq.{take-length}
use Rattle.command_files.specs.Ends.{hart_line, hart_lines, ends_of}
use Rattle.hart.specs.declared.status.Status.{Status}
use Rattle.machine_model.specs.Views.{Node, State}
use Rattle.text_fields.specs.Writing.{Begins, Writes}
use Rattle.trace_recorder.specs.History.{History}

behind_first : {X : Type 0} (xs : List X) → take (suc (length xs) - 1) xs ≡ xs
behind_first xs = let less : suc (length xs) - 1 ≡ length xs = omega arith in ap (λ n. take n xs) less ∙ take-length xs

-- the first line, and those behind it
pub first_line : {X : Type 0} (items : X → List ℕ) (hart : ℕ) (left : List Status) (others : List X) (s : Status) (o : X) → 1 ≤ length left → 1 ≤ length others
    → hart_lines hart left (map items others) ≡ hart_line hart (get_or left 0 s) (items (get_or others 0 o)) ++ hart_lines (hart + 1) (take (length left - 1) (drop 1 left)) (map items (take (length others - 1) (drop 1 others)))
first_line items hart [] others s o left_some others_some = absurd (omega (arith, left_some))
first_line items hart (x ∷ xs) [] s o left_some others_some = absurd (omega (arith, others_some))
first_line {X} items hart (x ∷ xs) (y ∷ ys) s o left_some others_some =
    ap₂ (λ (a : List Status) (b : List X). hart_line hart x (items y) ++ hart_lines (hart + 1) a (map items b)) (sym (behind_first xs)) (sym (behind_first ys))

-- whatever was answered, a beginning went out
begun : {T E : Type 0} (a b : Option (List ℕ)) (text : List ℕ) (r : Result T E) → Writes a b text r → Begins a b text
begun a b text (Ok x) sent = record { front = text; rest = []; parts = sym (append-nil text); sent = sent }
begun a b text (Err e) front = front

pub ends_begun : {T E : Type 0} (a b : Option (List ℕ)) (s : State) (trace : History) (statuses : List Status) (outputs : List (List ℕ)) (r : Result T E)
    → statuses ≡ trace.statuses → trace ≡ s.trace → outputs ≡ map (λ (node : Node). node.output) s.views.nodes → Writes a b (hart_lines 0 statuses outputs) r → Begins a b (ends_of s)
ends_begun a b s trace statuses outputs r these same those sent =
    let told = begun a b (hart_lines 0 statuses outputs) r sent in
    subst (λ (ss : List Status). Begins a b (hart_lines 0 ss (map (λ (node : Node). node.output) s.views.nodes))) (these ∙ ap (λ (h : History). h.statuses) same) (subst (λ (os : List (List ℕ)). Begins a b (hart_lines 0 statuses os)) those told)
