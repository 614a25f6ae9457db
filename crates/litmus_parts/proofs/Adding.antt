-- Functions that add to a list, one after the other.
use Rattle.std.proofs.Common.{◌≡◌, ℕ, List, [], ◌∷◌, ◌++◌, Some, None, Ok, Err, length, refl, sym, ap, ◌∙◌}
use Rattle.std.specs.Prelude.{Result, codes}
use Rattle.text_fields.specs.Reading.{after}
use Rattle.text_words.specs.Words.{skip}
use Rattle.litmus_parts.specs.declared.rows.Item.{Item}
use Rattle.litmus_parts.specs.declared.rows.Item.TheVariants.{Instruction}
use Rattle.litmus_parts.specs.declared.stop.Cause.TheVariants as causes
use Rattle.litmus_parts.specs.Scanning.{until, from}
use Rattle.litmus_parts.specs.Rows.{with_end, instruction_at}
use Rattle.litmus_parts.specs.declared.stop.Stop.{Stop}
use Rattle.litmus_parts.specs.declared.stop.Stop.TheVariants.{Memory, At}
use Rattle.litmus_parts.specs.Stops.{Read, here, ◌>>=◌, onto, Refuses, Adds}
use Rattle.litmus_parts.proofs.Reading.{onto_then, refuses_then}

pub then_refuses : {A : Type 0} (old new : List A) (rest : List ℕ) (stop : Stop) (read : Read (List A)) (more : List ℕ → Read (List A)) → onto old read ≡ Ok (new, rest) → Refuses stop (more rest) → Refuses stop (read >>= λ x. onto x.0 (more x.1))
then_refuses old new rest Memory read more h k = tt
then_refuses {A} old new rest (At cause left) (Ok x) more h k =
    let both : (old ++ x.0, x.1) ≡ (new, rest) = cc h in
    let same : x.1 ≡ rest = ap (λ (p : List A × List ℕ). p.1) both in
    ap (λ (r : List ℕ). onto x.0 (more r)) same ∙ (rw k refl)
then_refuses old new rest (At cause left) (Err e) more h k = cc h

pub adds_both : {A X : Type 0} (view : X → List ℕ) (old middle new : List A) (rest : List ℕ) (result : Result X Stop) (read : Read (List A)) (more : List ℕ → Read (List A)) → onto old read ≡ Ok (middle, rest) → Adds view middle new result (more rest) → Adds view old new result (read >>= λ x. onto x.0 (more x.1))
adds_both view old middle new rest (Ok behind) read more h k = onto_then old middle rest read more h ∙ k
adds_both view old middle new rest (Err stop) read more h k = then_refuses old middle rest stop read more h k

pub adds_stops : {A X : Type 0} (view : X → List ℕ) (old new : List A) (stop : Stop) (read : Read (List A)) (more : List A × List ℕ → Read (List A)) → Adds view old new (Err stop) read → Adds view old new (Err stop) (read >>= more)
adds_stops view old new stop read more h = refuses_then stop read more h

-- ---- what stands in a cell behind its labels

pub instruction_added : (hart end : ℕ) (bytes start text behind rest : List ℕ) (old new : List Item) → start ≡ skip bytes → text ≡ until (codes "|;") start → behind ≡ from (codes "|;") start → Some rest ≡ after (end ∷ []) behind → new ≡ old ++ Instruction hart (length start) (length text) ∷ [] → onto old (instruction_at hart end bytes) ≡ Ok (new, rest)
unfolding instruction_at
instruction_added hart end bytes start text behind rest old new one two three four five =
    let four' : Some rest ≡ after (end ∷ []) (from (codes "|;") start) = four ∙ ap (after (end ∷ [])) three in
    let made : onto old (with_end hart (after (end ∷ []) (from (codes "|;") start)) start) ≡ Ok (old ++ Instruction hart (length start) (length (until (codes "|;") start)) ∷ [], rest) = rw (sym four') refl in
    ap (λ (l : List ℕ). onto old (with_end hart (after (end ∷ []) (from (codes "|;") l)) l)) (sym one)
    ∙ made
    ∙ ap (λ (l : List ℕ). Ok (old ++ Instruction hart (length start) (length l) ∷ [], rest)) (sym two)
    ∙ ap (λ (l : List Item). Ok (l, rest)) (sym five)

pub instruction_misplaced : (hart end : ℕ) (bytes start behind : List ℕ) → start ≡ skip bytes → behind ≡ from (codes "|;") start → None ≡ after (end ∷ []) behind → Refuses (here causes.Cell start) (instruction_at hart end bytes)
unfolding instruction_at
instruction_misplaced hart end bytes start behind one two three =
    let three' : None ≡ after (end ∷ []) (from (codes "|;") start) = three ∙ ap (after (end ∷ [])) two in
    let made : with_end hart (after (end ∷ []) (from (codes "|;") start)) start ≡ Err (here causes.Cell start) = rw (sym three') refl in
    ap (λ (l : List ℕ). with_end hart (after (end ∷ []) (from (codes "|;") l)) l) (sym one) ∙ made
