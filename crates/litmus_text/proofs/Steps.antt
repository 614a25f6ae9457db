-- An operator behind its operands.
use Rattle.std.proofs.Common.{◌≡◌, ℕ, List, [], ◌∷◌, ◌++◌, refl, sym, ap, ◌∙◌, append_assoc, Ok, Err}
use Rattle.std.specs.Prelude.{Result}
use Rattle.litmus_parts.specs.declared.stop.Stop.{Stop}
use Rattle.litmus_parts.specs.declared.stop.Stop.TheVariants.{Memory, At}
use Rattle.litmus_parts.specs.Stops.{Read, onto, Refuses, Adds}
use Rattle.litmus_parts.specs.declared.step.Step.{Step}
use Rattle.litmus_text.specs.Propositions.{then_step}

onto_step : (old middle : List Step) (step : Step) (rest : List ℕ) (read : Read (List Step)) → onto old read ≡ Ok (middle, rest) → onto old (then_step step read) ≡ Ok (middle ++ step ∷ [], rest)
onto_step old middle step rest (Ok x) h =
    let both : (old ++ x.0, x.1) ≡ (middle, rest) = cc h in
    let front : old ++ x.0 ≡ middle = ap (λ (p : List Step × List ℕ). p.0) both in
    let same : x.1 ≡ rest = ap (λ (p : List Step × List ℕ). p.1) both in
    ap (λ (l : List Step). Ok (l, x.1)) (sym (append_assoc old x.0 (step ∷ [])) ∙ ap (λ (l : List Step). l ++ step ∷ []) front)
    ∙ ap (λ (r : List ℕ). Ok (middle ++ step ∷ [], r)) same
onto_step old middle step rest (Err stop) h = cc h

pub step_added : {X : Type 0} (view : X → List ℕ) (old middle new : List Step) (step : Step) (rest : List ℕ) (result : Result X Stop) (read : Read (List Step)) → onto old read ≡ Ok (middle, rest) → Adds view middle new result (Ok (step ∷ [], rest)) → Adds view old new result (then_step step read)
step_added view old middle new step rest (Ok x) read h k = onto_step old middle step rest read h ∙ k
step_added view old middle new step rest (Err Memory) read h k = tt
step_added view old middle new step rest (Err (At cause left)) read h k = absurd (cc k)

pub step_refused : {X : Type 0} (view : X → List ℕ) (old new : List Step) (step : Step) (stop : Stop) (read : Read (List Step)) → Adds view old new (Err stop) read → Adds view old new (Err stop) (then_step step read)
step_refused view old new step Memory read h = tt
step_refused view old new step (At cause left) read h = rw h refl
