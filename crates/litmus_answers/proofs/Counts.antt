-- States counted one by one.
use Rattle.std.proofs.Common.{◌≡◌, ℕ, ◌-◌, ◌≤◌, List, [], ◌∷◌, length, take, drop, get_or, ap, ◌∙◌, arith}
use Rattle.std.proofs.lemmas.Grind.{common_steps}
use Rattle.std.specs.Global.{Vec}
use Rattle.litmus_parts.specs.declared.step.Step.{Step}
use Rattle.litmus_parts.specs.declared.told.Told.{Told}
use Rattle.litmus_answers.specs.declared.answer.Tally.{Tally}
use Rattle.litmus_answers.specs.Holding.{holds}
use Rattle.litmus_answers.specs.Answers.{counted, tally_on}

tail_is : (x : Vec ℕ) (rest : List (Vec ℕ)) → take (length (x ∷ rest) - 1) (drop 1 (x ∷ rest)) ≡ rest
tail_is x rest = grind (arith, common_steps)

pub tally_step : (names : List (Vec ℕ)) (told : List Told) (steps : List Step) (t total : Tally) (rest : List (Vec ℕ)) (s : Vec ℕ) → 1 ≤ length rest → s ≡ get_or rest 0 s → tally_on names told steps t rest ≡ total → tally_on names told steps (counted (holds names told s.items steps) t) (take (length rest - 1) (drop 1 rest)) ≡ total
tally_step names told steps t total [] s le e h = absurd (omega arith)
tally_step names told steps t total (x ∷ rest) s le e h =
    let same : s ≡ x = e in
    ap (λ (l : List (Vec ℕ)). tally_on names told steps (counted (holds names told s.items steps) t) l) (tail_is x rest)
    ∙ ap (λ (y : Vec ℕ). tally_on names told steps (counted (holds names told y.items steps) t) rest) same
    ∙ h
