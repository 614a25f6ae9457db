-- Operands in a row: a loop that counts down what may still come.
use Rattle.std.proofs.Common.{◌≡◌, ℕ, suc, ◌+◌, ◌-◌, ◌<◌, ◌≤◌, List, [], ◌∷◌, ◌++◌, Some, None, Ok, Err, refl, sym, ap, ◌∙◌, arith}
use Rattle.std.proofs.lemmas.List.{append-nil}
use Rattle.text_words.specs.Words.{symbol_at}
use Rattle.litmus_parts.specs.declared.stop.Cause.TheVariants as causes
use Rattle.litmus_parts.specs.declared.stop.Stop.{Stop}
use Rattle.litmus_parts.specs.declared.stop.Stop.TheVariants.{Memory, At}
use Rattle.litmus_parts.specs.Stops.{Read, at, ◌>>=◌, onto, Refuses}
use Rattle.litmus_parts.proofs.Reading.{onto_then, onto_err}
use Rattle.litmus_parts.specs.declared.step.Step.{Step}
use Rattle.litmus_text.specs.Propositions.{then_step, chain_at}

one_more : (most taken : ℕ) → taken < most → most - taken ≡ suc (most - (taken + 1))
one_more most taken lt = omega arith

none_more : (most taken : ℕ) → most ≤ taken → most - taken ≡ 0
none_more most taken le = omega arith

chain_now : (symbol : List ℕ) (operator : Step) (operand : List ℕ → Read (List Step)) (front : List Step) (most taken : ℕ) (rest : List ℕ) (total : Read (List Step)) → taken < most → onto front (chain_at symbol operator operand (most - taken) rest) ≡ total → onto front (chain_at symbol operator operand (suc (most - (taken + 1))) rest) ≡ total
chain_now symbol operator operand front most taken rest total lt h = let one : most - taken ≡ suc (most - (taken + 1)) = one_more most taken lt in rw one at h

pub chain_more : (symbol : List ℕ) (operator : Step) (operand : List ℕ → Read (List Step)) (front new : List Step) (most taken : ℕ) (rest later behind : List ℕ) (total : Read (List Step)) → taken < most → Some later ≡ symbol_at symbol rest → onto front (then_step operator (operand later)) ≡ Ok (new, behind) → onto front (chain_at symbol operator operand (most - taken) rest) ≡ total → onto new (chain_at symbol operator operand (most - (taken + 1)) behind) ≡ total
unfolding chain_at
chain_more symbol operator operand front new most taken rest later behind total lt some is h =
    let step : onto front (chain_at symbol operator operand (suc (most - (taken + 1))) rest) ≡ onto front (then_step operator (operand later) >>= λ x. onto x.0 (chain_at symbol operator operand (most - (taken + 1)) x.1)) = rw (sym some) refl in
    sym (onto_then front new behind (then_step operator (operand later)) (chain_at symbol operator operand (most - (taken + 1))) is) ∙ sym step ∙ chain_now symbol operator operand front most taken rest total lt h

pub chain_end : (symbol : List ℕ) (operator : Step) (operand : List ℕ → Read (List Step)) (front : List Step) (most taken : ℕ) (rest : List ℕ) (total : Read (List Step)) → taken < most → None ≡ symbol_at symbol rest → onto front (chain_at symbol operator operand (most - taken) rest) ≡ total → total ≡ Ok (front, rest)
unfolding chain_at
chain_end symbol operator operand front most taken rest total lt none h =
    let step : onto front (chain_at symbol operator operand (suc (most - (taken + 1))) rest) ≡ Ok (front ++ [], rest) = rw (sym none) refl in
    sym (chain_now symbol operator operand front most taken rest total lt h) ∙ step ∙ ap (λ (l : List Step). Ok (l, rest)) (append-nil front)

chain_stop : (symbol : List ℕ) (operator : Step) (operand : List ℕ → Read (List Step)) (front : List Step) (most taken : ℕ) (rest later : List ℕ) (stop : Stop) (total : Read (List Step)) → taken < most → Some later ≡ symbol_at symbol rest → then_step operator (operand later) ≡ Err stop → onto front (chain_at symbol operator operand (most - taken) rest) ≡ total → total ≡ Err stop
unfolding chain_at
chain_stop symbol operator operand front most taken rest later stop total lt some is h =
    let step : onto front (chain_at symbol operator operand (suc (most - (taken + 1))) rest) ≡ Err stop = rw (sym some, is) refl in
    sym (chain_now symbol operator operand front most taken rest total lt h) ∙ step

pub chain_refuse : (symbol : List ℕ) (operator : Step) (operand : List ℕ → Read (List Step)) (old front : List Step) (most taken : ℕ) (rest later : List ℕ) (stop : Stop) (whole : Read (List Step)) → taken < most → Some later ≡ symbol_at symbol rest → Refuses stop (then_step operator (operand later)) → onto front (chain_at symbol operator operand (most - taken) rest) ≡ onto old whole → Refuses stop whole
chain_refuse symbol operator operand old front most taken rest later Memory whole lt some is h = tt
chain_refuse symbol operator operand old front most taken rest later (At cause left) whole lt some is h = onto_err old (At cause left) whole (chain_stop symbol operator operand front most taken rest later (At cause left) (onto old whole) lt some is h)

pub chain_full : (symbol : List ℕ) (operator : Step) (operand : List ℕ → Read (List Step)) (old front : List Step) (most taken : ℕ) (rest : List ℕ) (whole : Read (List Step)) → most ≤ taken → onto front (chain_at symbol operator operand (most - taken) rest) ≡ onto old whole → whole ≡ Err (at causes.FewOperands rest)
unfolding chain_at
chain_full symbol operator operand old front most taken rest whole le h =
    let none : most - taken ≡ 0 = none_more most taken le in
    onto_err old (at causes.FewOperands rest) whole (sym (rw none at h))
