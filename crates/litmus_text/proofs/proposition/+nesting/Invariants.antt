use Rattle.std.proofs.Common.{◌≡◌, ◌+◌, ◌-◌, ◌*◌, [], ◌∷◌}
use Rattle.litmus_parts.specs.Stops.{onto}
use Rattle.litmus_parts.specs.declared.step.Step.TheVariants as steps
use Rattle.litmus_text.specs.Propositions.{chain_at, operand_at, conjunction_of, proposition_of}
use Rattle.litmus_text.proofs.Nesting.{with_arrows}
use Rattle.litmus_text.proofs.proposition.+nesting.Given as goal

abbrev pub decreases-operand_at : goal.decreases-operand_at
decreases-operand_at l = 1000 * l.depth

abbrev pub decreases-then_operand : goal.decreases-then_operand
decreases-then_operand l = 1000 * l.depth + 1

abbrev pub decreases-conjuncts_at : goal.decreases-conjuncts_at
decreases-conjuncts_at l = 1000 * l.depth + 2

abbrev pub decreases-conjunction_at : goal.decreases-conjunction_at
decreases-conjunction_at l = 1000 * l.depth + 3

abbrev pub decreases-or_conjunction : goal.decreases-or_conjunction
decreases-or_conjunction l = 1000 * l.depth + 4

abbrev pub decreases-disjuncts_at : goal.decreases-disjuncts_at
decreases-disjuncts_at l = 1000 * l.depth + 5

abbrev pub decreases-disjunction_at : goal.decreases-disjunction_at
decreases-disjunction_at l = 1000 * l.depth + 6

abbrev pub decreases-proposition_of : goal.decreases-proposition_of
decreases-proposition_of l = 1000 * l.depth + 7

abbrev pub decreases-grouped_at : goal.decreases-grouped_at
decreases-grouped_at l = 1000 * l.depth + 8

abbrev pub invariant-conjuncts_at-conjuncts : goal.invariant-conjuncts_at-conjuncts
invariant-conjuncts_at-conjuncts l = onto l.steps.items (chain_at (47 ∷ 92 ∷ []) steps.And (operand_at l.depth l.harts) (1000 - l.taken) l.rest) ≡ onto l.initial.steps.items (chain_at (47 ∷ 92 ∷ []) steps.And (operand_at l.depth l.harts) 1000 l.bytes)

abbrev pub invariant-disjuncts_at-disjuncts : goal.invariant-disjuncts_at-disjuncts
invariant-disjuncts_at-disjuncts l = onto l.steps.items (chain_at (92 ∷ 47 ∷ []) steps.Or (conjunction_of (operand_at l.depth l.harts)) (1000 - l.taken) l.rest) ≡ onto l.initial.steps.items (chain_at (92 ∷ 47 ∷ []) steps.Or (conjunction_of (operand_at l.depth l.harts)) 1000 l.bytes)

abbrev pub invariant-proposition_of-arrows : goal.invariant-proposition_of-arrows
invariant-proposition_of-arrows l = onto l.steps.items (with_arrows l.taken (proposition_of (64 - l.taken) (operand_at l.depth l.harts) l.rest)) ≡ onto l.initial.steps.items (proposition_of 64 (operand_at l.depth l.harts) l.bytes)
