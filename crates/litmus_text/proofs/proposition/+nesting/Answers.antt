use Rattle.std.proofs.Common.{◌-◌, ◌∷◌, [], List, ℕ, Bor}
use Rattle.litmus_parts.specs.declared.step.Step.TheVariants as steps
use Rattle.litmus_text.specs.Propositions.{operand_at, conjunction_of}
use Rattle.litmus_text.proofs.Chains.{chain_end, chain_refuse, chain_more, chain_full}
use Rattle.litmus_text.proofs.Nesting.{conjoined, conjunction_refused, disjoined, disjunction_refused, none_taken, one_taken, all_taken, none_follows, too_many_arrows, no_depth, negated, grouped, related_alone}
use Rattle.litmus_text.proofs.proposition.+nesting.Goals as goal

pub conjunction_at-returns-in-Ok : goal.conjunction_at-returns-in-Ok
conjunction_at-returns-in-Ok t c = conjoined (λ (x : Bor (List ℕ)). x.now) c.args.steps.now.items c.operand_at.new.steps.items c.conjuncts_at.new.steps.items c.in-Ok.rest.now c.conjuncts_at.result (operand_at c.args.depth c.args.harts) c.args.bytes.now c.in-Ok.ensures c.conjuncts_at.ensures

pub conjunction_at-returns-in-Err : goal.conjunction_at-returns-in-Err
conjunction_at-returns-in-Err t c = conjunction_refused c.in-Err.stop (operand_at c.args.depth c.args.harts) c.args.bytes.now c.in-Err.ensures

pub conjuncts_at-returns-in-None : goal.conjuncts_at-returns-in-None
conjuncts_at-returns-in-None t c = chain_end (47 ∷ 92 ∷ []) steps.And (operand_at c.args.depth c.args.harts) c.conjuncts.steps.items 1000 c.conjuncts.taken c.conjuncts.rest.now _ c.conjuncts-test.true c.in-None.ensures c.conjuncts.invariant

pub conjuncts_at-returns-in-Err : goal.conjuncts_at-returns-in-Err
conjuncts_at-returns-in-Err t c = chain_refuse (47 ∷ 92 ∷ []) steps.And (operand_at c.args.depth c.args.harts) c.args.steps.now.items c.conjuncts.steps.items 1000 c.conjuncts.taken c.conjuncts.rest.now c.in-Some.later.now c.in-Err.stop _ c.conjuncts-test.true c.in-Some.ensures c.in-Err.ensures c.conjuncts.invariant

pub conjuncts_at-conjuncts-preserved : goal.conjuncts_at-conjuncts-preserved
conjuncts_at-conjuncts-preserved t c = chain_more (47 ∷ 92 ∷ []) steps.And (operand_at c.args.depth c.args.harts) c.conjuncts.steps.items c.then_operand.new.steps.items 1000 c.conjuncts.taken c.conjuncts.rest.now c.in-Some.later.now c.in-Ok.later.now _ c.conjuncts-test.true c.in-Some.ensures c.in-Ok.ensures c.conjuncts.invariant

pub conjuncts_at-returns : goal.conjuncts_at-returns
conjuncts_at-returns t c = rw c.at.ensures (chain_full (47 ∷ 92 ∷ []) steps.And (operand_at c.args.depth c.args.harts) c.args.steps.now.items c.conjuncts.steps.items 1000 c.conjuncts.taken c.conjuncts.rest.now _ c.conjuncts-test.false c.conjuncts.invariant)

pub disjunction_at-returns-in-Ok : goal.disjunction_at-returns-in-Ok
disjunction_at-returns-in-Ok t c = disjoined (λ (x : Bor (List ℕ)). x.now) c.args.steps.now.items c.conjunction_at.new.steps.items c.disjuncts_at.new.steps.items c.in-Ok.rest.now c.disjuncts_at.result (operand_at c.args.depth c.args.harts) c.args.bytes.now c.in-Ok.ensures c.disjuncts_at.ensures

pub disjunction_at-returns-in-Err : goal.disjunction_at-returns-in-Err
disjunction_at-returns-in-Err t c = disjunction_refused c.in-Err.stop (operand_at c.args.depth c.args.harts) c.args.bytes.now c.in-Err.ensures

pub disjuncts_at-returns-in-None : goal.disjuncts_at-returns-in-None
disjuncts_at-returns-in-None t c = chain_end (92 ∷ 47 ∷ []) steps.Or (conjunction_of (operand_at c.args.depth c.args.harts)) c.disjuncts.steps.items 1000 c.disjuncts.taken c.disjuncts.rest.now _ c.disjuncts-test.true c.in-None.ensures c.disjuncts.invariant

pub disjuncts_at-returns-in-Err : goal.disjuncts_at-returns-in-Err
disjuncts_at-returns-in-Err t c = chain_refuse (92 ∷ 47 ∷ []) steps.Or (conjunction_of (operand_at c.args.depth c.args.harts)) c.args.steps.now.items c.disjuncts.steps.items 1000 c.disjuncts.taken c.disjuncts.rest.now c.in-Some.later.now c.in-Err.stop _ c.disjuncts-test.true c.in-Some.ensures c.in-Err.ensures c.disjuncts.invariant

pub disjuncts_at-disjuncts-preserved : goal.disjuncts_at-disjuncts-preserved
disjuncts_at-disjuncts-preserved t c = chain_more (92 ∷ 47 ∷ []) steps.Or (conjunction_of (operand_at c.args.depth c.args.harts)) c.disjuncts.steps.items c.or_conjunction.new.steps.items 1000 c.disjuncts.taken c.disjuncts.rest.now c.in-Some.later.now c.in-Ok.later.now _ c.disjuncts-test.true c.in-Some.ensures c.in-Ok.ensures c.disjuncts.invariant

pub disjuncts_at-returns : goal.disjuncts_at-returns
disjuncts_at-returns t c = rw c.at.ensures (chain_full (92 ∷ 47 ∷ []) steps.Or (conjunction_of (operand_at c.args.depth c.args.harts)) c.args.steps.now.items c.disjuncts.steps.items 1000 c.disjuncts.taken c.disjuncts.rest.now _ c.disjuncts-test.false c.disjuncts.invariant)

pub operand_at-returns-then-depth-eq0 : goal.operand_at-returns-then-depth-eq0
operand_at-returns-then-depth-eq0 t c = rw c.at.ensures (no_depth c.args.depth c.args.harts c.args.bytes.now c.if-depth-eq0.true)

pub operand_at-returns-in-Some-default : goal.operand_at-returns-in-Some-default
operand_at-returns-in-Some-default t c = rw (negated c.args.depth c.args.harts c.args.bytes.now c.in-Some-default.rest.now c.if-depth-eq0.false c.in-Some-default.ensures) c.then_operand.ensures

pub operand_at-returns-in-None-Some : goal.operand_at-returns-in-None-Some
operand_at-returns-in-None-Some t c = rw (grouped c.args.depth c.args.harts c.args.bytes.now c.in-None-Some.rest.now c.if-depth-eq0.false c.in-None-Some.ensures c.in-None-Some.ensures') c.grouped_at.ensures

pub operand_at-returns-in-None-None : goal.operand_at-returns-in-None-None
operand_at-returns-in-None-None t c = rw (related_alone c.args.depth c.args.harts c.args.bytes.now c.if-depth-eq0.false c.in-None-None.ensures c.in-None-None.ensures') c.add_atom.ensures

pub proposition_of-arrows-init : goal.proposition_of-arrows-init
proposition_of-arrows-init t c = none_taken _ _

pub proposition_of-arrows-preserved : goal.proposition_of-arrows-preserved
proposition_of-arrows-preserved t c = one_taken c.arrows.steps.items c.disjunction_at.new.steps.items c.arrows.taken (operand_at c.args.depth c.args.harts) c.arrows.rest.now c.in-Ok.behind.now c.in-Some.later.now _ c.arrows-test.true c.in-Ok.ensures c.in-Some.ensures c.arrows.invariant

pub proposition_of-returns-in-None : goal.proposition_of-returns-in-None
proposition_of-returns-in-None t c = all_taken (λ (x : Bor (List ℕ)). x.now) c.args.steps.now.items c.arrows.steps.items c.disjunction_at.new.steps.items c.put_arrows.new.steps.items c.arrows.taken (operand_at c.args.depth c.args.harts) c.arrows.rest.now c.in-Ok.behind.now c.put_arrows.result _ c.arrows-test.true c.in-Ok.ensures c.in-None.ensures c.put_arrows.ensures c.arrows.invariant

pub proposition_of-returns-in-Err : goal.proposition_of-returns-in-Err
proposition_of-returns-in-Err t c = none_follows c.in-Err.stop c.args.steps.now.items c.arrows.steps.items c.arrows.taken (operand_at c.args.depth c.args.harts) c.arrows.rest.now _ c.arrows-test.true c.in-Err.ensures c.arrows.invariant

pub proposition_of-returns : goal.proposition_of-returns
proposition_of-returns t c = rw c.at.ensures (too_many_arrows c.args.steps.now.items c.arrows.steps.items c.arrows.taken (operand_at c.args.depth c.args.harts) c.arrows.rest.now _ c.arrows-test.false c.arrows.invariant)
