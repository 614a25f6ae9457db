use Rattle.std.proofs.Common.{◌-◌, ◌∙◌, List, ℕ, ap, drop, find, get_or, length}
use Rattle.std.specs.Prelude.{slice_index_or}
use Rattle.memory_model.specs.declared.operation.Operation.{Operation}
use Rattle.memory_model.specs.Rules.{asked_by}
use Rattle.rvwmo_order.specs.Bounds.{bound_of, unbounded}
use Rattle.rvwmo_order.specs.Rules.{rule_of}
use Rattle.rvwmo_order.specs.declared.bounds.rows.Row.{Row}
use Rattle.rvwmo_order.specs.declared.rule.Rule.{Rule}
use Rattle.rvwmo_order.specs.Ranks.{IsIn}
use Rattle.rvwmo_order.proofs.Bytes.{Each-drop, is_in}
use Rattle.std.proofs.lemmas.Result.{IfOk-weaker}
use Rattle.rvwmo_order.proofs.Clear.{first_left}
use Rattle.rvwmo_order.proofs.searching.first_by_weights.Goals as goal

pub first_among-requires-clause-there : goal.first_among-requires-clause-there
first_among-requires-clause-there c = is_in c.args.ranking.now c.args.place c.args.b.now c.requires.distinct c.requires.there

pub first_among-requires-clause-each : goal.first_among-requires-clause-each
first_among-requires-clause-each c = rw c.behind-among.ensures (Each-drop (IsIn c.args.ranking.now) c.max.result c.order.result.now (rw c.order.ensures.order c.order.ensures.each))

pub returns : goal.returns
returns c =
    let bound = c.bound_at.ensures ∙ ap (λ (rows : List Row). bound_of c.args.rule (slice_index_or rows c.args.place unbounded)) c.deref-2.ensures.value in
    let among = c.behind-among.ensures ∙ ap (λ (xs : List Operation). drop c.max.result xs) c.order.ensures.order in
    IfOk-weaker c.first_among.result _ _ (λ v e. e
    ∙ (ap (λ (xs : List Operation). find (λ a. asked_by c.args.model c.args.harts.now c.args.ranking.now (rule_of c.args.rule) a c.args.b.now) xs) among
    ∙ first_left c.args.model c.args.harts.now c.args.ranking.now c.deref.result.now c.in_ok-rows.rows.items c.args.rule c.args.place (length c.order-count.result.now) c.saturating_sub-first.result c.max.result c.args.b.now c.requires.distinct c.in_ok-rows.ensures (ap length c.order-count.ensures.order) c.requires.there
    (λ k l m. ap (λ (xs : List ℕ). get_or xs k 0) c.deref.ensures.value ∙ c.in_ok-weights.ensures k l m)
    (c.saturating_sub-first.ensures ∙ ap (λ (n : ℕ). length c.order-count.result.now - n) bound) c.max.ensures)) c.first_among.ensures
