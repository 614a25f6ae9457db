use Rattle.std.proofs.Common.{◌+◌, ◌-◌, ◌∙◌, List, ap, arith, drop, find, length, take}
use Rattle.std.proofs.lemmas.Option.{slice_get_within}
use Rattle.std.proofs.lemmas.Result.{IfOk-weaker}
use Rattle.memory_model.specs.declared.operation.Operation.{Operation}
use Rattle.memory_model.specs.Rules.{asked_by}
use Rattle.rvwmo_order.specs.Ranks.{IsIn}
use Rattle.rvwmo_order.specs.Rules.{rule_of}
use Rattle.rvwmo_order.proofs.Bytes.{Each-drop, Each-take, is_in}
use Rattle.rvwmo_order.proofs.Clear.{first_before}
use Rattle.rvwmo_order.proofs.searching.first_behind.Goals as goal

pub first_among-requires-clause-there : goal.first_among-requires-clause-there
first_among-requires-clause-there c = is_in c.args.ranking.now c.args.place c.args.b.now c.requires.distinct c.requires.there

pub first_among-requires-clause-each : goal.first_among-requires-clause-each
first_among-requires-clause-each c =
    let P = IsIn c.args.ranking.now in
    let order = c.order-order.result.now in
    Each-take P (c.min-end.result - (c.args.place + 1)) (drop (c.args.place + 1) order) (Each-drop P (c.args.place + 1) order (rw c.order-order.ensures.order c.order-order.ensures.each))

pub returns : goal.returns
returns c =
    let order = c.args.ranking.now in
    let end = c.min-end.result in
    let p = c.args.place + 1 in
    let long = ap length c.order-order.ensures.order in
    IfOk-weaker c.first_among.result _ _ (λ v e. e
    ∙ (ap (λ (xs : List Operation). find (λ a. asked_by c.args.model c.args.harts.now order (rule_of c.args.rule) a c.args.b.now) (take (end - p) (drop p xs))) c.order-order.ensures.order
    ∙ first_before (λ a. asked_by c.args.model c.args.harts.now order (rule_of c.args.rule) a c.args.b.now) order p end (λ k a l h. c.requires.bounded k a (let inside = slice_get_within order k a h in omega (arith, inside, l, long, c.min-end.ensures)) h))) c.first_among.ensures
