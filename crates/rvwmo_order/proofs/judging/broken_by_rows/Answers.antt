use Rattle.std.proofs.Common.{◌≡◌, ap, arith, length, sym}
use Rattle.rvwmo_order.specs.Scans.{all_rules, first_broken_rule}
use Rattle.rvwmo_order.proofs.Clear.{none_broken}
use Rattle.rvwmo_order.proofs.judging.broken_by_rows.Goals as goal

pub returns-then-are_clear : goal.returns-then-are_clear
returns-then-are_clear c =
    let same : c.order.result.now ≡ c.args.ranking.now = c.order.ensures.order in
    let long = ap length same in
    sym (none_broken c.args.model c.args.harts.now c.args.ranking.now c.args.rows.now c.requires.distinct c.requires.ranked (λ p l. c.are_clear.ensures.0 c.if-are_clear.true p (omega (arith, l, long))) all_rules)

pub loop-left-init : goal.loop-left-init
loop-left-init c = ap (first_broken_rule c.args.model c.args.harts.now c.args.ranking.now) (sym c.as_slice-left.ensures)
