use Rattle.std.proofs.Common.{◌≡◌, length}
use Rattle.rvwmo_order.specs.Scans.{all_rules, first_broken_rule}
use Rattle.gate_plain_checker.proofs.judging.broken_rule.Given as goal

abbrev pub invariant-loop-left : goal.invariant-loop-left
invariant-loop-left l = first_broken_rule l.model l.harts l.order all_rules ≡ first_broken_rule l.model l.harts l.order l.left

abbrev pub decreases-loop-left : goal.decreases-loop-left
decreases-loop-left l = length l.left
