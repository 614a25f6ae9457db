use Rattle.std.proofs.Common.{◌≡◌, length}
use Rattle.rvwmo_order.specs.Rules.{rule_of}
use Rattle.rvwmo_order.specs.Scans.{first_out_of_order}
use Rattle.memory_model.specs.Rules.{asked_by}
use Rattle.gate_plain_checker.proofs.judging.first_out_of_order.Given as goal

abbrev pub invariant-loop-rest : goal.invariant-loop-rest
invariant-loop-rest l = first_out_of_order (asked_by l.model l.harts l.order (rule_of l.rule)) l.order ≡ first_out_of_order (asked_by l.model l.harts l.order (rule_of l.rule)) l.rest

abbrev pub decreases-loop-rest : goal.decreases-loop-rest
decreases-loop-rest l = length l.rest
