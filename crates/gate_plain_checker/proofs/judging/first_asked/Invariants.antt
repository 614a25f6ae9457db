use Rattle.std.proofs.Common.{◌≡◌, length, find}
use Rattle.rvwmo_order.specs.Rules.{rule_of}
use Rattle.memory_model.specs.Rules.{asked_by}
use Rattle.gate_plain_checker.proofs.judging.first_asked.Given as goal

abbrev pub invariant-loop-rest : goal.invariant-loop-rest
invariant-loop-rest l = find (λ a. asked_by l.model l.harts l.order (rule_of l.rule) a l.b) l.behind ≡ find (λ a. asked_by l.model l.harts l.order (rule_of l.rule) a l.b) l.rest

abbrev pub decreases-loop-rest : goal.decreases-loop-rest
decreases-loop-rest l = length l.rest
