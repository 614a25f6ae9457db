use Rattle.std.proofs.Common.{◌≡◌, Some, length}
use Rattle.memory_model.specs.Legal.{behind}
use Rattle.gate_plain_checker.proofs.judging.behind_store.Given as goal

abbrev pub invariant-loop-rest : goal.invariant-loop-rest
invariant-loop-rest l = behind (Some l.store) l.order ≡ behind (Some l.store) l.rest

abbrev pub decreases-loop-rest : goal.decreases-loop-rest
decreases-loop-rest l = length l.rest
