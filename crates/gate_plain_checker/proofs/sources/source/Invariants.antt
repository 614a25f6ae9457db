use Rattle.std.proofs.Common.{◌≡◌, length}
use Rattle.std.specs.List.{last_or}
use Rattle.memory_model.specs.Order.{source}
use Rattle.gate_plain_checker.proofs.Seen.{to_see}
use Rattle.gate_plain_checker.proofs.sources.source.Given as goal

abbrev pub invariant-loop-rest : goal.invariant-loop-rest
invariant-loop-rest l = source l.order l.load l.x ≡ last_or l.last (to_see l.is_behind l.load l.x l.rest)

abbrev pub decreases-loop-rest : goal.decreases-loop-rest
decreases-loop-rest l = length l.rest
