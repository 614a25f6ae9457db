use Rattle.std.proofs.Common.{ℕ, ◌<◌}
use Rattle.lawful_log.specs.Awaited.{OwesNothing}
use Rattle.lawful_log.proofs.awaited.first_awaited.Given as goal

-- the harts before this one have answered
abbrev pub invariant-loop-hart : goal.invariant-loop-hart
invariant-loop-hart l = (h : ℕ) → h < l.hart → OwesNothing h l.line l.log
