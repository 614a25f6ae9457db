use Rattle.std.proofs.Common.{◌≡◌, suc, ◌^◌, ◌<◌, take}
use Rattle.trace_text.specs.Refusals.{line_feeds}
use Rattle.trace_text.proofs.fault.line_at.Given as goal

abbrev pub invariant-loop-byte : goal.invariant-loop-byte
invariant-loop-byte l = suc (line_feeds (take l.byte-index l.before)) < 2 ^ 64 → l.line ≡ suc (line_feeds (take l.byte-index l.before))
