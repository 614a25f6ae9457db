use Rattle.std.proofs.Common.{◌≡◌, ◌++◌, length, take, drop}
use Rattle.litmus_parts.specs.Scanning.{until, from}
use Rattle.litmus_parts.proofs.scanning.split_until.Given as goal

abbrev pub invariant-loop-byte : goal.invariant-loop-byte
invariant-loop-byte l = (l.length ≡ l.byte-index) × (until l.marks l.bytes ≡ take l.byte-index l.bytes ++ until l.marks (drop l.byte-index l.bytes)) × (from l.marks l.bytes ≡ from l.marks (drop l.byte-index l.bytes))
