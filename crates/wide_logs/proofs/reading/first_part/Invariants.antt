use Rattle.std.proofs.Common.{◌≡◌, map, take}
use Rattle.wide_logs.specs.Entries.{first_of}
use Rattle.wide_logs.proofs.reading.first_part.Given as goal

abbrev pub invariant-loop-entry : goal.invariant-loop-entry
invariant-loop-entry l = l.part.items ≡ map first_of (take l.entry-index l.entries)
