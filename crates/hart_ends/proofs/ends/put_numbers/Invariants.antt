use Rattle.std.proofs.Common.{take}
use Rattle.std.specs.Io.KnownBytes.{Appends}
use Rattle.std.specs.List.{flat_map}
use Rattle.hart_ends.specs.Ends.{number_text}
use Rattle.hart_ends.proofs.ends.put_numbers.Given as goal

abbrev pub invariant-loop-number : goal.invariant-loop-number
invariant-loop-number g l = Appends (g.W.Write.contents l.initial.out) (g.W.Write.contents l.out) (flat_map number_text (take l.number-index l.numbers))
