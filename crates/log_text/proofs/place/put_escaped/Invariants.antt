use Rattle.std.proofs.Common.{take}
use Rattle.std.specs.Char.Escape.{escape_ascii}
use Rattle.std.specs.Io.KnownBytes.{Appends}
use Rattle.std.specs.List.{flat_map}
use Rattle.log_text.proofs.place.put_escaped.Given as goal

abbrev pub invariant-loop-byte : goal.invariant-loop-byte
invariant-loop-byte g l = Appends (g.W.Write.contents l.initial.out) (g.W.Write.contents l.out) (flat_map escape_ascii (take l.byte-index l.name))
