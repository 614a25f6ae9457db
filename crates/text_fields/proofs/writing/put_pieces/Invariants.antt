use Rattle.std.proofs.Common.{take}
use Rattle.std.specs.Io.KnownBytes.{Appends}
use Rattle.text_fields.specs.Writing.{pieces}
use Rattle.text_fields.proofs.writing.put_pieces.Given as goal

abbrev pub invariant-loop-part : goal.invariant-loop-part
invariant-loop-part g l = Appends (g.W.Write.contents l.initial.out) (g.W.Write.contents l.out) (pieces (take l.part-index l.parts))
