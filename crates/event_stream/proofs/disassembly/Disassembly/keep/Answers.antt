use Rattle.std.proofs.lemmas.List.Elements.{All-set}
use Rattle.event_stream.specs.Disassembly.{IfKept}
use Rattle.event_stream.proofs.disassembly.Disassembly.keep.Goals as goal

pub returns-then-text-le-LONGEST : goal.returns-then-text-le-LONGEST
returns-then-text-le-LONGEST c = λ names kept is.
    All-set (IfKept names) _ _ _ (rw (c.kept_of.ensures.pc, c.kept_of.ensures.word, c.kept_of.ensures.text) is) kept
