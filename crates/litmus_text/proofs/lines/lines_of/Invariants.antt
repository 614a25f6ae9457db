use Rattle.std.proofs.Common.{◌≡◌, length}
use Rattle.litmus_text.specs.Lines.{lines_of, before}
use Rattle.litmus_text.proofs.lines.lines_of.Given as goal

abbrev pub invariant-loop-rest : goal.invariant-loop-rest
invariant-loop-rest l = before l.found.items (lines_of l.bytes l.rest) ≡ lines_of l.bytes l.initial.rest

abbrev pub decreases-loop-rest : goal.decreases-loop-rest
decreases-loop-rest l = length l.rest
