use Rattle.std.proofs.Common.{◌≡◌, length}
use Rattle.litmus_text.specs.Tests.{meaning}
use Rattle.litmus_answers.specs.Layouts.{ArePartsFrom}
use Rattle.litmus_answers.proofs.parts.parts_of.Given as goal

abbrev pub invariant-loop-hart : goal.invariant-loop-hart
invariant-loop-hart l = record {
  each : ArePartsFrom (meaning l.test) l.names 0 l.parts.items;
  count : length l.parts.items ≡ l.hart;
}
