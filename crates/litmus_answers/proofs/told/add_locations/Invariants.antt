use Rattle.std.proofs.Common.{◌≡◌, ◌≤◌, ◌+◌, ◌++◌, length}
use Rattle.litmus_text.specs.Tests.{meaning}
use Rattle.litmus_answers.specs.Layouts.{locations_told}
use Rattle.litmus_answers.proofs.told.add_locations.Given as goal

abbrev pub invariant-loop-rest : goal.invariant-loop-rest
invariant-loop-rest l = record {
  told : l.told.items ++ locations_told (meaning l.test) l.number l.rest ≡ l.initial.told.items ++ locations_told (meaning l.test) 0 l.initial.rest;
  count : l.number + length l.rest ≤ 64;
}

abbrev pub decreases-loop-rest : goal.decreases-loop-rest
decreases-loop-rest l = length l.rest
