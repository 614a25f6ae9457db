use Rattle.std.proofs.Common.{◌≡◌, ◌≤◌, ◌+◌, ◌++◌, length}
use Rattle.litmus_text.specs.Tests.{meaning}
use Rattle.litmus_answers.specs.Layouts.{addresses_from}
use Rattle.litmus_answers.proofs.layout.addresses_of.Given as goal

abbrev pub invariant-loop-rest : goal.invariant-loop-rest
invariant-loop-rest l = record {
  told : l.addresses.items ++ addresses_from (meaning l.test).asking l.number l.rest ≡ addresses_from (meaning l.test).asking 0 l.initial.rest;
  count : l.number + length l.rest ≤ 64;
}

abbrev pub decreases-loop-rest : goal.decreases-loop-rest
decreases-loop-rest l = length l.rest
