use Rattle.std.proofs.Common.{All, take}
use Rattle.architecture_outcomes.specs.Words.{CanShow}
use Rattle.litmus_command.proofs.program.can_show_each.Given as goal

abbrev pub invariant-loop-address : goal.invariant-loop-address
invariant-loop-address l = All (CanShow l.image) (take l.address-index l.addresses)
