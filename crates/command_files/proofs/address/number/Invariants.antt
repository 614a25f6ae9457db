use Rattle.std.proofs.Common.{◌≡◌, length}
use Rattle.command_files.specs.Addresses.{number_from}
use Rattle.command_files.proofs.address.number.Given as goal

abbrev pub invariant-loop-rest : goal.invariant-loop-rest
invariant-loop-rest l = number_from l.radix l.value l.rest ≡ number_from l.radix 0 l.digits

abbrev pub decreases-loop-rest : goal.decreases-loop-rest
decreases-loop-rest l = length l.rest
