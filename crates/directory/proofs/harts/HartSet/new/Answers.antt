use Rattle.directory.proofs.Bytes.{bits_of-members, members-none}
use Rattle.std.proofs.Common.{arith}
use Rattle.directory.proofs.harts.HartSet.new.Goals as goal

pub invariant_of-result : goal.invariant_of-result
invariant_of-result c = bits_of-members 0 (omega arith)

pub returns : goal.returns
returns c = members-none
