use Rattle.std.proofs.Common.{arith}
use Rattle.trace_text.proofs.spellings.spell_name.Goals as goal

pub returns-in-AcquireBlock-clause-value : goal.returns-in-AcquireBlock-clause-value
returns-in-AcquireBlock-clause-value c = rw c.in-AcquireBlock.is c.text.ensures.value

pub returns-in-AcquireBlock-clause-len : goal.returns-in-AcquireBlock-clause-len
returns-in-AcquireBlock-clause-len c = omega arith

pub returns-in-ProbeBlock-clause-value : goal.returns-in-ProbeBlock-clause-value
returns-in-ProbeBlock-clause-value c = rw c.in-ProbeBlock.is c.text-in-ProbeBlock.ensures.value

pub returns-in-ProbeBlock-clause-len : goal.returns-in-ProbeBlock-clause-len
returns-in-ProbeBlock-clause-len c = omega arith

pub returns-in-ProbeAck-clause-value : goal.returns-in-ProbeAck-clause-value
returns-in-ProbeAck-clause-value c = rw c.in-ProbeAck.is c.text-in-ProbeAck.ensures.value

pub returns-in-ProbeAck-clause-len : goal.returns-in-ProbeAck-clause-len
returns-in-ProbeAck-clause-len c = omega arith

pub returns-in-ProbeAckData-clause-value : goal.returns-in-ProbeAckData-clause-value
returns-in-ProbeAckData-clause-value c = rw c.in-ProbeAckData.is c.text-in-ProbeAckData.ensures.value

pub returns-in-ProbeAckData-clause-len : goal.returns-in-ProbeAckData-clause-len
returns-in-ProbeAckData-clause-len c = omega arith

pub returns-in-Release-clause-value : goal.returns-in-Release-clause-value
returns-in-Release-clause-value c = rw c.in-Release.is c.text-in-Release.ensures.value

pub returns-in-Release-clause-len : goal.returns-in-Release-clause-len
returns-in-Release-clause-len c = omega arith

pub returns-in-ReleaseData-clause-value : goal.returns-in-ReleaseData-clause-value
returns-in-ReleaseData-clause-value c = rw c.in-ReleaseData.is c.text-in-ReleaseData.ensures.value

pub returns-in-ReleaseData-clause-len : goal.returns-in-ReleaseData-clause-len
returns-in-ReleaseData-clause-len c = omega arith

pub returns-in-Grant-clause-value : goal.returns-in-Grant-clause-value
returns-in-Grant-clause-value c = rw c.in-Grant.is c.text-in-Grant.ensures.value

pub returns-in-Grant-clause-len : goal.returns-in-Grant-clause-len
returns-in-Grant-clause-len c = omega arith

pub returns-in-GrantData-clause-value : goal.returns-in-GrantData-clause-value
returns-in-GrantData-clause-value c = rw c.in-GrantData.is c.text-in-GrantData.ensures.value

pub returns-in-GrantData-clause-len : goal.returns-in-GrantData-clause-len
returns-in-GrantData-clause-len c = omega arith

pub returns-in-ReleaseAck-clause-value : goal.returns-in-ReleaseAck-clause-value
returns-in-ReleaseAck-clause-value c = rw c.in-ReleaseAck.is c.text-in-ReleaseAck.ensures.value

pub returns-in-ReleaseAck-clause-len : goal.returns-in-ReleaseAck-clause-len
returns-in-ReleaseAck-clause-len c = omega arith

pub returns-in-GrantAck-clause-value : goal.returns-in-GrantAck-clause-value
returns-in-GrantAck-clause-value c = rw c.in-GrantAck.is c.text-in-GrantAck.ensures.value

pub returns-in-GrantAck-clause-len : goal.returns-in-GrantAck-clause-len
returns-in-GrantAck-clause-len c = omega arith
