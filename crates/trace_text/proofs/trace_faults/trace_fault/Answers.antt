use Rattle.std.proofs.Common.{refl}
use Rattle.trace_text.proofs.trace_faults.trace_fault.Goals as goal

pub returns-in-Memory-clause-refused : goal.returns-in-Memory-clause-refused
returns-in-Memory-clause-refused c = λ other. absurd (other refl)

pub returns-in-Bytes-clause-refused : goal.returns-in-Bytes-clause-refused
returns-in-Bytes-clause-refused c = λ other. c.fault_at.ensures
