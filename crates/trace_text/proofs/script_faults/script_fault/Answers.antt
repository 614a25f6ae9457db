use Rattle.std.proofs.Common.{refl}
use Rattle.trace_text.proofs.Refusals.{refused_of}
use Rattle.trace_text.proofs.script_faults.script_fault.Goals as goal

pub returns-in-Memory-clause-refused : goal.returns-in-Memory-clause-refused
returns-in-Memory-clause-refused c = λ other. absurd (other refl)

pub returns-in-Bytes-clause-refused : goal.returns-in-Bytes-clause-refused
returns-in-Bytes-clause-refused c = λ other.
    refused_of c.args.bytes.now c.args.stop _ c.left.result c.line_at-line.result.0 c.line_at-line.result.1.now c.code_at.result c.script_cause.result
    c.in-Bytes.is c.left.ensures c.line_at-line.ensures.fits c.requires c.line_at-line.ensures.line c.line_at-line.ensures.rest c.code_at.ensures c.script_cause.ensures
