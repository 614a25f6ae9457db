use Rattle.std.proofs.Common.{sym, subst}
use Rattle.trace_text.specs.TraceRefusals.{IsTraceRefusal}
use Rattle.trace_text.proofs.TraceRefusals.{refused_ahead, refused_behind}
use Rattle.trace_text.proofs.trace_faults.fault_at.Goals as goal

pub returns-in-None : goal.returns-in-None
returns-in-None c =
    subst (λ cause. IsTraceRefusal c.args.bytes.now (record { line = c.line_at-line.result.0; code = c.header_code.result; cause = cause })) (sym c.trace_cause.ensures)
    (refused_ahead c.args.bytes.now c.header_left.result c.line_at-line.result.0 c.line_at-line.result.1.now c.header_code.result
    c.in-None.ensures.value c.header_left.ensures c.line_at-line.ensures.line c.line_at-line.ensures.rest c.header_code.ensures)

pub returns-in-Some : goal.returns-in-Some
returns-in-Some c =
    subst (λ cause. IsTraceRefusal c.args.bytes.now (record { line = c.line_at-line-in-Some.result.0; code = c.code_at.result; cause = cause })) (sym c.trace_cause-in-Some.ensures)
    (refused_behind c.args.bytes.now c.in-Some.head _ c.args.left c.line_at-line-in-Some.result.0 c.line_at-line-in-Some.result.1.now c.code_at.result
    c.in-Some.ensures.value c.requires c.line_at-line-in-Some.ensures.fits c.line_at-line-in-Some.ensures.line c.line_at-line-in-Some.ensures.rest c.code_at.ensures)
