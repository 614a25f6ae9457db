use Rattle.std.proofs.Common.{sym, arith}
use Rattle.std.specs.Prelude.{codes}
use Rattle.text_fields.proofs.Loops.{section_more, section_fails, section_ends, after_shortens}
use Rattle.trace_text.specs.TraceLines.{operation_at}
use Rattle.trace_text.specs.TraceLimits.{IsOperation}
use Rattle.trace_text.specs.Traces.{operation}
use Rattle.trace_text.proofs.SectionStops.{performed_stops}
use Rattle.trace_text.proofs.Stopping.{passed_none, passed_more}
use Rattle.trace_text.proofs.TraceLaws.{operation_reads}
use Rattle.trace_text.proofs.TraceLoops.{operation_shortens, performed_starts}
use Rattle.trace_text.proofs.trace_reading.performed_of.Goals as goal

pub loop-fields-init : goal.loop-fields-init
loop-fields-init c = rw c.new-performed.ensures.items (performed_starts c.args.harts c.args.bytes.now, passed_none operation (IsOperation c.args.harts) c.args.bytes.now)

pub loop-fields-smaller : goal.loop-fields-smaller
loop-fields-smaller c =
    omega (
      arith,
      after_shortens (codes "P ") c.loop-fields.rest.now c.in-Some.fields.now (sym c.in-Some.ensures),
      operation_shortens c.args.harts c.requires.some c.requires.few c.in-Some.fields.now c.in-Some-operation_at.operation c.in-Some-operation_at.later.now (sym c.in-Some-operation_at.ensures),
    )

pub loop-fields-preserved : goal.loop-fields-preserved
loop-fields-preserved c =
    rw c.in-Ok.ensures.items (
      section_more (codes "P ") (operation_at c.args.harts) (operation_shortens c.args.harts c.requires.some c.requires.few) c.loop-fields.performed.items c.loop-fields.rest.now c.in-Some.fields.now c.in-Some-operation_at.later.now c.in-Some-operation_at.operation _ c.in-Some.ensures c.in-Some-operation_at.ensures c.loop-fields.invariant.0,
      passed_more (codes "P ") (operation_reads c.args.harts c.requires.some c.requires.few) c.loop-fields.performed.items c.loop-fields.rest.now c.in-Some.fields.now c.in-Some-operation_at.later.now c.args.bytes.now c.in-Some-operation_at.operation c.in-Some.ensures c.in-Some-operation_at.ensures c.loop-fields.invariant.1,
    )

pub returns-in-None-clause-value : goal.returns-in-None-clause-value
returns-in-None-clause-value c = section_fails (codes "P ") (operation_at c.args.harts) c.loop-fields.performed.items c.loop-fields.rest.now c.in-Some.fields.now _ (omega arith) c.in-Some.ensures c.in-None.ensures c.loop-fields.invariant.0

pub returns-in-None-clause-stop : goal.returns-in-None-clause-stop
returns-in-None-clause-stop c = performed_stops c.args.harts c.requires.some c.requires.few c.loop-fields.performed.items c.loop-fields.rest.now c.in-Some.fields.now c.args.bytes.now c.in-Some.ensures c.in-None.ensures c.loop-fields.invariant.1

pub returns-clause-value : goal.returns-clause-value
returns-clause-value c = section_ends (codes "P ") (operation_at c.args.harts) c.loop-fields.performed.items c.loop-fields.rest.now _ c.in_default.ensures c.loop-fields.invariant.0
