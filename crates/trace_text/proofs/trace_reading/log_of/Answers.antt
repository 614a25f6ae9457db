use Rattle.std.proofs.Common.{sym, arith}
use Rattle.std.specs.Prelude.{codes}
use Rattle.text_fields.proofs.Loops.{section_more, section_fails, section_ends, after_shortens}
use Rattle.trace_text.specs.TraceLimits.{IsLogged}
use Rattle.trace_text.specs.TraceLines.{logged_at}
use Rattle.trace_text.specs.Traces.{logged}
use Rattle.trace_text.proofs.SectionStops.{log_stops}
use Rattle.trace_text.proofs.Stopping.{passed_none, passed_more}
use Rattle.trace_text.proofs.TraceLaws.{logged_reads}
use Rattle.trace_text.proofs.TraceLoops.{logged_shortens, log_starts}
use Rattle.trace_text.proofs.trace_reading.log_of.Goals as goal

pub loop-fields-init : goal.loop-fields-init
loop-fields-init c = rw c.new-log.ensures.items (log_starts c.args.head.now c.args.bytes.now, passed_none logged (IsLogged c.args.head.now) c.args.bytes.now)

pub loop-fields-smaller : goal.loop-fields-smaller
loop-fields-smaller c =
    omega (
      arith,
      after_shortens (codes "M ") c.loop-fields.rest.now c.in-Some.fields.now (sym c.in-Some.ensures),
      logged_shortens c.args.head.now c.requires c.in-Some.fields.now c.in-Some-logged_at.entry c.in-Some-logged_at.later.now (sym c.in-Some-logged_at.ensures),
    )

pub loop-fields-preserved : goal.loop-fields-preserved
loop-fields-preserved c =
    rw c.in-Ok.ensures.items (
      section_more (codes "M ") (logged_at c.args.head.now.harts c.args.head.now.kib c.args.head.now.line) (logged_shortens c.args.head.now c.requires) c.loop-fields.log.items c.loop-fields.rest.now c.in-Some.fields.now c.in-Some-logged_at.later.now c.in-Some-logged_at.entry _ c.in-Some.ensures c.in-Some-logged_at.ensures c.loop-fields.invariant.0,
      passed_more (codes "M ") (logged_reads c.args.head.now c.requires.some_hart c.requires.few_harts c.requires.memory.at_most) c.loop-fields.log.items c.loop-fields.rest.now c.in-Some.fields.now c.in-Some-logged_at.later.now c.args.bytes.now c.in-Some-logged_at.entry c.in-Some.ensures c.in-Some-logged_at.ensures c.loop-fields.invariant.1,
    )

pub returns-in-None-clause-value : goal.returns-in-None-clause-value
returns-in-None-clause-value c = section_fails (codes "M ") (logged_at c.args.head.now.harts c.args.head.now.kib c.args.head.now.line) c.loop-fields.log.items c.loop-fields.rest.now c.in-Some.fields.now _ (omega arith) c.in-Some.ensures c.in-None.ensures c.loop-fields.invariant.0

pub returns-in-None-clause-stop : goal.returns-in-None-clause-stop
returns-in-None-clause-stop c = log_stops c.args.head.now c.requires c.loop-fields.log.items c.loop-fields.rest.now c.in-Some.fields.now c.args.bytes.now c.in-Some.ensures c.in-None.ensures c.loop-fields.invariant.1

pub returns-clause-value : goal.returns-clause-value
returns-clause-value c = section_ends (codes "M ") (logged_at c.args.head.now.harts c.args.head.now.kib c.args.head.now.line) c.loop-fields.log.items c.loop-fields.rest.now _ c.in_default.ensures c.loop-fields.invariant.0
