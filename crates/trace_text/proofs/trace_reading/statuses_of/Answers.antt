use Rattle.std.proofs.Common.{sym, arith}
use Rattle.text_fields.proofs.Numbered.{numbered_starts, numbered_more, numbered_fails, numbered_ends}
use Rattle.trace_text.specs.TraceLimits.{IsStatus}
use Rattle.trace_text.specs.TraceSections.{status_line_at}
use Rattle.trace_text.specs.Traces.{status}
use Rattle.trace_text.proofs.SectionStops.{status_keeps, statuses_stop}
use Rattle.trace_text.proofs.Stopping.{counted_none, counted_more}
use Rattle.trace_text.proofs.trace_reading.statuses_of.Goals as goal

pub loop-hart-init : goal.loop-hart-init
loop-hart-init c = rw c.new-statuses.ensures.items (numbered_starts status_line_at c.args.harts c.args.bytes.now, counted_none status IsStatus status_line_at c.args.harts c.args.bytes.now)

pub returns-in-None-clause-value : goal.returns-in-None-clause-value
returns-in-None-clause-value c = numbered_fails status_line_at c.args.harts c.loop-hart.hart c.loop-hart.statuses.items c.loop-hart.rest.now _ (omega arith) (sym c.in-None.ensures) c.loop-hart.invariant.0

pub returns-in-None-clause-stop : goal.returns-in-None-clause-stop
returns-in-None-clause-stop c = statuses_stop c.args.harts c.loop-hart.hart c.loop-hart.statuses.items c.loop-hart.rest.now c.args.bytes.now (omega arith) c.requires (sym c.in-None.ensures) c.loop-hart.invariant.1

pub loop-hart-preserved : goal.loop-hart-preserved
loop-hart-preserved c =
    rw c.in-Ok.ensures.items (
      numbered_more status_line_at c.args.harts c.loop-hart.hart c.loop-hart.statuses.items c.loop-hart.rest.now c.in-Some.later.now c.in-Some.status _ (omega arith) (sym c.in-Some.ensures) c.loop-hart.invariant.0,
      counted_more status IsStatus status_line_at c.args.harts c.loop-hart.hart c.loop-hart.statuses.items c.loop-hart.rest.now c.in-Some.later.now c.args.bytes.now c.in-Some.status (status_keeps c.loop-hart.hart (omega (arith, c.requires))) (omega arith) (sym c.in-Some.ensures) c.loop-hart.invariant.1,
    )

pub returns-clause-value : goal.returns-clause-value
returns-clause-value c = numbered_ends status_line_at c.args.harts c.loop-hart.hart c.loop-hart.statuses.items c.loop-hart.rest.now _ (omega arith) c.loop-hart.invariant.0
