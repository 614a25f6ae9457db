use Rattle.std.proofs.Common.{sym}
use Rattle.trace_text.proofs.Refusals.{stops_first, script_fails, fails_with}
use Rattle.trace_text.proofs.Scripts.{head_fits, head_takes}
use Rattle.trace_text.proofs.script_reading.script_of.Goals as goal

pub invariant_of-result : goal.invariant_of-result
invariant_of-result c = record { within = head_fits c.in-Some.head (head_takes c.args.bytes.now c.in-Some.head c.in-Some.rest.now (sym c.in-Some.ensures)).1 }

pub returns-in_err-events-in-Some-clause-stop : goal.returns-in_err-events-in-Some-clause-stop
returns-in_err-events-in-Some-clause-stop c =
    fails_with c.args.bytes.now _ c.in_err-events-in-Some.field-0.0 c.from_residual.ensures.1
    (script_fails c.args.bytes.now c.in-Some.head c.in-Some.rest.now _ (sym c.in-Some.ensures) c.in_err-events-in-Some.ensures.stop)

pub returns-in-None-clause-stop : goal.returns-in-None-clause-stop
returns-in-None-clause-stop c = stops_first c.args.bytes.now (sym c.in-None.ensures)
