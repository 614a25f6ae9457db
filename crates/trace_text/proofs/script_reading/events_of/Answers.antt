use Rattle.std.proofs.Common.{◌≡◌, length, eqb, true, false, arith}
use Rattle.std.proofs.lemmas.Bool.{eqb-true, eqb-false}
use Rattle.text_fields.proofs.Loops.{reading_starts, reading_more, reading_fails, reading_ends}
use Rattle.trace_text.specs.ScriptReading.{event_at}
use Rattle.trace_text.proofs.Refusals.{passed_none, passed_more, passed_stops}
use Rattle.trace_text.proofs.Scripts.{event_shortens}
use Rattle.trace_text.proofs.script_reading.events_of.Goals as goal

pub loop-rest-init : goal.loop-rest-init
loop-rest-init c = rw c.new-events.ensures.items (reading_starts event_at c.args.bytes.now, passed_none c.args.bytes.now)

pub loop-rest-preserved : goal.loop-rest-preserved
loop-rest-preserved c =
    let t : eqb (length c.loop-rest.rest.now) 0 ≡ false = cc in
    rw c.in-Ok.ensures.items (
      reading_more event_at event_shortens c.loop-rest.events.items c.loop-rest.rest.now c.in-Some.later.now c.in-Some.event _ (omega (arith, eqb-false _ _ t)) c.in-Some.ensures c.loop-rest.invariant.0,
      passed_more c.args.bytes.now c.loop-rest.events.items c.loop-rest.rest.now c.in-Some.later.now c.in-Some.event c.in-Some.ensures c.loop-rest.invariant.1,
    )

pub returns-in-None-clause-value : goal.returns-in-None-clause-value
returns-in-None-clause-value c =
    let t : eqb (length c.loop-rest.rest.now) 0 ≡ false = cc in
    reading_fails event_at c.loop-rest.events.items c.loop-rest.rest.now _ (omega (arith, eqb-false _ _ t)) c.in-None.ensures c.loop-rest.invariant.0

pub returns-in-None-clause-stop : goal.returns-in-None-clause-stop
returns-in-None-clause-stop c =
    let t : eqb (length c.loop-rest.rest.now) 0 ≡ false = cc in
    passed_stops c.args.bytes.now c.loop-rest.events.items c.loop-rest.rest.now (omega (arith, eqb-false _ _ t)) c.in-None.ensures c.loop-rest.invariant.1

pub returns-clause-value : goal.returns-clause-value
returns-clause-value c =
    let t : eqb (length c.loop-rest.rest.now) 0 ≡ true = cc in
    reading_ends event_at c.loop-rest.events.items c.loop-rest.rest.now _ (eqb-true _ _ t) c.loop-rest.invariant.0
