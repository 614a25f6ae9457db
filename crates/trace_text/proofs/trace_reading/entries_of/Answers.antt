use Rattle.std.proofs.Common.{arith}
use Rattle.std.specs.Prelude.{map}
use Rattle.std.proofs.lemmas.List.{map-append}
use Rattle.text_fields.proofs.Numbered.{numbered_starts, numbered_more, numbered_fails, numbered_ends}
use Rattle.trace_text.specs.TraceLimits.{IsHart}
use Rattle.trace_text.specs.TraceSections.{entries_at}
use Rattle.trace_text.specs.Traces.{entries}
use Rattle.trace_text.proofs.SectionStops.{entries_keep, lists_stop}
use Rattle.trace_text.proofs.Stopping.{counted_none, counted_more}
use Rattle.trace_text.proofs.TraceLoops.{fails_passed}
use Rattle.trace_text.proofs.trace_reading.entries_of.Goals as goal

pub loop-hart-init : goal.loop-hart-init
loop-hart-init c = rw c.new-lists.ensures.items (numbered_starts entries_at c.args.harts c.args.bytes.now, counted_none entries IsHart entries_at c.args.harts c.args.bytes.now)

pub returns-in-Err-clause-value : goal.returns-in-Err-clause-value
returns-in-Err-clause-value c = fails_passed _ _ _ c.in-Err.ensures.value (λ h. numbered_fails entries_at c.args.harts c.loop-hart.hart (map (λ v. v.items) c.loop-hart.lists.items) c.loop-hart.rest.now _ (omega arith) h c.loop-hart.invariant.0)

pub returns-in-Err-clause-stop : goal.returns-in-Err-clause-stop
returns-in-Err-clause-stop c = lists_stop c.args.harts c.loop-hart.hart (map (λ v. v.items) c.loop-hart.lists.items) c.loop-hart.rest.now c.args.bytes.now c.in-Err.stop (omega arith) c.requires c.in-Err.ensures.stop c.loop-hart.invariant.1

pub loop-hart-preserved : goal.loop-hart-preserved
loop-hart-preserved c =
    rw (c.in-Ok-push.ensures.items, map-append) (
      numbered_more entries_at c.args.harts c.loop-hart.hart (map (λ v. v.items) c.loop-hart.lists.items) c.loop-hart.rest.now c.in-Ok.later.now c.in-Ok.list.items _ (omega arith) c.in-Ok.ensures.value c.loop-hart.invariant.0,
      counted_more entries IsHart entries_at c.args.harts c.loop-hart.hart (map (λ v. v.items) c.loop-hart.lists.items) c.loop-hart.rest.now c.in-Ok.later.now c.args.bytes.now c.in-Ok.list.items (entries_keep c.loop-hart.hart (omega (arith, c.requires))) (omega arith) c.in-Ok.ensures.value c.loop-hart.invariant.1,
    )

pub returns-clause-value : goal.returns-clause-value
returns-clause-value c = numbered_ends entries_at c.args.harts c.loop-hart.hart (map (λ v. v.items) c.loop-hart.lists.items) c.loop-hart.rest.now _ (omega arith) c.loop-hart.invariant.0
