use Rattle.std.proofs.Common.{◌≡◌, ◌<◌, ◌++◌, length, sym, arith}
use Rattle.machine_types.specs.declared.limits.TheConstants.{MAX_ENTRIES}
use Rattle.text_fields.proofs.Loops.{after_shortens}
use Rattle.trace_text.specs.TraceLimits.{IsRetired}
use Rattle.trace_text.specs.Traces.{retired_lead, retired_text}
use Rattle.trace_text.proofs.SectionStops.{entries_stop, entries_stop_full}
use Rattle.trace_text.proofs.Stopping.{passed_none, passed_more}
use Rattle.trace_text.proofs.TraceLaws.{retired_reads}
use Rattle.trace_text.proofs.TraceLoops.{retired_shortens, entries_start, entries_more, entries_fail, entries_end, entries_full}
use Rattle.trace_text.proofs.trace_reading.retired_of.Goals as goal

pub loop-fields-init : goal.loop-fields-init
loop-fields-init c = rw c.new-entries.ensures.items (entries_start c.args.hart c.args.bytes.now, passed_none (λ r. retired_lead c.args.hart ++ retired_text r) IsRetired c.args.bytes.now)

pub loop-fields-smaller : goal.loop-fields-smaller
loop-fields-smaller c =
    omega (
      arith,
      after_shortens (retired_lead c.args.hart) c.loop-fields.rest.now c.in-Some.fields.now (sym (rw c.hart_lead-lead.ensures at c.in-Some.ensures)),
      retired_shortens c.in-Some.fields.now c.in-Some-retired_at.entry c.in-Some-retired_at.later.now (sym c.in-Some-retired_at.ensures),
    )

pub loop-fields-preserved : goal.loop-fields-preserved
loop-fields-preserved c =
    let room : length c.loop-fields.entries.items < MAX_ENTRIES = omega (arith, c.loop-fields.invariant.0.few, c.if-len-eq-MAX_ENTRIES.false) in
    rw c.in-Ok.ensures.items (
      entries_more c.args.hart c.loop-fields.entries.items c.loop-fields.rest.now c.in-Some.fields.now c.in-Some-retired_at.later.now c.args.bytes.now c.in-Some-retired_at.entry room (rw c.hart_lead-lead.ensures at c.in-Some.ensures) c.in-Some-retired_at.ensures c.loop-fields.invariant.0,
      passed_more (retired_lead c.args.hart) retired_reads c.loop-fields.entries.items c.loop-fields.rest.now c.in-Some.fields.now c.in-Some-retired_at.later.now c.args.bytes.now c.in-Some-retired_at.entry (rw c.hart_lead-lead.ensures at c.in-Some.ensures) c.in-Some-retired_at.ensures c.loop-fields.invariant.1,
    )

pub returns-in_default-retired_at-clause-value : goal.returns-in_default-retired_at-clause-value
returns-in_default-retired_at-clause-value c = entries_fail c.args.hart c.loop-fields.entries.items c.loop-fields.rest.now c.in-Some.fields.now c.args.bytes.now (rw c.hart_lead-lead.ensures at c.in-Some.ensures) c.in_default-retired_at.ensures c.loop-fields.invariant.0

pub returns-in_default-retired_at-clause-stop : goal.returns-in_default-retired_at-clause-stop
returns-in_default-retired_at-clause-stop c = entries_stop c.args.hart (omega (arith, c.requires)) c.loop-fields.entries.items c.loop-fields.rest.now c.in-Some.fields.now c.args.bytes.now c.loop-fields.invariant.0.few (rw c.hart_lead-lead.ensures at c.in-Some.ensures) c.in_default-retired_at.ensures c.loop-fields.invariant.1

pub returns-then-len-eq-MAX_ENTRIES-clause-value : goal.returns-then-len-eq-MAX_ENTRIES-clause-value
returns-then-len-eq-MAX_ENTRIES-clause-value c =
    let full : length c.loop-fields.entries.items ≡ MAX_ENTRIES = omega (arith, c.if-len-eq-MAX_ENTRIES.true) in
    entries_full c.args.hart c.loop-fields.entries.items c.loop-fields.rest.now c.in-Some.fields.now c.in-Some-retired_at.later.now c.args.bytes.now c.in-Some-retired_at.entry full (rw c.hart_lead-lead.ensures at c.in-Some.ensures) c.in-Some-retired_at.ensures c.loop-fields.invariant.0

pub returns-then-len-eq-MAX_ENTRIES-clause-stop : goal.returns-then-len-eq-MAX_ENTRIES-clause-stop
returns-then-len-eq-MAX_ENTRIES-clause-stop c =
    let full : length c.loop-fields.entries.items ≡ MAX_ENTRIES = omega (arith, c.if-len-eq-MAX_ENTRIES.true) in
    entries_stop_full c.args.hart (omega (arith, c.requires)) c.loop-fields.entries.items c.loop-fields.rest.now c.in-Some.fields.now c.in-Some-retired_at.later.now c.args.bytes.now c.in-Some-retired_at.entry full (rw c.hart_lead-lead.ensures at c.in-Some.ensures) c.in-Some-retired_at.ensures c.loop-fields.invariant.1

pub returns-clause-value : goal.returns-clause-value
returns-clause-value c = entries_end c.args.hart c.loop-fields.entries.items c.loop-fields.rest.now c.args.bytes.now (rw c.hart_lead-lead.ensures at c.in_default.ensures) c.loop-fields.invariant.0
