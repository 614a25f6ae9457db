use Rattle.std.proofs.Common.{sym, ◌∙◌}
use Rattle.std.proofs.lemmas.List.{length-map}
use Rattle.trace_text.proofs.TraceHeads.{memory_is, entry_in}
use Rattle.trace_text.proofs.WholeStops.{memory_stop, entries_stop, performed_stop, log_stop, statuses_stop, stops_with}
use Rattle.trace_text.proofs.WholeTraces.{memory_count, lists_count, lists_within, statuses_count}
use Rattle.trace_text.proofs.trace_reading.trace_of.Goals as goal

pub new-image-requires-clause-size : goal.new-image-requires-clause-size
new-image-requires-clause-size c = memory_is c.in-Some.head _ c.in-Some.ensures.fits (memory_count c.in-Some.head _ _ _ (rw c.bytes.ensures at c.in_ok-memory.ensures.value))

pub new-image-requires-clause-inside : goal.new-image-requires-clause-inside
new-image-requires-clause-inside c = entry_in c.in-Some.head _ c.in-Some.ensures.fits (memory_count c.in-Some.head _ _ _ (rw c.bytes.ensures at c.in_ok-memory.ensures.value))

pub from_parts-trace-requires-clause-statuses : goal.from_parts-trace-requires-clause-statuses
from_parts-trace-requires-clause-statuses c = statuses_count _ _ _ _ c.in_ok-statuses.ensures.value ∙ sym (lists_count _ _ _ _ c.in_ok-entries.ensures.value) ∙ length-map _ _

pub from_parts-trace-requires-clause-limits : goal.from_parts-trace-requires-clause-limits
from_parts-trace-requires-clause-limits c = lists_within _ _ _ _ c.in-Some.ensures.fits.few_harts c.in_ok-entries.ensures.value

pub returns-in_err-memory-clause-stop : goal.returns-in_err-memory-clause-stop
returns-in_err-memory-clause-stop c =
    stops_with c.args.bytes.now _ _ c.from_residual.ensures.1 (memory_stop c.args.bytes.now c.in-Some.head _ _ (sym c.in-Some.ensures.value) (rw c.bytes.ensures at c.in_err-memory.ensures.stop))

pub returns-in_err-entries-clause-stop : goal.returns-in_err-entries-clause-stop
returns-in_err-entries-clause-stop c =
    stops_with c.args.bytes.now _ _ c.from_residual-in_err-entries.ensures.1
    (entries_stop c.args.bytes.now c.in-Some.head _ _ _ _ (sym c.in-Some.ensures.value) (rw c.bytes.ensures at c.in_ok-memory.ensures.value) c.in_err-entries.ensures.stop)

pub returns-in_err-performed-clause-stop : goal.returns-in_err-performed-clause-stop
returns-in_err-performed-clause-stop c =
    stops_with c.args.bytes.now _ _ c.from_residual-in_err-performed.ensures.1
    (performed_stop c.args.bytes.now c.in-Some.head c.in-Some.ensures.fits _ _ _ _ _ _ (sym c.in-Some.ensures.value) (rw c.bytes.ensures at c.in_ok-memory.ensures.value) c.in_ok-entries.ensures.value c.in_err-performed.ensures.stop)

pub returns-in_err-log-clause-stop : goal.returns-in_err-log-clause-stop
returns-in_err-log-clause-stop c =
    stops_with c.args.bytes.now _ _ c.from_residual-in_err-log.ensures.1
    (log_stop c.args.bytes.now c.in-Some.head c.in-Some.ensures.fits _ _ _ _ _ _ _ _ (sym c.in-Some.ensures.value) (rw c.bytes.ensures at c.in_ok-memory.ensures.value) c.in_ok-entries.ensures.value c.in_ok-performed.ensures.value c.in_err-log.ensures.stop)

pub returns-in_err-statuses-clause-stop : goal.returns-in_err-statuses-clause-stop
returns-in_err-statuses-clause-stop c =
    stops_with c.args.bytes.now _ _ c.from_residual-in_err-statuses.ensures.1
    (statuses_stop c.args.bytes.now c.in-Some.head c.in-Some.ensures.fits _ _ _ _ _ _ _ _ _ _ (sym c.in-Some.ensures.value) (rw c.bytes.ensures at c.in_ok-memory.ensures.value) c.in_ok-entries.ensures.value c.in_ok-performed.ensures.value c.in_ok-log.ensures.value c.in_err-statuses.ensures.stop)
