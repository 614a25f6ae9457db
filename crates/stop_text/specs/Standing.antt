-- Where a hart of a trace stands behind the entries of its list, and with which code it stopped there.
use Rattle.std.specs.Prelude.{ℕ, length, slice_index_or, Option, Some, None}
use Rattle.hart.specs.Run.{reached, reset_at}
use Rattle.hart.specs.declared.state.Hart.{Hart}
use Rattle.hart.specs.declared.status.Status.{Status}
use Rattle.hart.specs.declared.status.Status.TheVariants.{Running, Stopped, Exited}
use Rattle.trace_recorder.specs.History.{History, entries_of}

-- it was reset at the image's entry, and retired its entries one by one
abbrev pub standing : History → (hart : ℕ) → Hart
standing t hart = reached (reset_at t.image.entry hart (length t.entries)) (entries_of t hart)

abbrev pub stop_in : Status → Option ℕ
stop_in Running = None
stop_in (Stopped code) = Some code
stop_in (Exited code) = None

abbrev pub code_of : History → (hart : ℕ) → Option ℕ
code_of t hart = stop_in (slice_index_or t.statuses hart Running)
