-- What kept a hart of a run from its end.
use Rattle.std.specs.Prelude.{ℕ, length, nat_le, slice_index_or, Option, Some, None, if◌then◌else◌}
use Rattle.hart.specs.Run.{is_running}
use Rattle.hart.specs.declared.status.Status.TheVariants.{Stopped}
use Rattle.machine_types.specs.declared.limits.TheConstants.{MAX_CHANGES, MAX_ENTRIES}
use Rattle.run_command.specs.declared.limits.Limit.{Limit}
use Rattle.run_command.specs.declared.limits.Limit.TheVariants.{Instructions, Changes, Tries}
use Rattle.trace_recorder.specs.History.{History, entries_of}

-- its list is full, or the machine has changed as often as it may, or no event was left to try
abbrev pub limit_of : History → (changes hart : ℕ) → Option Limit
limit_of t changes hart =
    if is_running (slice_index_or t.statuses hart (Stopped 0))
    then Some (if nat_le MAX_ENTRIES (length (entries_of t hart)) then Instructions else if nat_le MAX_CHANGES changes then Changes else Tries)
    else None
