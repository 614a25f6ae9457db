-- Which address an event is about.
use Rattle.std.specs.Prelude.{ℕ, ◌-◌, ◌==◌, Bool, false, Option, Some, None, length, nat_lt, if◌then◌else◌}
use Rattle.event_stream.specs.Closing.{next_address}
use Rattle.machine_model.specs.Views.{State}
use Rattle.machine_types.specs.declared.event.Event.{Event}
use Rattle.machine_types.specs.declared.event.Event.TheVariants.{Step, Drain, Evict, Deliver, Local}
use Rattle.tl_types.specs.Line.{line_of}
use Rattle.tl_types.specs.declared.line.LineSize.{LineSize}

-- the address that a hart's next instruction reads or writes, where there is such a hart
abbrev pub accessed_at : State → ℕ → Option ℕ
accessed_at s h = if nat_lt h (length s.views.nodes) then next_address s h else None

abbrev pub address_at : State → Event → Option ℕ
address_at s (Step h) = accessed_at s h
address_at s (Drain h word) = Some word
address_at s (Evict h line) = Some line
address_at s (Deliver channel h) = None
address_at s (Local h count) = None

abbrev pub lies_in : LineSize → ℕ → Option ℕ → Bool
lies_in size line None = false
lies_in size line (Some address) = line_of size address == line
