-- The event meaning: which events are good, what each comes to and changes, and what a list of events leads to.
use Rattle.std.specs.Prelude.{ℕ, ◌+◌, ◌%◌, ◌==◌, Bool, true, not, ◌&&◌, ◌||◌, if◌then◌else◌, List, [], ◌∷◌, length, nat_le, nat_lt}
use Rattle.machine_types.specs.declared.limits.TheConstants.{MAX_CHANGES, MAX_ENTRIES, MAX_ROW}
use Rattle.client_cache.specs.Cache.{evicted}
use Rattle.client_cache.specs.declared.answers.Evict.{Evict}
use Rattle.client_cache.specs.declared.answers.Evict.TheVariants.{NotHeld, AcquirePending, ReleaseFull, Evicted}
use Rattle.elf_loader.specs.Image.{Initial, end_of}
use Rattle.elf_loader.specs.Size.{base}
use Rattle.hart.specs.Local.{private_row}
use Rattle.hart.specs.Run.{is_running}
use Rattle.machine_model.specs.declared.act.Act.{Act}
use Rattle.machine_model.specs.declared.act.Act.TheVariants as act
use Rattle.machine_model.specs.declared.act.Plan.{Plan}
use Rattle.machine_model.specs.declared.act.Plan.TheVariants.{Stays, Changes}
use Rattle.machine_types.specs.declared.event.Event.{Event}
use Rattle.machine_types.specs.declared.event.Event.TheVariants as event
use Rattle.machine_types.specs.declared.outcome.Outcome.{Outcome}
use Rattle.machine_types.specs.declared.outcome.Outcome.TheVariants as outcome
use Rattle.machine_model.specs.Changing.{next_place, acted, outcome_of_act}
use Rattle.machine_model.specs.Deciding.{writing}
use Rattle.machine_model.specs.Deliveries.{plan_deliver}
use Rattle.machine_model.specs.Steps.{plan_step}
use Rattle.machine_model.specs.Views.{Node, State, line_size, node_at}
use Rattle.store_buffer.specs.Groups.{drainable, has}
use Rattle.tl_types.specs.Line.{length_of, line_of}

-- ---- which events are good

abbrev pub hart_of : Event → ℕ
hart_of (event.Step h) = h
hart_of (event.Drain h word) = h
hart_of (event.Evict h line) = h
hart_of (event.Deliver channel h) = h
hart_of (event.Local h count) = h

-- so many bytes at an address lie in memory, at a multiple of their number
abbrev pub is_piece : Initial → (address bytes : ℕ) → Bool
is_piece image address bytes = address % bytes == 0 && nat_le base address && nat_le (address + bytes) (end_of image)

-- what the event names beside its hart is there
abbrev pub names_well : State → Event → Bool
names_well s (event.Step h) = true
names_well s (event.Drain h word) = is_piece s.trace.image word 4
names_well s (event.Evict h line) = is_piece s.trace.image line (length_of (line_size s))
names_well s (event.Deliver channel h) = true
names_well s (event.Local h count) = nat_le 1 count && nat_le count MAX_ROW

abbrev pub is_good : State → Event → Bool
is_good s e = nat_lt (hart_of e) (length s.views.nodes) && names_well s e

-- ---- what an event comes to

abbrev pub plan_drain : Node → ℕ → Plan
plan_drain n word =
    if not (has word n.buffer)
    then Stays outcome.NoEntry
    else if not (drainable word n.buffer)
    then Stays outcome.NotOldest
    else writing (λ line. Changes (act.Drain word)) n.cache (line_of n.cache.shape.size word)

abbrev pub evict_by : ℕ → Evict → Plan
evict_by line NotHeld = Stays outcome.NotHeld
evict_by line AcquirePending = Stays outcome.AcquirePending
evict_by line ReleaseFull = Stays outcome.ReleaseFull
evict_by line (Evicted change bytes) = Changes (act.Evict line)

abbrev pub plan_evict : Node → ℕ → Plan
plan_evict n line = evict_by line (evicted n.cache line).0

abbrev pub plan_local : Initial → Node → ℕ → Plan
plan_local image n count =
    if not (is_running n.hart.status)
    then Stays outcome.Halted
    else if length (private_row image n.hart count) == count
    then Changes (act.Local count)
    else Stays outcome.NotLocal

abbrev pub plan_of : State → Event → Plan
plan_of s (event.Step h) = plan_step s.views.config.model s.trace.image (node_at s h) (next_place s h)
plan_of s (event.Drain h word) = plan_drain (node_at s h) word
plan_of s (event.Evict h line) = plan_evict (node_at s h) line
plan_of s (event.Deliver channel h) = plan_deliver s h (node_at s h) channel
plan_of s (event.Local h count) = plan_local s.trace.image (node_at s h) count

-- ---- limits

-- how many entries an act adds to its hart's list
abbrev pub entries_by : Act → ℕ
entries_by (act.Retire entry i d) = 1
entries_by (act.Local count) = count
entries_by _ = 0

-- so many events have changed the machine, or the hart's list would pass its length
abbrev pub is_limited : State → ℕ → Act → Bool
is_limited s h a = nat_le MAX_CHANGES s.views.changes || nat_lt MAX_ENTRIES (next_place s h + entries_by a)

-- ---- the meaning

-- what comes of an event: it isn't good, nothing changes, a limit is met, or the machine changes
pub data Verdict : Type 0 where
  IsBad : Verdict
  Keeps : (outcome : Outcome) → Verdict
  IsLimited : Verdict
  Moves : (outcome : Outcome) (new : State) → Verdict

-- one more event changed the machine
abbrev pub counted : State → State
counted s = record s { views = record s.views { changes = s.views.changes + 1 } }

abbrev pub verdict_by : State → ℕ → Plan → Verdict
verdict_by s h (Stays o) = Keeps o
verdict_by s h (Changes a) = if is_limited s h a then IsLimited else Moves (outcome_of_act s h a) (counted (acted h a s))

abbrev pub verdict : State → Event → Verdict
verdict s e = if is_good s e then verdict_by s (hart_of e) (plan_of s e) else IsBad

abbrev pub state_by : State → Verdict → State
state_by s IsBad = s
state_by s (Keeps o) = s
state_by s IsLimited = s
state_by s (Moves o new) = new

-- the state after an event; one that is refused changes nothing
abbrev pub happens : State → Event → State
happens s e = state_by s (verdict s e)

-- the state after a list of events
abbrev pub after_events : State → List Event → State
after_events s [] = s
after_events s (e ∷ events) = after_events (happens s e) events
