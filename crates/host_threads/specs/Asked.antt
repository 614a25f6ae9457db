-- What a turn that goes round one hart's events picks, by where it stands in the round and by the hart's node.
use Rattle.std.specs.Prelude.{◌≡◌, ◌≢◌, ℕ, ◌+◌, ◌%◌, ◌<◌, ◌≤◌, false, List, [], ◌∷◌, length, All, IsTrue, Option, Some, None, slice_index_or}
use Rattle.std.specs.Option.{option_or}
use Rattle.client_cache.specs.Cache.{Cache}
use Rattle.elf_loader.specs.Image.{Initial}
use Rattle.hart.specs.Next.{next_action}
use Rattle.hart.specs.Run.{is_running}
use Rattle.hart.specs.declared.state.Hart.{Hart}
use Rattle.host_threads.specs.declared.rounds.Place.{Place}
use Rattle.host_threads.specs.declared.rounds.Place.TheVariants as stop
use Rattle.host_threads.specs.Due.{HasNoVictim, IsVictim}
use Rattle.host_threads.specs.Route.{Route}
use Rattle.machine_types.specs.declared.config.Config.{Config}
use Rattle.machine_types.specs.declared.event.Event.{Event}
use Rattle.machine_types.specs.declared.event.Event.TheVariants.{Step, Drain, Evict, Deliver}
use Rattle.machine_types.specs.declared.outcome.Outcome.{Outcome}
use Rattle.machine_types.specs.declared.outcome.Outcome.TheVariants.{SetFull}
use Rattle.machine_model.specs.Views.{Node, State, node_at}
use Rattle.rv32_exec.specs.declared.actions.Action.{Action}
use Rattle.rv32_exec.specs.declared.actions.Action.TheVariants as action
use Rattle.store_buffer.specs.Groups.{Groups, drainable, oldest}
use Rattle.tilelink_channels.specs.Queues.{queue_of}
use Rattle.tl_types.specs.declared.message.Channel.{Channel}
use Rattle.tl_types.specs.declared.message.Channel.TheVariants.{A, B, C, D, E}

-- ---- the round

abbrev pub round : List Place
round =
    stop.Deliver D ∷ stop.Step ∷ stop.Drain ∷ stop.Evict ∷ stop.Deliver A ∷ stop.Deliver C ∷ stop.Deliver E ∷ stop.Deliver B ∷ []

-- the place so many steps from its beginning; behind the last one it begins again
abbrev pub place_at : ℕ → Place
place_at k = slice_index_or round (k % 8) stop.Step

-- ---- what a place asks for

-- the lowest of the words that may drain
pub record IsNextDrain (buffer : Groups) (word : ℕ) : Type 0 where
  pub drainable : IsTrue (drainable word buffer)
  pub lowest : All (λ entry. word ≤ entry.word) (oldest buffer)

-- an eviction is asked for where a set was found full
abbrev pub AsksVictim : Route → Cache → (full : Option ℕ) → Option Event → Type 0
AsksVictim r c None answer = answer ≡ None
AsksVictim r c (Some wanted) None = HasNoVictim r.config (length r.image.bytes) c wanted
AsksVictim r c (Some wanted) (Some event) = (line : ℕ) × IsVictim r.config c wanted line × (event ≡ Evict r.hart line)

-- the event that a place of the round asks for, or none
abbrev pub Asks : Route → Node → Place → Option Event → Type 0
Asks r n stop.Step None = is_running n.hart.status ≡ false
Asks r n stop.Step (Some event) = IsTrue (is_running n.hart.status) × (event ≡ Step r.hart)
Asks r n stop.Drain None = oldest n.buffer ≡ []
Asks r n stop.Drain (Some event) = (word : ℕ) × IsNextDrain n.buffer word × (event ≡ Drain r.hart word)
Asks r n stop.Evict answer = AsksVictim r n.cache r.full answer
Asks r n (stop.Deliver channel) None = queue_of n.queues channel ≡ []
Asks r n (stop.Deliver channel) (Some event) = (queue_of n.queues channel ≢ []) × (event ≡ Deliver channel r.hart)

-- ---- where a set was found full

-- the address of a load, an LR or an AMO
abbrev pub wanted_by : Action → Option ℕ
wanted_by (action.Load address width) = Some address
wanted_by (action.Lr address) = Some address
wanted_by (action.Amo address op operand) = Some address
wanted_by _ = None

abbrev pub wanted_by_next : Option Action → Option ℕ
wanted_by_next None = None
wanted_by_next (Some action) = wanted_by action

abbrev pub wanted_by_hart : Initial → Hart → Option ℕ
wanted_by_hart image hart = wanted_by_next (next_action image hart)

-- an address of the line that the event wants
abbrev pub wanted_by_event : Initial → Hart → Option Event → Option ℕ
wanted_by_event image hart (Some (Step h)) = wanted_by_hart image hart
wanted_by_event image hart (Some (Drain h word)) = Some word
wanted_by_event image hart _ = None

abbrev pub full_after : Route → Hart → Option Outcome → Option ℕ
full_after r hart (Some SetFull) = option_or (wanted_by_event r.image hart r.picked) r.full
full_after r hart _ = r.full

-- the turn, once it knows what came of its last event
abbrev pub told_at : Route → Hart → Option Outcome → Route
told_at r hart last = record r { full = full_after r hart last }

abbrev pub told : Route → State → Option Outcome → Route
told r s last = told_at r (node_at s r.hart).hart last

-- ---- what it picks

-- a full set is remembered from the step over the drain to the eviction
abbrev pub remembered : Place → Option ℕ → Option ℕ
remembered stop.Drain full = full
remembered _ full = None

-- from where the round goes on, the place so many steps on is the first that asks for an event
pub record IsFirst (r : Route) (n : Node) (steps : ℕ) (event : Event) : Type 0 where
  pub once : steps < 8
  pub skipped : (k : ℕ) → k < steps → Asks r n (place_at (r.place + k)) None
  pub asked : Asks r n (place_at (r.place + steps)) (Some event)

-- the turn behind that place
abbrev pub behind : Route → (steps : ℕ) → Event → Route
behind r steps event = record r { place = (r.place + steps + 1) % 8; picked = Some event; full = remembered (place_at (r.place + steps)) r.full }

-- it picks what the first place asks for, and goes on behind that place
pub record IsPickOf (r : Route) (s : State) (last : Option Outcome) (event : Event) (after : Route) : Type 0 where
  pub steps : ℕ
  pub first : IsFirst (told r s last) (node_at s r.hart) steps event
  pub goes_on : after ≡ behind (told r s last) steps event

-- a turn that picks nothing
abbrev pub passing : Route → State → Option Outcome → Route
passing r s last = record (told r s last) { picked = None }

abbrev pub first_round : (hart : ℕ) → Initial → Config → Route
first_round hart image config = record { hart = hart; image = image; config = config; place = 0; picked = None; full = None }

-- nothing there is to pick: the hart has ended, no store and no message waits, and of a set that was found full no line may be evicted
pub record IsIdle (r : Route) (n : Node) : Type 0 where
  pub ended : is_running n.hart.status ≡ false
  pub stores : oldest n.buffer ≡ []
  pub messages : (channel : Channel) → queue_of n.queues channel ≡ []
  pub victims : AsksVictim r n.cache r.full None
