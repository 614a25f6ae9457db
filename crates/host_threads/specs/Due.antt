-- Which events there are for one hart: those that it isn't idle for to ask.
use Rattle.std.specs.Prelude.{◌≡◌, ◌≢◌, ℕ, ◌+◌, ◌%◌, ◌<◌, ◌≤◌, false, [], length, All, IsSome, IsTrue}
use Rattle.std.specs.FinSet as set
use Rattle.client_cache.specs.Cache.{Cache, copy_at}
use Rattle.client_cache.specs.Shape.{set_of}
use Rattle.elf_loader.specs.Size.{base}
use Rattle.hart.specs.Run.{is_running}
use Rattle.machine_types.specs.declared.config.Config.{Config}
use Rattle.machine_types.specs.declared.event.Event.{Event}
use Rattle.machine_types.specs.declared.event.Event.TheVariants.{Step, Drain, Evict, Deliver, Local}
use Rattle.machine_model.specs.Events.{hart_of}
use Rattle.machine_model.specs.Views.{Node, State, node_at, shape_of_config}
use Rattle.store_buffer.specs.Groups.{drainable, oldest}
use Rattle.tilelink_channels.specs.Queues.{queue_of}
use Rattle.tl_types.specs.Line.{length_of}

-- the lines at these addresses belong to one set of a cache
abbrev pub AreInOneSet : Config → (one other : ℕ) → Type 0
AreInOneSet config one other = set_of (shape_of_config config) one ≡ set_of (shape_of_config config) other

-- a line of memory begins here
abbrev pub IsLine : Config → ℕ → Type 0
IsLine config line = (base ≤ line) × (line % length_of config.line ≡ 0)

-- the line is held, and no Acquire of it is outstanding
pub record IsSpare (c : Cache) (line : ℕ) : Type 0 where
  pub held : IsSome (copy_at c line)
  pub free : set.contains c.acquiring line ≡ false

-- no line of memory below this one lies in its set and is spare too
pub record IsLowestSpare (config : Config) (c : Cache) (line : ℕ) : Type 0 where
  pub begins : IsLine config line
  pub spare : IsSpare c line
  pub lowest : (other : ℕ) → IsLine config other → AreInOneSet config other line → IsSpare c other → line ≤ other

-- the lowest line of memory that may be evicted, of those in the set of the line that is wanted
pub record IsVictim (config : Config) (c : Cache) (wanted line : ℕ) : Type 0 where
  pub lowest : IsLowestSpare config c line
  pub set : AreInOneSet config line wanted

-- of so many bytes of memory no line in that set may be evicted
abbrev pub HasNoVictim : Config → (size : ℕ) → Cache → (wanted : ℕ) → Type 0
HasNoVictim config size c wanted = (line : ℕ) → IsLine config line → line < base + size → AreInOneSet config line wanted → IsSpare c line → ⊥

-- the hart's node has something for the event to do: it is running, the word is the lowest that may drain, the line is the lowest of its set that may be evicted, a message waits
abbrev pub IsThere : Config → Node → Event → Type 0
IsThere config n (Step h) = IsTrue (is_running n.hart.status)
IsThere config n (Drain h word) = IsTrue (drainable word n.buffer) × All (λ entry. word ≤ entry.word) (oldest n.buffer)
IsThere config n (Evict h line) = IsLowestSpare config n.cache line
IsThere config n (Deliver channel h) = queue_of n.queues channel ≢ []
IsThere config n (Local h count) = ⊥

-- the event is of this hart, and is there
pub record IsDue (config : Config) (s : State) (hart : ℕ) (e : Event) : Type 0 where
  pub own : hart_of e ≡ hart
  pub inside : hart < length s.views.nodes
  pub there : IsThere config (node_at s hart) e
