-- What a fabric holds, and what it answers to an event and becomes.
use Rattle.std.specs.Prelude.{◌≡◌, ◌+◌, ◌⊎◌, ℕ, List, [], ◌∷◌, ◌++◌, length, Ok, Err}
use Rattle.std.specs.declared.result.Result.{Result}
use Rattle.elf_loader.specs.Image.{Initial}
use Rattle.machine_types.specs.declared.config.Config.{Config}
use Rattle.machine_types.specs.declared.event.Event.{Event}
use Rattle.machine_types.specs.declared.outcome.Outcome.{Outcome}
use Rattle.machine_model.specs.Events.{Verdict, verdict, after_events}
use Rattle.machine_model.specs.Events.Verdict.{IsBad, Keeps, IsLimited, Moves}
use Rattle.machine_model.specs.LawfulLog.{IsLawfulLog}
use Rattle.machine_model.specs.Views.{State, opening}
use Rattle.coherent_machine.specs.ApplyError.{ApplyError}
use Rattle.coherent_machine.specs.TheVariants.{BadEvent, Limit, NoMemory}
use Rattle.coherent_machine.specs.Machine.{KeepsHeadline}
pub use Rattle.coherent_machine.specs.Moves.{AreMoves, IsMove}

-- a machine, the events that changed it since its reset, the first one first, and how many events all shares together count
pub record FabricState : Type 0 where
  pub machine : State
  pub journal : List Event
  pub book : ℕ

-- the machine is where its journal leads from reset of its image and configuration
abbrev pub IsReplay : FabricState → Type 0
IsReplay held = after_events (opening held.machine.trace.image held.machine.views.config) held.journal ≡ held.machine

-- the machine as it was reset
abbrev pub reset_of : FabricState → State
reset_of held = opening held.machine.trace.image held.machine.views.config

-- what each fabric keeps: its machine is its journal's replay, each event of the journal changed it, the book is the journal's length, no other event changed it, the headline holds, and the log is lawful
pub record IsKept (held : FabricState) : Type 0 where
  pub replay : IsReplay held
  pub moves : AreMoves (reset_of held) held.journal
  pub book : held.book ≡ length held.journal
  pub changes : held.machine.views.changes ≡ held.book
  pub headline : KeepsHeadline held.machine
  pub log : IsLawfulLog held.machine.trace.log

-- a machine at reset, and nothing journalled
abbrev pub opened : Initial → Config → FabricState
opened image config = record { machine = opening image config; journal = []; book = 0 }

-- the machine has moved by an event, which stands last in the journal and counts once in the book
abbrev pub journalled : FabricState → Event → State → FabricState
journalled held e moved = record { machine = moved; journal = held.journal ++ e ∷ []; book = held.book + 1 }

-- what comes of an event by its verdict: the machine's answer, and exactly where the machine moves the event is journalled
abbrev pub Does : Verdict → Event → FabricState → Result Outcome ApplyError → FabricState → Type 0
Does IsBad e old result new = (result ≡ Err BadEvent) × (new ≡ old)
Does (Keeps o) e old result new = (result ≡ Ok o) × (new ≡ old)
Does IsLimited e old result new = (result ≡ Err Limit) × (new ≡ old)
Does (Moves o moved) e old result new = (result ≡ Ok o) × (new ≡ journalled old e moved)

-- or want of memory, with nothing changed
abbrev pub Answered : FabricState → Event → Result Outcome ApplyError → FabricState → Type 0
Answered old e result new = ((result ≡ Err NoMemory) × (new ≡ old)) ⊎ Does (verdict old.machine e) e old result new
