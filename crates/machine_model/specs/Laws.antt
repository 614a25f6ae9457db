-- What holds of every list of events, in any order, from reset: the headline and its parts.
use Rattle.std.specs.Prelude.{ℕ, zero, suc, ◌≡◌, ◌+◌, ◌≤◌, List, length, Contains, IsTrue, Some}
use Rattle.std.specs.List.{list_all}
use Rattle.std.specs.FinSet as set
use Rattle.client_cache.specs.Cache.{Cache, copy_at}
use Rattle.client_cache.specs.Held.{perm_of}
use Rattle.elf_loader.specs.Image.{Initial, IsImage}
use Rattle.machine_types.specs.declared.config.Config.{Config}
use Rattle.machine_types.specs.declared.event.Event.{Event}
use Rattle.machine_types.specs.declared.event.Event.TheVariants as event
use Rattle.machine_types.specs.declared.outcome.Outcome.{Outcome}
use Rattle.machine_types.specs.declared.outcome.Outcome.TheVariants as outcome
use Rattle.machine_model.specs.Coherent.{IsCoherent, perm_at}
use Rattle.machine_model.specs.Changing.{stopped}
use Rattle.machine_model.specs.Events.{Verdict, after_events, counted, happens, verdict}
use Rattle.machine_model.specs.LawfulLog.{IsBeginningOf, IsLawfulLog, is_grant}
use Rattle.machine_model.specs.Views.{State, line_size, node_at, opening}
use Rattle.memory_model.specs.Traces.{IsLegalOrder, IsOrder, are_runs, completed, is_among, is_distinct, names_in}
use Rattle.tilelink_channels.specs.Queues.{queue_of, room_of}
use Rattle.tl_types.specs.Line.{line_of}
use Rattle.tl_types.specs.declared.message.Body.TheVariants.{Grant}
use Rattle.tl_types.specs.declared.message.Channel.{Channel}
use Rattle.tl_types.specs.declared.message.Channel.TheVariants.{D}
use Rattle.tl_types.specs.declared.message.Msg.{Msg}
use Rattle.tl_types.specs.declared.permission.Cap.{Cap}
use Rattle.tl_types.specs.declared.permission.Perm.TheVariants.{Branch, Trunk}
use Rattle.trace_recorder.specs.History.{History, entries_of}

-- a law of every state that a list of events leads to, of an image and a configuration
abbrev pub Always : (Initial → Config → State → Type 0) → Type 0
Always P = (image : Initial) (config : Config) (events : List Event) → IsImage image → P image config (after_events (opening image config) events)

-- ---- coherence

abbrev pub CoherentAlways : Type 0
CoherentAlways = Always (λ image config s. IsCoherent s)

-- ---- runs: each hart's list is a run of the loaded image, with its status

pub record AreRunsOf (image : Initial) (config : Config) (t : History) : Type 0 where
  pub loaded : t.image ≡ image
  pub harts : length t.entries ≡ config.harts
  pub runs : IsTrue (are_runs t)

abbrev pub RunsAlways : Type 0
RunsAlways = Always (λ image config s. AreRunsOf image config s.trace)

-- ---- order: the completed order begins with the performed order, has each operation once, and is legal under the configured model

pub record IsCompletedLegally (config : Config) (t : History) : Type 0 where
  pub order : IsOrder t (completed t)
  pub begins : IsBeginningOf t.performed (completed t)
  pub legal : IsLegalOrder config.model t (completed t)

abbrev pub LegalAlways : Type 0
LegalAlways = Always (λ image config s. IsCompletedLegally config s.trace)

-- ---- the log

abbrev pub LogLawfulAlways : Type 0
LogLawfulAlways = Always (λ image config s. IsLawfulLog s.trace.log)

-- ---- room: an event takes its message before it sends, and sends at most one into each queue, so each push has room where no state has more than the rooms

abbrev pub QueuesFit : State → Type 0
QueuesFit s = (h : ℕ) (channel : Channel) → length (queue_of (node_at s h).queues channel) ≤ room_of channel

-- a Grant finds the slot that its Acquire took, and one without data finds its copy
pub record HasSlot (c : Cache) (m : Msg) : Type 0 where
  pub tracked : IsTrue (set.contains c.acquiring m.line)
  pub copied : (cap : Cap) → m.body ≡ Grant cap → perm_of (copy_at c m.line) ≡ Branch

abbrev pub GrantsHaveSlots : State → Type 0
GrantsHaveSlots s = (h : ℕ) (m : Msg) → Contains (queue_of (node_at s h).queues D) m → IsTrue (is_grant m.body) → HasSlot (node_at s h).cache m

-- each performed name is an operation's, and stands once
pub record IsPerformedOnce (t : History) : Type 0 where
  pub operations : IsTrue (list_all (is_among (names_in t)) t.performed)
  pub once : IsTrue (is_distinct t.performed)

-- a reserved word's line may be written
abbrev pub ReservedIsTrunk : State → Type 0
ReservedIsTrunk s = (h word : ℕ) → (node_at s h).reserved ≡ Some word → perm_at s h (line_of (line_size s) word) ≡ Trunk

pub record HasRoom (s : State) : Type 0 where
  pub queues : QueuesFit s
  pub grants : GrantsHaveSlots s
  pub performed : IsPerformedOnce s.trace
  pub reserved : ReservedIsTrunk s

abbrev pub RoomAlways : Type 0
RoomAlways = Always (λ image config s. HasRoom s)

-- ---- what an event adds: the old lists are beginnings of the new ones

pub record Grows (old new : History) : Type 0 where
  pub performed : IsBeginningOf old.performed new.performed
  pub entries : (h : ℕ) → IsBeginningOf (entries_of old h) (entries_of new h)
  pub log : IsBeginningOf old.log new.log

abbrev pub NothingIsRewritten : Type 0
NothingIsRewritten = (s : State) (e : Event) → Grows s.trace (happens s e).trace

pub record KeepsImageAndConfig (old new : State) : Type 0 where
  pub image : new.trace.image ≡ old.trace.image
  pub line : new.trace.line ≡ old.trace.line
  pub config : new.views.config ≡ old.views.config

abbrev pub ImageAndConfigStay : Type 0
ImageAndConfigStay = (s : State) (e : Event) → KeepsImageAndConfig s (happens s e)

-- an event that changes the machine counts once
abbrev pub ChangesAreCounted : Type 0
ChangesAreCounted = (s : State) (e : Event) (o : Outcome) (new : State) → verdict s e ≡ Verdict.Moves o new → new.views.changes ≡ s.views.changes + 1

-- ---- stops: registers, pc, memory, buffers, copies, lists and messages are left as they were, and the hart's status alone is another

abbrev pub StopsChangeStatusAlone : Type 0
StopsChangeStatusAlone = (s : State) (h code : ℕ) (new : State) → verdict s (event.Step h) ≡ Verdict.Moves (outcome.Stopped code) new → new ≡ counted (stopped h code s)

-- ---- batches: a Local event that retires is as many single steps, each Retired, but for the count of events, which grows by one; so the steps are counted from 0

abbrev pub with_changes : ℕ → State → State
with_changes n s = record s { views = record s.views { changes = n } }

abbrev pub StepsRetire : (h steps : ℕ) → State → State → Type 0
StepsRetire h zero old new = new ≡ old
StepsRetire h (suc n) old new = (next : State) × (verdict old (event.Step h) ≡ Verdict.Moves outcome.Retired next) × StepsRetire h n next new

pub record IsSteps (h count : ℕ) (s : State) (o : Outcome) (new : State) : Type 0 where
  pub retires : o ≡ outcome.Retired
  pub last : State
  pub steps : StepsRetire h count (with_changes 0 s) last
  pub counts_once : new ≡ with_changes (s.views.changes + 1) last

abbrev pub LocalIsSteps : Type 0
LocalIsSteps = (s : State) (h count : ℕ) (o : Outcome) (new : State) → verdict s (event.Local h count) ≡ Verdict.Moves o new → IsSteps h count s o new

-- ---- the headline: the machine is coherent, each hart's list is a run of the loaded program, and all lists together have one global memory order, beginning with the performed order, that is legal

pub record IsHeadline (image : Initial) (config : Config) (s : State) : Type 0 where
  pub coherent : IsCoherent s
  pub runs : AreRunsOf image config s.trace
  pub order : IsCompletedLegally config s.trace

abbrev pub Headline : Type 0
Headline = Always IsHeadline
