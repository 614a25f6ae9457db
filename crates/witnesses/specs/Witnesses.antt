-- Which runs a memory model allows, and what they are witnesses of.
use Rattle.std.specs.Prelude.{◌≡◌, ℕ, ◌≤◌, Bool, true, not, [], length, map}
use Rattle.std.specs.List.{list_all}
use Rattle.elf_loader.specs.Image.{Initial}
use Rattle.flat_model.specs.Shown.{told}
use Rattle.hart.specs.declared.status.Status.{Status}
use Rattle.hart.specs.Run.{is_running}
use Rattle.machine_types.specs.declared.config.Config.{Config}
use Rattle.machine_types.specs.declared.model.MemoryModel.{MemoryModel}
use Rattle.rvwmo_order.specs.Traces.{IsLegalOrder, IsOrder, are_runs, names_in}
use Rattle.trace_recorder.specs.History.{History}
use Rattle.trace_recorder.specs.Limits.{AreWithinLimits, IsWithinLimits}
use Rattle.witnesses.specs.Outcomes.{results_of}
use Rattle.witnesses.specs.declared.witness.Run.{Run}
use Rattle.witnesses.specs.declared.witness.Witness.{Witness}

abbrev pub has_ended : Status → Bool
has_ended status = not (is_running status)

-- each hart's list is a run of the image from reset, and the performed order has each operation once and is legal under the model
pub record IsAllowed (model : MemoryModel) (t : History) : Type 0 where
  pub runs : are_runs t ≡ true
  pub order : IsOrder t t.performed
  pub legal : IsLegalOrder model t t.performed

-- the trace of a run
abbrev pub history_of : Initial → Config → Run → History
history_of image config run = record {
  image = image;
  line = config.line;
  entries = map (λ list. list.items) run.entries.items;
  statuses = run.statuses.items;
  performed = run.order.items;
  log = [];
}

-- ---- a run's trace

-- a list and a status for each hart, none too long for a trace
pub record HasLists (harts : ℕ) (run : Run) : Type 0 where
  pub lists : length run.entries.items ≡ harts
  pub statuses : length run.statuses.items ≡ harts
  pub limits : AreWithinLimits run.entries.items

-- a run whose trace is told
pub record CanBeJudged (image : Initial) (config : Config) (run : Run) : Type 0 where
  pub has : HasLists config.harts run
  pub allowed : IsAllowed config.model (history_of image config run)
  pub few : length (names_in (history_of image config run)) ≤ 4096

-- a trace that the model allows: its lists are runs of the image from reset on, whose harts may run still, and these have a legal order of at most 4,096 operations; no message is logged
pub record IsLegalTrace (image : Initial) (config : Config) (t : History) : Type 0 where
  pub image_is : t.image ≡ image
  pub line_is : t.line ≡ config.line
  pub harts : length t.entries ≡ config.harts
  pub limits : IsWithinLimits t
  pub few : length (names_in t) ≤ 4096
  pub no_log : t.log ≡ []
  pub allowed : IsAllowed config.model t

-- ---- an outcome's witness

-- all harts have ended
abbrev pub HasEndedRun : Run → Type 0
HasEndedRun run = list_all has_ended run.statuses.items ≡ true

-- a run that is told as a witness
pub record CanBeWitness (image : Initial) (config : Config) (run : Run) : Type 0 where
  pub ended : HasEndedRun run
  pub judged : CanBeJudged image config run

-- an outcome that the model allows: it is read off lists that are runs of the image from reset to their ends
pub record IsWitness (image : Initial) (config : Config) (witness : Witness) : Type 0 where
  pub legal : IsLegalTrace image config witness.trace.history
  pub ended : list_all has_ended witness.trace.history.statuses ≡ true
  pub outcome : told witness.harts.items ≡ results_of witness.trace.history
