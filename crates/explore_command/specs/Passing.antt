-- What it means that a search which was to fail on anything passed.
use Rattle.std.specs.Prelude.{ℕ, ◌≡◌, true, false, List, [], Option, codes}
use Rattle.architecture_outcomes.specs.FailingRuns.{IsFailing}
use Rattle.architecture_outcomes.specs.Failure.{Failure}
use Rattle.command_files.specs.Contents.{Contents}
use Rattle.command_files.specs.Faults.{Name}
use Rattle.command_files.specs.Sizes.{config_named}
use Rattle.command_settings.specs.Settings.{lists}
use Rattle.command_settings.specs.declared.wanted.Explore.{Explore}
use Rattle.elf_loader.specs.Image.{Initial}
use Rattle.explore_command.specs.Exploring.{IsExplorationTold}
use Rattle.explore_command.specs.Judging.{has_stopped}
use Rattle.explore_command.specs.Searching.{IsSearched}
use Rattle.command_files.specs.declared.allowing.Judgement.TheVariants.{Allowed}
use Rattle.explorer.specs.Outcomes.{CanAlwaysEnd}
use Rattle.flat_model.specs.Shown.{results}
use Rattle.machine_types.specs.declared.config.Config.{Config}
use Rattle.machine_types.specs.declared.event.Event.{Event}
use Rattle.explorer.specs.Schedules.{led}
use Rattle.trace_recorder.specs.History.{History}

-- whatever events come in whatever order, no hart has stopped, be the others at their ends or not
abbrev pub NoneStops : Initial → Config → Type 0
NoneStops image config = (events : List Event) → has_stopped (results (led image config events)) ≡ false

-- no hart ever stops, where the list has `failure` and `incomplete`; and wherever flat events lead, some more lead to where all harts have ended, where it has `stuck` and `incomplete`
pub record IsSafe (list : Option Name) (image : Initial) (config : Config) : Type 0 where
  pub none_stops : lists (codes "failure") list ≡ true → lists (codes "incomplete") list ≡ true → NoneStops image config
  pub ends : lists (codes "stuck") list ≡ true → lists (codes "incomplete") list ≡ true → CanAlwaysEnd image config []

abbrev pub PassingIsSafe : Type 0
PassingIsSafe = (held left : Contents) (wanted : Explore) (old new : Option (List ℕ)) (told : IsExplorationTold held left wanted Allowed old new) → IsSafe wanted.fail_on told.image (config_named wanted.machine told.inside)

-- ---- under a memory model

-- in no run of the program that the model allows has a hart stopped, be the others at their ends or not
abbrev pub NoneStopsUnder : Initial → Config → Type 0
NoneStopsUnder image config = (t : History) (x : Failure) → IsFailing image config t x → ⊥

-- no hart ever stops, by the model or on this machine, where the list has `failure` and `incomplete`
pub record IsSafeUnder (list : Option Name) (image : Initial) (config : Config) : Type 0 where
  pub none_allowed : lists (codes "failure") list ≡ true → lists (codes "incomplete") list ≡ true → NoneStopsUnder image config
  pub none_stops : lists (codes "failure") list ≡ true → lists (codes "incomplete") list ≡ true → NoneStops image config

abbrev pub SearchPassingIsSafe : Type 0
SearchPassingIsSafe = (held left : Contents) (wanted : Explore) (words : List Name) (window : ℕ) (old new : Option (List ℕ)) (searched : IsSearched held left wanted words window Allowed old new)
    → IsSafeUnder wanted.fail_on searched.of_file.image (config_named wanted.machine searched.of_file.inside)
