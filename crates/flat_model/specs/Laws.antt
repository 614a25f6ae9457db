-- The machine shows a program one flat memory behind store buffers.
use Rattle.std.specs.Prelude.{◌≡◌, List}
use Rattle.machine_model.specs.Image.{Initial}
use Rattle.flat_model.specs.declared.event.FlatEvent.{FlatEvent}
use Rattle.flat_model.specs.Events.{after_events, verdict}
use Rattle.flat_model.specs.Flat.{Flat, opening}
use Rattle.flat_model.specs.Projected.{projected, projected_verdict}
use Rattle.flat_model.specs.Shown.{Shows, flat_results, results}
use Rattle.machine_types.specs.declared.config.Config.{Config}
use Rattle.machine_model.specs.Laws.{Always, AreRunsOf, IsCompletedLegally}
use Rattle.machine_model.specs.Views.{State}

-- ---- refinement: some list of flat events shows what the machine's events did

pub record IsShown (image : Initial) (config : Config) (s : State) : Type 0 where
  pub events : List FlatEvent
  pub shows : Shows s (after_events (opening image config) events)

abbrev pub ShownAlways : Type 0
ShownAlways = Always IsShown

-- ---- so the harts' statuses and outputs, ended ones among them, are those of a flat run

pub record HasFlatResults (image : Initial) (config : Config) (s : State) : Type 0 where
  pub events : List FlatEvent
  pub same : flat_results (after_events (opening image config) events) ≡ results s

abbrev pub FlatResultsAlways : Type 0
FlatResultsAlways = Always HasFlatResults

-- ---- and a flat machine that shows a machine has that machine's runs and its legal order

pub record IsLegalRun (image : Initial) (config : Config) (f : Flat) : Type 0 where
  pub runs : AreRunsOf image config f.trace
  pub order : IsCompletedLegally config f.trace

abbrev pub FlatOrderAlways : Type 0
FlatOrderAlways = Always (λ image config s. (f : Flat) → Shows s f → IsLegalRun image config f)

-- ---- projection: what a flat machine may do next, and how it ends, depends on its projection alone

pub record GoOnAlike (f g : Flat) : Type 0 where
  -- each event is refused, keeps or moves both, with one outcome, to one projection
  pub next : (e : FlatEvent) → projected_verdict (verdict f e) ≡ projected_verdict (verdict g e)
  -- and so with each list of events, behind which statuses and outputs are the same
  pub later : (events : List FlatEvent) → projected (after_events f events) ≡ projected (after_events g events)
  pub ends : (events : List FlatEvent) → flat_results (after_events f events) ≡ flat_results (after_events g events)

abbrev pub ProjectionDecides : Type 0
ProjectionDecides = (f g : Flat) → projected f ≡ projected g → GoOnAlike f g
