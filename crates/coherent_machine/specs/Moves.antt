-- Which events change a machine.
use Rattle.std.specs.Prelude.{◌≡◌, List, [], ◌∷◌}
use Rattle.machine_types.specs.declared.event.Event.{Event}
use Rattle.machine_types.specs.declared.outcome.Outcome.{Outcome}
use Rattle.machine_model.specs.Events.{happens, verdict}
use Rattle.machine_model.specs.Events.Verdict.{Moves}
use Rattle.machine_model.specs.Views.{State}

-- the event changes this machine: it is not refused, and comes to something
abbrev pub IsMove : State → Event → Type 0
IsMove s e = (o : Outcome) × (new : State) × (verdict s e ≡ Moves o new)

-- each event changes the machine to which those before it lead
abbrev pub AreMoves : State → List Event → Type 0
AreMoves s [] = Unit {0}
AreMoves s (e ∷ events) = IsMove s e × AreMoves (happens s e) events
