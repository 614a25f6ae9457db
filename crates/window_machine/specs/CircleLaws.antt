-- Laws of harts that go in a circle.
use Rattle.std.specs.Prelude.{ℕ, ◌≡◌, true, List}
use Rattle.elf_loader.specs.Image.{Initial}
use Rattle.window_model.specs.Shown.{HartEnd}
use Rattle.hart.specs.declared.retired.Retired.{Retired}
use Rattle.hart.specs.declared.state.Hart.{Hart}
use Rattle.hart.specs.declared.status.Status.{Status}
use Rattle.hart.specs.Run.{are_steps, reached, status_fits}
use Rattle.machine_types.specs.declared.model.MemoryModel.{MemoryModel}
use Rattle.window_machine.specs.Circles.{NeverArrives}
use Rattle.window_model.specs.Nodes.{Node}
use Rattle.window_model.specs.Closing.{EndsAlone}
use Rattle.window_model.specs.Covering.{ComesToPlace}
use Rattle.window_model.specs.Witnesses.{has_ended}

-- one that never arrives at an access comes to nothing that it places as it fetches it
abbrev pub CirclesPlaceNothing : Type 0
CirclesPlaceNothing = (model : MemoryModel) (image : Initial) (memory : ℕ → ℕ) (n : Node) → NeverArrives image n.hart → ComesToPlace model image memory n → ⊥

-- nor to its end
abbrev pub CirclesNeverEnd : Type 0
CirclesNeverEnd = (model : MemoryModel) (image : Initial) (n : Node) (result : HartEnd) → NeverArrives image n.hart → EndsAlone model image n result → ⊥

-- no list of it is a run to its end
abbrev pub CirclesNeverRun : Type 0
CirclesNeverRun =
    (image : Initial) (hart : Hart) (entries : List Retired) (status : Status) → NeverArrives image hart
    → are_steps image hart entries ≡ true → has_ended status ≡ true → status_fits image (reached hart entries) status ≡ true → ⊥
