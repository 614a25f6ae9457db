use Rattle.std.proofs.Common.{All, sym, subst}
use Rattle.std.proofs.lemmas.List.Elements.{All-push}
use Rattle.machine_model.specs.Views.{State}
use Rattle.schedules.specs.Circles.{GoesRound}
use Rattle.schedules.specs.declared.circling.Circle.{Circle}
use Rattle.schedules.proofs.Rounds.{of_some}
use Rattle.schedules.proofs.circling.add.Goals as goal

abbrev Goes : State → Circle → Type 0
Goes s circle = GoesRound s circle.hart circle.pc

pub returns-in_ok-push : goal.returns-in_ok-push
returns-in_ok-push c = λ s old new. subst (All (Goes s)) (sym c.in_ok-push.ensures.items) (All-push (Goes s) _ _ old (of_some (Goes s) _ _ c.in-Some.is new))
