use Rattle.std.proofs.Common.{◌∙◌, ap, arith, refl, rules, sym, ℕ}
use Rattle.std.proofs.lemmas.Bool.{false≢true}
use Rattle.std.proofs.lemmas.Grind.{common_steps}
use Rattle.hart.specs.Local.{can_go_alone}
use Rattle.hart.specs.declared.state.Hart.{Hart}
use Rattle.machine_model.specs.Views.{node_at}
use Rattle.host_threads.proofs.watched.WatchedTurn.pick.Goals as goal
use Rattle.host_threads.proofs.watched.WatchedTurn.pick.Goals.{else-from-harts-via-then-from-harts+else-is_step_of, else-from-harts-via-else-from-harts}

pub returns-then-goes_alone-clause-steps : goal.returns-then-goes_alone-clause-steps
returns-then-goes_alone-clause-steps g c =
    let own = c.hart-own.ensures ∙ ap (λ (h : ℕ). (node_at c.args.views.now h).hart) c.from-then-is_step_of.ensures in
    let alone = ap (λ (h : Hart). can_go_alone c.args.self.now.image.now h) (sym own) ∙ sym c.goes_alone.ensures ∙ c.if-goes_alone.true in (
      (λ _. (search rules, c.is_step_of.ensures.0 c.if-is_step_of.true, alone)),
      (λ _. refl),
    )

pub returns-else-from-harts-clause-steps : goal.returns-else-from-harts-clause-steps
returns-else-from-harts-clause-steps g c = (
  (λ e. absurd (false≢true e)),
  (λ all.
      elim c.else-from-harts.branch [
        | else-from-harts-via-then-from-harts+else-is_step_of w ↦ absurd (false≢true (sym w.if-is_step_of.false ∙ w.is_step_of.ensures.1 all.1))
        | else-from-harts-via-else-from-harts w ↦ absurd (let outside = w.if-from-harts.false in let below = all.0 in omega (arith, outside, below, c.from.ensures, c.harts.ensures))
      ]),
)

pub returns-then-goes_alone-clause-stood : goal.returns-then-goes_alone-clause-stood
returns-then-goes_alone-clause-stood g c = grind (arith, common_steps)
