use Rattle.std.proofs.Common.{◌≡◌, rules, subst}
use Rattle.machine_model.specs.Views.{State}
use Rattle.locked_fabric.proofs.port.Port.apply.Goals as goal

pub returns-clause-answers : goal.returns-clause-answers
returns-clause-answers g c =
    let after = c.apply-applied.ensures in
    let seen : c.machine.result.now ≡ c.apply-applied.new.self.machine = search rules in (
      c.apply-applied.new.self,
      after.left,
      (record { old = c.deref_mut.result.now; kept = after.found; answered = after.answers; counted = after.share }, subst (λ (s : State). g.T.Visit.sees c.args.turn.now s c.see.new.self) seen c.see.ensures),
    )
