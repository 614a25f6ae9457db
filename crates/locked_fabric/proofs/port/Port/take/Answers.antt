use Rattle.std.proofs.Common.{◌≡◌, rules, subst}
use Rattle.machine_model.specs.Views.{State}
use Rattle.locked_fabric.proofs.port.Port.take.Goals as goal

pub returns-clause-takes : goal.returns-clause-takes
returns-clause-takes g c =
    let taken = c.take-taken.ensures in
    let seen : c.machine.result.now ≡ c.take-taken.new.fabric.machine = search rules in
    let sees = subst (λ (s : State). g.T.Visit.sees c.take-taken.new.turn s c.see.new.self) seen c.see.ensures in
    (c.take-taken.new.fabric, taken.left, (c.deref_mut.result.now, taken.found, c.take-taken.new.turn, sees, taken.takes))
