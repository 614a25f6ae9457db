use Rattle.std.proofs.Common.{All, rules, subst}
use Rattle.std.proofs.lemmas.List.{take_all}
use Rattle.std.proofs.lemmas.List.Elements.{All-more}
use Rattle.architecture_outcomes.specs.Words.{CanShow}
use Rattle.litmus_command.proofs.program.can_show_each.Goals as goal

pub loop-address-preserved : goal.loop-address-preserved
loop-address-preserved c =
    All-more (CanShow c.args.image.now) c.args.addresses.now c.loop-address.address-index _ c.loop-address-test.true c.loop-address.invariant (c.can_show.ensures.0 (search rules))

pub returns-clause-shown : goal.returns-clause-shown
returns-clause-shown c told = subst (All (CanShow c.args.image.now)) (take_all c.loop-address.address-index c.args.addresses.now c.loop-address-test.false) c.loop-address.invariant
