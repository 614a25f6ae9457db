use Rattle.std.proofs.Common.{◌≡◌, ◌∙◌, ap, arith, rules}
use Rattle.std.proofs.lemmas.Grind.{common_steps}
use Rattle.hart.specs.declared.state.Hart.{Hart}
use Rattle.host_threads.specs.Asked.{told, told_at}
use Rattle.host_threads.proofs.Round.{picks}
use Rattle.machine_model.specs.Views.{node_at}
use Rattle.host_threads.proofs.rounds.RoundsTurn.pick.Goals as goal

pub returns-clause-picks : goal.returns-clause-picks
returns-clause-picks c =
    let own : c.hart.result.now ≡ (node_at c.args.views.now c.args.self.now.hart).hart = search rules in
    let heard : c.hear.new.self ≡ told c.args.self.now c.args.views.now c.args.last = c.hear.ensures ∙ ap (λ (h : Hart). told_at c.args.self.now h c.args.last) own in
    picks c.args.self.now c.hear.new.self c.go_on.new.self c.args.views.now c.args.last c.in-Some.steps c.in-Some.event heard c.in-Some.ensures.first c.go_on.ensures

pub returns-in_default-clause-idle : goal.returns-in_default-clause-idle
returns-in_default-clause-idle c = grind (arith, common_steps)

pub returns-in_default-clause-passes : goal.returns-in_default-clause-passes
returns-in_default-clause-passes c = grind (arith, common_steps)

pub returns-clause-due : goal.returns-clause-due
returns-clause-due c = grind (arith, common_steps)
