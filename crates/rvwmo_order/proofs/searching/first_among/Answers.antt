use Rattle.std.proofs.Common.{◌∙◌, ap, find}
use Rattle.memory_model.specs.Rules.{asked_by}
use Rattle.rvwmo_order.specs.Rules.{rule_of}
use Rattle.rvwmo_order.specs.declared.rule.Rule.{Rule}
use Rattle.rvwmo_order.proofs.searching.first_among.Goals as goal

pub returns : goal.returns
returns c = c.first_asked.ensures ∙ ap (λ (rule : Rule). find (λ a. asked_by c.args.model c.args.harts.now c.args.ranking.now (rule_of rule) a c.args.b.now) c.args.among.now) (c.mark.ensures.rule ∙ c.new-sweep.ensures)
