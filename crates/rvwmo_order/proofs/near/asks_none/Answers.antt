use Rattle.std.proofs.Common.{◌≡◌, ◌∙◌, None, find, sym}
use Rattle.memory_model.specs.Rules.{asked_by}
use Rattle.rvwmo_order.specs.Rules.{rule_of}
use Rattle.rvwmo_order.specs.declared.rule.Rule.{Rule}
use Rattle.rvwmo_order.proofs.Unbroken.{found_none, none_left, of_each_rule, with_first}
use Rattle.rvwmo_order.proofs.near.asks_none.Goals as goal

pub loop-left-preserved : goal.loop-left-preserved
loop-left-preserved c = λ rest.
    c.loop-left.invariant (with_first (λ (rule : Rule). find (λ a. asked_by c.args.model c.args.harts.now c.args.ranking.now (rule_of rule) a c.args.b.now) c.args.among.now ≡ None) c.loop-left.left.now _ c.in-len1-up.len_at_least
    (found_none c.args.model c.args.harts.now c.args.ranking.now c.args.among.now c.args.b.now c.first_asked.result c.mark.new.self.rule _ (c.mark.ensures.rule ∙ c.new-sweep.ensures) c.first_asked.ensures (sym c.is_some.ensures ∙ c.if-is_some.false)) rest)

pub returns : goal.returns
returns c = λ e.
    let P = λ (rule : Rule). find (λ a. asked_by c.args.model c.args.harts.now c.args.ranking.now (rule_of rule) a c.args.b.now) c.args.among.now ≡ None in
    of_each_rule P (c.loop-left.invariant (none_left P c.loop-left.left.now c.in_default.len_below))
