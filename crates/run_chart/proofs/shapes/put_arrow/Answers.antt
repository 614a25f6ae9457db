use Rattle.std.proofs.Common.{◌∙◌, refl, rules, sym}
use Rattle.run_chart.proofs.ArrowHeads.{downward_arrow, upward_arrow}
use Rattle.run_chart.proofs.shapes.put_arrow.Goals as goal

pub returns-in_ok-put_upward : goal.returns-in_ok-put_upward
returns-in_ok-put_upward c =
    upward_arrow c.put_told.result c.args.plan.now c.args.message.now c.args.label.short.now c.args.label.whole.now _ _ _ c.channel_class-class.result.now _ c.baseline-y.result _ (sym c.is_from_cache.ensures ∙ c.if-is_from_cache.true) c.channel_class-class.ensures c.baseline-y.ensures
    c.message_room.ensures.value c.in_ok-put_upward.ensures c.put_told.ensures (search rules)

pub returns-in_ok-put_downward : goal.returns-in_ok-put_downward
returns-in_ok-put_downward c =
    downward_arrow c.put_told-else-is_from_cache.result c.args.plan.now c.args.message.now c.args.label.short.now c.args.label.whole.now _ _ _ c.channel_class-class.result.now _ c.baseline-y.result _ (sym c.is_from_cache.ensures ∙ c.if-is_from_cache.false) c.channel_class-class.ensures c.baseline-y.ensures
    refl c.in_ok-put_downward.ensures c.put_told-else-is_from_cache.ensures (search rules)
