use Rattle.std.proofs.Common.{refl}
use Rattle.order_text.proofs.rules.rules_between.Goals as goal

pub loop-left-init : goal.loop-left-init
loop-left-init c = rw (c.new-rules.ensures.items, c.as_slice-left.ensures) refl
