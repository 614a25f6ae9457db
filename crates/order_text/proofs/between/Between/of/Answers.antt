use Rattle.order_text.proofs.Gathered.{any_next, steered_next, addressed_next, held_next}
use Rattle.memory_model.specs.Items.{Item}
use Rattle.memory_model.specs.Rules.{fences, is_lr_or_sc}
use Rattle.std.proofs.Common.{arith}
use Rattle.order_text.proofs.between.Between.of.Goals as goal

pub loop-item-preserved : goal.loop-item-preserved
loop-item-preserved c = record {
  fenced = any_next (λ (m : Item). fences m.instr c.args.a.now.kind c.args.b.now.kind) _ _ _ _ _ _ c.in-Some.ensures.some (grind (arith)) c.loop-item.invariant.fenced;
  reserved = any_next (λ (m : Item). is_lr_or_sc m.instr) _ _ _ _ _ _ c.in-Some.ensures.some (grind (arith)) c.loop-item.invariant.reserved;
  steered = steered_next _ _ _ _ _ _ _ _ c.in-Some.ensures.some (grind (arith)) (grind (arith)) c.loop-item.invariant.steered;
  addressed = addressed_next _ _ _ _ _ _ _ _ c.in-Some.ensures.some (grind (arith)) (grind (arith)) c.loop-item.invariant.addressed;
  held = held_next _ _ _ _ _ _ c.in-Some.ensures.some (grind (arith)) c.loop-item.invariant.held;
}
