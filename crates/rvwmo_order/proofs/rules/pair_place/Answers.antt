use Rattle.std.proofs.Common.{◌≡◌, ◌-◌, ◌+◌, ◌∙◌, ℕ, ap, arith, false, subst, sym, true}
use Rattle.memory_model.specs.Rules.{is_lr_or_sc}
use Rattle.rvwmo_order.proofs.Pairs.{NoneFrom, none_down, none_from_end, not_from, only_there}
use Rattle.rvwmo_order.proofs.rules.pair_place.Goals as goal

pub loop-place-init : goal.loop-place-init
loop-place-init c = record {
  before = omega arith;
  within = omega (arith, c.count-count.ensures.count);
  none = none_from_end c.args.items.now c.min-place.result c.count-count.result c.args.sc.now.place c.count-count.ensures.count c.min-place.ensures;
}

pub loop-place-preserved : goal.loop-place-preserved
loop-place-preserved c =
    let is : is_lr_or_sc c.item-item.result.instr ≡ false = ap is_lr_or_sc (sym c.instr.ensures) ∙ (sym c.is_lr_or_sc.ensures ∙ c.if-is_lr_or_sc.false) in
    let up : c.loop-place.place ≡ c.loop-place.place - 1 + 1 = omega (arith, c.loop-place-test.true) in
    record {
      before = omega (arith, c.loop-place.invariant.before);
      within = omega (arith, c.loop-place.invariant.within);
      none = none_down c.args.items.now (c.loop-place.place - 1) c.args.sc.now.place c.item-item.result c.item-item.ensures is (subst (λ (n : ℕ). NoneFrom c.args.items.now n c.args.sc.now.place) up c.loop-place.invariant.none);
    }

pub returns-then-is_lr_or_sc : goal.returns-then-is_lr_or_sc
returns-then-is_lr_or_sc c = λ r given paired.
    let is : is_lr_or_sc c.item-item.result.instr ≡ true = ap is_lr_or_sc (sym c.instr.ensures) ∙ (sym c.is_lr_or_sc.ensures ∙ c.if-is_lr_or_sc.true) in
    let up : c.loop-place.place ≡ c.loop-place.place - 1 + 1 = omega (arith, c.loop-place-test.true) in
    only_there c.args.items.now (c.loop-place.place - 1) c.item-item.result r c.args.sc.now c.count-count.ensures.placed
    (subst (λ (n : ℕ). NoneFrom c.args.items.now n c.args.sc.now.place) up c.loop-place.invariant.none) c.item-item.ensures is (omega (arith, c.loop-place.invariant.before, c.loop-place-test.true)) given paired

pub returns : goal.returns
returns c = λ r given paired. absurd (not_from c.args.items.now c.loop-place.place r c.args.sc.now c.loop-place.invariant.none given (omega (arith, c.loop-place-test.false)) paired)
