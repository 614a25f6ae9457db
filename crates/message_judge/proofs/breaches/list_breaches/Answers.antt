use Rattle.std.proofs.Common.{ℕ, ◌≡◌, ◌++◌, arith, length, subst, sym, take}
use Rattle.std.proofs.lemmas.List.{length-take-le, take_more}
use Rattle.std.specs.Option.{option_copied}
use Rattle.coherent_log.specs.Followed as coherence
use Rattle.lawful_log.specs.Followed as order
use Rattle.message_judge.proofs.Breaching.{one_further, verdict_listed}
use Rattle.message_judge.specs.Breaches.{AreBreachesOf, numbered}
use Rattle.message_judge.proofs.breaches.list_breaches.Goals as goal

pub loop-index-preserved : goal.loop-index-preserved
loop-index-preserved c = record {
  order = subst (order.Follows c.note.new.self) (sym (take_more c.args.log.now c.loop-index.index _ c.loop-index-test.true)) (c.in_ok-note.ensures (take c.loop-index.index c.args.log.now) c.loop-index.invariant.order);
  copies = subst (coherence.Follows c.note-in-loop-index.new.self) (sym (take_more c.args.log.now c.loop-index.index _ c.loop-index-test.true))
      (c.in_ok-note-2.ensures (take c.loop-index.index c.args.log.now) c.loop-index.invariant.copies (sym (length-take-le c.loop-index.index c.args.log.now (omega (arith, c.loop-index-test.true)))));
  few = omega (arith, c.in_ok-count.ensures.few, c.loop-index.invariant.few);
  all = c.loop-index.invariant.all ++ numbered c.loop-index.index c.breach_of-found.result;
  breaches = one_further c.args.profile (option_copied c.args.image) c.args.log.now c.loop-index.index _ c.loop-index.invariant.all c.breach_of-found.result c.loop-index-test.true c.loop-index.invariant.breaches
      (c.breach_of-found.ensures (take c.loop-index.index c.args.log.now) c.loop-index.invariant.order c.loop-index.invariant.copies);
  told = c.in_ok-count.ensures.list c.loop-index.invariant.all c.loop-index.invariant.told;
}

pub returns-clause-verdict : goal.returns-clause-verdict
returns-clause-verdict c =
    let whole : c.loop-index.index ≡ length c.args.log.now = omega (arith, c.loop-index-test.false, c.loop-index.auto.index-end) in
    verdict_listed c.args.profile (option_copied c.args.image) c.args.log.now c.loop-index.invariant.all c.loop-index.listed.items c.loop-index.count
    (subst (λ (n : ℕ). AreBreachesOf c.args.profile (option_copied c.args.image) c.args.log.now n c.loop-index.invariant.all) whole c.loop-index.invariant.breaches) c.loop-index.invariant.told
