use Rattle.std.proofs.Common.{◌≡◌, arith, length, subst}
use Rattle.parted_judge.specs.Parts.{ArePartBreachesOf}
use Rattle.parted_judge.proofs.Parts.{all_told, listed_further}
use Rattle.parted_judge.proofs.breaches.list_part_breaches.Goals as goal

pub loop-index-preserved : goal.loop-index-preserved
loop-index-preserved c =
    let one = c.in_ok-found.ensures c.loop-index.invariant.one in
    let two = c.in_ok-other.ensures c.loop-index.invariant.two in
    record {
      one = one.1;
      two = two.1;
      breaches = listed_further c.args.profile c.args.first.now c.args.second.now c.loop-index.index c.loop-index.listed.items c.list.new.listed.items c.in_ok-found.found c.in_ok-other.other
          c.loop-index.invariant.breaches one.0 two.0 c.in_ok-list.ensures;
    }

pub returns : goal.returns
returns c =
    let all : c.loop-index.index ≡ length c.args.first.now = omega (arith, c.loop-index-test.false, c.loop-index.auto.index-end) in
    record {
      all = c.loop-index.listed.items;
      breaches = subst (λ n. ArePartBreachesOf c.args.profile c.args.first.now c.args.second.now n c.loop-index.listed.items) all c.loop-index.invariant.breaches;
      told = all_told c.loop-index.listed.items c.truncate.new.self.items c.len-count.result (omega (arith, c.len-count.ensures, c.loop-index.listed.ok)) c.truncate.ensures.items;
    }
