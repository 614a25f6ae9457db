use Rattle.std.proofs.Common.{◌+◌, ◌≤◌, ℕ, List, [], ap, arith, length, subst, sym}
use Rattle.memory_model.specs.declared.operation.Operation.{Operation}
use Rattle.std.proofs.lemmas.List.Sums.{sum_by-take-le}
use Rattle.std.proofs.lemmas.Option.{slice_get-get_or}
use Rattle.rvwmo_order.specs.Looks.{stores_at, stores_read}
use Rattle.rvwmo_order.specs.Sourcing.{latest_at}
use Rattle.rvwmo_order.proofs.Kept.{EachGiven, given_none, given_more, ranks_given}
use Rattle.rvwmo_order.proofs.Bytes.{Each-get}
use Rattle.rvwmo_order.proofs.Looks.{bytes_few, walked, walked_all}
use Rattle.rvwmo_order.proofs.LastStores.{before_next, before_none}
use Rattle.rvwmo_order.proofs.sourcing.last_stores.Goals as goal

pub loop-position-init : goal.loop-position-init
loop-position-init g c = record {
  latest = before_none c.args.order.now (latest_at c.none-latest.result.words) c.none-latest.ensures;
  many = ap length c.in_ok-sources.ensures.items;
  each = given_none c.args.order.now c.in_ok-sources.sources.items c.in_ok-sources.ensures.items;
  looks = omega arith;
}

pub ranks_found-requires : goal.ranks_found-requires
ranks_found-requires g c = Each-get (λ (a : Operation). a.size ≤ 4) c.args.order.now c.loop-position.position _ c.loop-position-test.true c.requires.small

pub loop-position-preserved : goal.loop-position-preserved
loop-position-preserved g c =
    let order = c.args.order.now in
    let p = c.loop-position.position in
    let there = slice_get-get_or order p _ c.loop-position-test.true in
    let small = Each-get (λ (a : Operation). a.size ≤ 4) order p _ c.loop-position-test.true c.requires.small in
    let mine = slice_get-get_or c.args.own.now p _ (omega (arith, c.loop-position-test.true, c.requires.own.many)) in
    let looks = c.ranks_found.ensures.looks (stores_at order) (bytes_few order c.args.own.now p _ _ (latest_at c.loop-position.latest.words) small there mine c.requires.own c.loop-position.invariant.latest) in
    record {
      latest = before_next order p (p + 1) _ (latest_at c.loop-position.latest.words) (latest_at c.pass.new.latest.words) there (omega arith) c.in_ok-pass.ensures c.loop-position.invariant.latest;
      many = omega (arith, c.in_ok-push.ensures.len, c.loop-position.invariant.many);
      each = subst (EachGiven order) (sym c.in_ok-push.ensures.items) (given_more order c.loop-position.sources.items c.ranks_found.result p _ c.loop-position.invariant.each c.loop-position.invariant.many there (λ r. ranks_given order p _ (latest_at c.loop-position.latest.words) c.args.own.now _ c.ranks_found.result c.requires.distinct there small c.loop-position.invariant.latest c.requires.own mine (c.ranks_found.ensures.ranks r)));
      looks = walked order p _ c.args.ticks.now _ _ c.loop-position-test.true c.loop-position.invariant.looks looks;
    }

pub returns-in_err-push-clause-looks : goal.returns-in_err-push-clause-looks
returns-in_err-push-clause-looks g c =
    let order = c.args.order.now in
    let p = c.loop-position.position in
    let there = slice_get-get_or order p _ c.loop-position-test.true in
    let small = Each-get (λ (a : Operation). a.size ≤ 4) order p _ c.loop-position-test.true c.requires.small in
    let mine = slice_get-get_or c.args.own.now p _ (omega (arith, c.loop-position-test.true, c.requires.own.many)) in
    let looks = c.ranks_found.ensures.looks (stores_at order) (bytes_few order c.args.own.now p _ _ (latest_at c.loop-position.latest.words) small there mine c.requires.own c.loop-position.invariant.latest) in
    walked_all order p _ c.args.ticks.now _ _ c.loop-position-test.true c.loop-position.invariant.looks looks

pub returns-in_err-pass-clause-looks : goal.returns-in_err-pass-clause-looks
returns-in_err-pass-clause-looks g c =
    let order = c.args.order.now in
    let p = c.loop-position.position in
    let there = slice_get-get_or order p _ c.loop-position-test.true in
    let small = Each-get (λ (a : Operation). a.size ≤ 4) order p _ c.loop-position-test.true c.requires.small in
    let mine = slice_get-get_or c.args.own.now p _ (omega (arith, c.loop-position-test.true, c.requires.own.many)) in
    let looks = c.ranks_found.ensures.looks (stores_at order) (bytes_few order c.args.own.now p _ _ (latest_at c.loop-position.latest.words) small there mine c.requires.own c.loop-position.invariant.latest) in
    walked_all order p _ c.args.ticks.now _ _ c.loop-position-test.true c.loop-position.invariant.looks looks

pub returns-clause-sources : goal.returns-clause-sources
returns-clause-sources g c = record { many = omega (arith, c.loop-position.invariant.many, c.loop-position.auto.position-end, c.loop-position-test.false); each = c.loop-position.invariant.each }

pub returns-clause-looks : goal.returns-clause-looks
returns-clause-looks g c = let all = sum_by-take-le (stores_read c.args.order.now) c.args.order.now c.loop-position.position in omega (arith, c.loop-position.invariant.looks, all)
