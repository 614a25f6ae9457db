use Rattle.std.proofs.Common.{◌∙◌, ap, arith, subst, sym}
use Rattle.std.proofs.lemmas.Option.{slice_get_within}
use Rattle.memory_model.specs.Order.{source}
use Rattle.rvwmo_order.specs.Ranks.{HasRank}
use Rattle.rvwmo_order.specs.Touched.{but, touch_in}
use Rattle.rvwmo_order.proofs.Kept.{byte_ranked}
use Rattle.rvwmo_order.proofs.Ranks.{rank_known}
use Rattle.rvwmo_order.proofs.RankedRows.{atomics_next, loads_next, passed_next}
use Rattle.rvwmo_order.proofs.bounds.walking.Walk.sourced.Goals as goal

pub ranks_at-ranks-requires : goal.ranks_at-ranks-requires
ranks_at-ranks-requires c = slice_get_within c.args.ranking.now c.args.position c.args.b.now c.requires.there

pub loop-x-preserved : goal.loop-x-preserved
loop-x-preserved c =
    let order = c.args.ranking.now in
    let b = c.args.b.now in
    let rank = c.rank_at-source.result in
    let given = c.ranks_at-ranks.ensures b c.requires.there (sym c.reads.ensures ∙ c.if-not-reads.false) in
    let has : HasRank order (source order b c.loop-x.x) rank = subst (HasRank order (source order b c.loop-x.x)) (sym c.rank_at-source.ensures) (byte_ranked order b c.ranks_at-ranks.result c.loop-x.x given (omega arith) (omega (arith, c.end_of-x-end.ensures))) in
    let known = rank_known order (source order b c.loop-x.x) rank has c.requires.distinct in
    let touch = ap (but rank) c.touch_near-touch.ensures in
    record {
      loads = loads_next order b (touch_in c.args.self.now.touches) b.address c.loop-x.x rank c.loop-x.most.loads _ known (omega arith) (omega (arith, touch)) c.loop-x.invariant.loads;
      atomics = atomics_next order c.args.weights.now b c.loop-x.x rank c.loop-x.most.atomics c.atomic_source.result _ c.requires.distinct has c.atomic_source.ensures (omega arith) (omega arith) c.loop-x.invariant.atomics;
      passed_on = passed_next order c.args.rows.now b c.loop-x.x rank c.loop-x.most.passed_on c.dependent_store.result _ c.requires.distinct has c.dependent_store.ensures (omega arith) (omega arith) c.loop-x.invariant.passed_on;
    }
