use Rattle.std.proofs.Common.{◌≡◌, arith, refl}
use Rattle.std.specs.Prelude.{slice_index_or}
use Rattle.rvwmo_order.specs.Sourcing.{latest_at}
use Rattle.rvwmo_order.proofs.LastStores.{come_next, gap_come, gap_own, hart_come, own_next, own_none}
use Rattle.rvwmo_order.proofs.sourcing.note_hart.Goals as goal
use Rattle.rvwmo_order.proofs.sourcing.note_hart.Goals.{then-rank-gt0+in_ok-note_one, else-rank-gt0}

pub loop-place-init : goal.loop-place-init
loop-place-init c = record { latest = own_none c.args.order.now c.args.hart (latest_at c.none-latest.result.words) c.none-latest.ensures; gives = c.requires.before }

pub loop-place-preserved : goal.loop-place-preserved
loop-place-preserved c =
    let order = c.args.order.now in
    let list = c.args.list.now in
    let place = c.loop-place.place in
    elim c.if-rank-gt0.branch [
      | then-rank-gt0+in_ok-note_one w ↦ rw (w.latest-is, w.own-is) (record {
        latest = own_next order c.args.hart place _ list (latest_at c.loop-place.latest.words) (latest_at w.note_one.new.latest.words) c.requires.numbers refl w.if-rank-gt0.true w.in_ok-note_one.ensures.kept c.loop-place.invariant.latest;
        gives = come_next order c.loop-place.own w.note_one.new.own c.args.hart place _ list (latest_at c.loop-place.latest.words) c.requires.numbers refl w.if-rank-gt0.true w.in_ok-note_one.ensures.many w.in_ok-note_one.ensures.own w.in_ok-note_one.ensures.others c.loop-place.invariant.latest c.loop-place.invariant.gives;
      })
      | else-rank-gt0 w ↦ (let none : slice_index_or list place 0 ≡ 0 = omega (arith, w.if-rank-gt0.false) in rw (w.latest-is, w.own-is) (record {
        latest = gap_own order c.args.hart place list (latest_at c.loop-place.latest.words) c.requires.numbers none c.loop-place.invariant.latest;
        gives = gap_come order c.loop-place.own c.args.hart place list c.requires.numbers none c.loop-place.invariant.gives;
      }))
    ]

pub returns : goal.returns
returns c = hart_come c.args.order.now _ c.args.hart c.loop-place.place c.args.list.now c.requires.numbers c.loop-place-test.false c.loop-place.invariant.gives
