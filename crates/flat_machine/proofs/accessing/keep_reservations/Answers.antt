use Rattle.std.proofs.Common.{◌+◌, ℕ, List, ap, ◌∙◌, arith}
use Rattle.std.specs.Prelude.{slice_index_or, slice_set}
use Rattle.flat_model.specs.Flat.{FlatNode}
use Rattle.flat_machine.proofs.Reservations.{all_done, one_more, touched}
use Rattle.flat_machine.proofs.accessing.keep_reservations.Goals as goal

pub loop-place-preserved : goal.loop-place-preserved
loop-place-preserved c =
    let config = c.args.config.now in
    let a = c.args.address in
    let k = c.loop-place.place in
    let old = c.args.nodes.now.items in
    let now = c.loop-place.nodes.items in
    let d = c.index_mut.result.now in
    let less = c.loop-place-test.true in
    let count = c.len-place-end.ensures in
    ap (slice_set now k) (c.keep_reservation.ensures ∙ (ap (λ (h : ℕ). touched config h a k d) c.from.ensures ∙ ap (touched config c.args.hart a k) c.index_mut.ensures.value))
    ∙ (ap (λ (ns : List FlatNode). slice_set ns k (touched config c.args.hart a k (slice_index_or ns k d))) c.loop-place.invariant
    ∙ one_more config c.args.hart a 0 old k (k + 1) k d (omega (arith, less, count)) (omega arith) (omega arith))

pub returns : goal.returns
returns c =
    let most = c.loop-place-test.false in
    let least = c.loop-place.auto.place-end in
    let count = c.len-place-end.ensures in
    c.loop-place.invariant ∙ all_done c.args.config.now c.args.hart c.args.address 0 c.args.nodes.now.items c.loop-place.place (omega (arith, most, least, count))
