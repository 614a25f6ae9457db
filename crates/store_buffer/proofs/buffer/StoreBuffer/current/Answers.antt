use Rattle.std.proofs.Common.{◌≡◌, drop, length, ap, ◌∙◌, arith}
use Rattle.std.specs.Prelude.{sum}
use Rattle.std.proofs.lemmas.List.{take_rest}
use Rattle.store_buffer.specs.Groups.{Groups}
use Rattle.store_buffer.proofs.buffer.StoreBuffer.current.Goals as goal

pub total-start-requires : goal.total-start-requires
total-start-requires c = omega (arith, ap sum c.deref.ensures.0)

pub slice_bounds-result-count : goal.slice_bounds-result-count
slice_bounds-result-count c = omega (arith, ap sum c.deref.ensures.0, ap length c.deref-2.ensures.0)

pub returns : goal.returns
returns c =
    let at : c.total-start.result ≡ sum c.self.inside.sealed.items = c.total-start.ensures ∙ ap sum c.deref.ensures.0 in
    let es = c.deref-2.ensures.0 in
    take_rest c.deref-2.result.now c.total-start.result ∙ (λ j. drop (at j) (es j)) ∙ ap (λ (g : Groups). g.current) c.self.view_is
