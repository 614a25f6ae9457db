use Rattle.std.proofs.Common.{◌≡◌, ◌+◌, ◌∙◌, Some, ap, arith, length, sym}
use Rattle.std.proofs.lemmas.Option.{slice_get-get_or}
use Rattle.trace_operations.specs.Listed.{item_kept}
use Rattle.trace_operations.proofs.Listing.{kept_there, length-listed}
use Rattle.trace_operations.proofs.listed.Items.item.Goals as goal

pub index-requires : goal.index-requires
index-requires c =
    let long = length-listed 0 c.self.inside.operations.items c.self.inside.slots.items in
    let seen = ap length c.self.view_is in
    omega (arith, long, seen, c.requires, c.self.inside.slots.ok.0)

pub returns : goal.returns
returns c =
    let at : c.args.place ≡ 0 + c.args.place = omega arith in
    let long = length-listed 0 c.self.inside.operations.items c.self.inside.slots.items in
    let seen = ap length c.self.view_is in
    kept_there 0 c.args.place c.self.inside.operations.items c.self.inside.slots.items c.index.result.now c.args.self.now c.item_of.result c.self.view_is
    (slice_get-get_or c.self.inside.slots.items c.args.place c.index.result.now (omega (arith, long, seen, c.requires)) ∙ ap Some (sym c.index.ensures))
    (c.item_of.ensures ∙ (ap (λ ops. item_kept ops c.args.place c.index.result.now) c.deref.ensures.value ∙ ap (λ n. item_kept c.self.inside.operations.items n c.index.result.now) at))
