use Rattle.std.proofs.Common.{◌≡◌, ◌∙◌, Some, ap, arith, length, sym}
use Rattle.std.specs.Prelude.{slice_get}
use Rattle.std.proofs.lemmas.Option.{slice_get-get_or}
use Rattle.trace_operations.specs.Listed.{standing_at}
use Rattle.trace_operations.proofs.Listing.{none_there, operation_there}
use Rattle.trace_operations.proofs.listed.Items.operation.Goals as goal

pub returns-in-Some : goal.returns-in-Some
returns-in-Some c =
    let there : slice_get c.self.inside.slots.items c.args.place ≡ Some c.in-Some.slot.now = ap (λ xs. slice_get xs c.args.place) (sym c.deref.ensures.value) ∙ (slice_get-get_or c.deref.result.now c.args.place c.in-Some.slot.now c.in-Some.ensures.lookup.3.0 ∙ ap Some (sym c.in-Some.ensures.lookup.1)) in
    operation_there c.args.place c.self.inside.operations.items c.self.inside.slots.items c.in-Some.slot.now c.args.self.now c.operation_of.result c.self.view_is there (c.operation_of.ensures ∙ ap (λ ops. standing_at c.args.place (slice_get ops c.in-Some.slot.now.before)) c.deref-in-Some.ensures.value)

pub returns-in-None : goal.returns-in-None
returns-in-None c = none_there c.args.place c.self.inside.operations.items c.self.inside.slots.items c.args.self.now c.self.view_is (let same = ap length c.deref.ensures.value in let past = c.in-None.ensures.lookup.3 in omega (arith, same, past))
