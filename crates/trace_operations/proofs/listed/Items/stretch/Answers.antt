use Rattle.std.proofs.Common.{◌≡◌, ◌-◌, ◌∙◌, ap, drop, length, min, sym, take}
use Rattle.trace_operations.specs.Listed.{listed}
use Rattle.trace_operations.proofs.Listing.{length-listed, part_listed}
use Rattle.trace_operations.proofs.listed.Items.stretch.Goals as goal

pub returns-clause-cut : goal.returns-clause-cut
returns-clause-cut c =
    let ops = c.self.inside.operations.items in
    let slots = c.self.inside.slots.items in
    let long : length c.args.self.now ≡ length slots = sym (ap length c.self.view_is) ∙ length-listed 0 ops slots in
    let first : c.min-first.result ≡ min c.args.from (length slots) = c.min-first.ensures ∙ ap (min c.args.from) (c.count.ensures.count ∙ long) in
    let part : c.first_of.result.now ≡ take (c.args.to - c.args.from) (drop c.args.from slots) = c.first_of.ensures ∙ (ap (λ n. take n c.behind.result.now) c.saturating_sub-length.ensures ∙ ap (take (c.args.to - c.args.from)) (c.behind.ensures ∙ ap (drop c.args.from) c.deref.ensures.value)) in
    ap (λ os. listed c.min-first.result os c.first_of.result.now) c.deref-2.ensures.value
    ∙ part_listed ops slots c.first_of.result.now c.min-first.result c.args.from (c.args.to - c.args.from) c.args.self.now c.self.view_is first part
