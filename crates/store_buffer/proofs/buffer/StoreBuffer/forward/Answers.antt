use Rattle.std.proofs.Common.{ap, ◌∙◌}
use Rattle.store_buffer.specs.Groups.{forwarded}
use Rattle.store_buffer.specs.Layout.{overlaid}
use Rattle.store_buffer.proofs.Overlaid.{overlaid-groups_in}
use Rattle.store_buffer.proofs.buffer.StoreBuffer.forward.Goals as goal

pub returns : goal.returns
returns c =
    let b = c.self.inside in
    c.overlaid.ensures ∙ ap (overlaid c.args.word) c.deref.ensures.0 ∙ overlaid-groups_in c.args.word b.sealed.items b.entries.items c.self.invariant
    ∙ ap (forwarded c.args.word) c.self.view_is
