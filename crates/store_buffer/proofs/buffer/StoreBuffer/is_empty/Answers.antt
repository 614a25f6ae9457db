use Rattle.std.proofs.Common.{ap, ◌∙◌}
use Rattle.store_buffer.specs.Groups.{is_empty}
use Rattle.store_buffer.proofs.Layouts.{is_empty-groups_in}
use Rattle.store_buffer.proofs.buffer.StoreBuffer.is_empty.Goals as goal

pub returns : goal.returns
returns c =
    let b = c.self.inside in
    c.is_empty.ensures ∙ is_empty-groups_in b.sealed.items b.entries.items c.self.invariant ∙ ap is_empty c.self.view_is
