use Rattle.std.proofs.Common.{ap, sym, ◌∙◌, not}
use Rattle.store_buffer.specs.Groups.{has_sealed}
use Rattle.store_buffer.proofs.Layouts.{is_nil-sealed_in, no_length}
use Rattle.store_buffer.proofs.buffer.StoreBuffer.has_sealed.Goals as goal

pub returns : goal.returns
returns c =
    let b = c.self.inside in
    ap not (c.is_empty.ensures ∙ no_length b.sealed.items ∙ sym (is_nil-sealed_in b.sealed.items b.entries.items)) ∙ ap has_sealed c.self.view_is
