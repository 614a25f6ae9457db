use Rattle.std.proofs.Common.{◌+◌, length, sym, ap, ◌∙◌}
use Rattle.store_buffer.specs.Groups.{Groups, groups_of}
use Rattle.store_buffer.proofs.Layouts.{length-groups_of}
use Rattle.store_buffer.proofs.buffer.StoreBuffer.group_count.Goals as goal

pub returns : goal.returns
returns c =
    let b = c.self.inside in
    ap (λ n. n + 1) c.len.ensures.value ∙ sym (length-groups_of b.sealed.items b.entries.items) ∙ ap (λ (g : Groups). length (groups_of g)) c.self.view_is
