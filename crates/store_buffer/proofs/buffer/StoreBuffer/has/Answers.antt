use Rattle.std.proofs.Common.{ap, sym, ◌∙◌}
use Rattle.store_buffer.specs.Entry.{has_word}
use Rattle.store_buffer.specs.Groups.{has}
use Rattle.store_buffer.proofs.Layouts.{any_has_word-groups_in}
use Rattle.store_buffer.proofs.buffer.StoreBuffer.has.Goals as goal

pub returns : goal.returns
returns c =
    let b = c.self.inside in
    c.has_word.ensures ∙ ap (has_word c.args.word) c.deref.ensures.0
    ∙ sym (any_has_word-groups_in c.args.word b.sealed.items b.entries.items) ∙ ap (has c.args.word) c.self.view_is
