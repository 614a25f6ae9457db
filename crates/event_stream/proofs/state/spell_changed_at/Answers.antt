use Rattle.std.proofs.Common.{refl}
use Rattle.event_stream.proofs.state.spell_changed_at.Goals as goal

pub returns : goal.returns
returns c =
    rw (c.spell_changed.ensures, c.line_address.ensures, c.piece-reset.ensures, c.line-bytes.ensures, c.memory.ensures, c.views.ensures, c.size_of-size.ensures, c.bytes.ensures.exact, c.image.ensures, c.trace.ensures) refl
