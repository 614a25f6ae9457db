use Rattle.std.proofs.Common.{[], ◌∷◌, append_assoc}
use Rattle.event_stream.specs.Closing.{next_text}
use Rattle.event_stream.proofs.closing.spell_next.Goals as goal

pub returns : goal.returns
returns c =
    rw (c.text.ensures.value, c.spell_disassembled.ensures.value, c.instr_at.ensures, c.image.ensures, c.trace.ensures, c.hart.ensures, c.views.ensures)
    (append_assoc c.args.page.now (next_text c.args.names.now c.args.machine.now c.args.hart) (10 ∷ []))
