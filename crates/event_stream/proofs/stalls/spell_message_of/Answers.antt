use Rattle.std.proofs.Common.{append_assoc}
use Rattle.std.specs.Prelude.{decimal}
use Rattle.event_stream.proofs.stalls.spell_message_of.Goals as goal

pub returns : goal.returns
returns c =
    rw (c.decimal.ensures.value, c.text.ensures.value)
    (append_assoc c.args.page.now c.args.message.now (decimal c.args.hart))
