use Rattle.trace_text.proofs.TraceWriting.{logged_spelled}
use Rattle.trace_text.proofs.trace_writing.spell_logged.Goals as goal

pub returns : goal.returns
returns c =
    rw (c.text-2.ensures.value, c.spell_data.ensures.value, c.spell_permissions.ensures.value, c.word.ensures.value, c.spell_name.ensures.value, c.number.ensures.value, c.spell_channel.ensures.value, c.channel.ensures, c.spell_direction.ensures.value, c.text.ensures.value)
    (logged_spelled c.args.entry.now c.args.page.now)
