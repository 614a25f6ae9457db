use Rattle.event_stream.proofs.disassembly.Disassembly.spell.Goals as goal

pub returns-clause-value : goal.returns-clause-value
returns-clause-value c = c.spell_comment.ensures.value
