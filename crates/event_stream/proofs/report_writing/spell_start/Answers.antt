use Rattle.std.proofs.Common.{sym}
use Rattle.event_stream.proofs.EventLines.{kept_is, kept_start}
use Rattle.event_stream.proofs.report_writing.spell_start.Goals as goal

pub returns-in-Some-clause-instruction : goal.returns-in-Some-clause-instruction
returns-in-Some-clause-instruction c = sym (kept_is c.args.names.now c.args.entry.now.pc c.args.entry.now.word _ (c.in-Some.ensures.text c.args.names.now c.requires.kept))

pub returns-in-Some-clause-value : goal.returns-in-Some-clause-value
returns-in-Some-clause-value c =
    rw (c.text-in-Some.ensures.value, c.spell_retired.ensures.value)
    (kept_start c.args.page.now _ c.args.names.now c.args.hart c.args.entry.now (c.in-Some.ensures.text c.args.names.now c.requires.kept))
