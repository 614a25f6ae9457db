use Rattle.std.proofs.Common.{codes}
use Rattle.text_fields.specs.Fields.{word}
use Rattle.run_waves.proofs.Joined.{joined}
use Rattle.run_waves.proofs.naming.spell_line_module.Goals as goal

pub returns-clause-value : goal.returns-clause-value
returns-clause-value c = rw (c.text-2.ensures.value, c.word.ensures.value, c.text.ensures.value) (joined c.args.page.now (codes "$scope module line_") (word c.args.line) (codes " $end\n"))
