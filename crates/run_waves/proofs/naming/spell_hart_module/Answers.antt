use Rattle.std.proofs.Common.{codes}
use Rattle.std.specs.Prelude.{decimal}
use Rattle.run_waves.proofs.Joined.{joined}
use Rattle.run_waves.proofs.naming.spell_hart_module.Goals as goal

pub returns-clause-value : goal.returns-clause-value
returns-clause-value c = rw (c.text-2.ensures.value, c.decimal.ensures.value, c.text.ensures.value) (joined c.args.page.now (codes "$scope module hart") (decimal c.args.hart) (codes " $end\n"))
