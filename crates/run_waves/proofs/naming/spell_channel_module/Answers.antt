use Rattle.std.proofs.Common.{codes, ◌∷◌, []}
use Rattle.run_waves.specs.Groups as groups
use Rattle.run_waves.proofs.Joined.{joined}
use Rattle.run_waves.proofs.naming.spell_channel_module.Goals as goal

pub returns-clause-value : goal.returns-clause-value
returns-clause-value c = rw (c.text-3.ensures.value, c.text-2.ensures.value, c.channel_letter.ensures, c.text.ensures.value) (joined c.args.page.now (codes "$scope module ") (groups.channel_letter c.args.channel ∷ []) (codes " $end\n"))
