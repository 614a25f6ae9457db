use Rattle.run_chart.proofs.Written.{twice}
use Rattle.run_chart.proofs.texts.spell_title.Goals as goal

pub returns : goal.returns
returns c = twice _ _ _ _ _ c.text.ensures.value c.decimal.ensures.value
