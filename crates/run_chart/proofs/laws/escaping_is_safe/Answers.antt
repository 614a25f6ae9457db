use Rattle.run_chart.proofs.Escaping.{plain_text}
use Rattle.run_chart.proofs.laws.escaping_is_safe.Goals as goal

pub returns : goal.returns
returns c = plain_text
