use Rattle.run_chart.proofs.Fitted.{length-fitted}
use Rattle.run_chart.proofs.laws.fitted_texts_fit.Goals as goal

pub returns : goal.returns
returns c = length-fitted
