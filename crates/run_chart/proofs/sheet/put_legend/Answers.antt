use Rattle.run_chart.proofs.Appending.{three_append}
use Rattle.run_chart.proofs.sheet.put_legend.Goals as goal

pub returns : goal.returns
returns c = three_append c.put_answers.result _ _ _ _ _ _ _ c.in_ok-put_permissions.ensures c.in_ok-put_questions.ensures c.put_answers.ensures
