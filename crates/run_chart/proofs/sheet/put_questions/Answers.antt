use Rattle.run_chart.proofs.Appending.{three_append}
use Rattle.run_chart.proofs.sheet.put_questions.Goals as goal

pub returns : goal.returns
returns c = three_append c.put_key-3.result _ _ _ _ _ _ _ c.in_ok-put_key.ensures c.in_ok-put_key-2.ensures c.put_key-3.ensures
