use Rattle.run_chart.proofs.Appending.{four_append}
use Rattle.run_chart.proofs.sheet.put_permissions.Goals as goal

pub returns : goal.returns
returns c = four_append c.put_key-4.result _ _ _ _ _ _ _ _ _ c.in_ok-put_key.ensures c.in_ok-put_key-2.ensures c.in_ok-put_key-3.ensures c.put_key-4.ensures
