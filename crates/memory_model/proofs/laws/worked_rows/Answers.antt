use Rattle.memory_model.proofs.WorkedRows.{rows}
use Rattle.memory_model.proofs.laws.worked_rows.Goals as goal

pub returns : goal.returns
returns c = rows
