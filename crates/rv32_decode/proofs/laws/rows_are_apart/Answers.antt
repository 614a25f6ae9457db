use Rattle.rv32_decode.proofs.Apart.{rows_are_apart}
use Rattle.rv32_decode.proofs.laws.rows_are_apart.Goals as goal

pub returns : goal.returns
returns c = rows_are_apart
