use Rattle.assembly_reading.proofs.ReadBack.{read_back}
use Rattle.assembly_reading.proofs.laws.spelling_reads_back.Goals as goal

pub returns : goal.returns
returns c = read_back
