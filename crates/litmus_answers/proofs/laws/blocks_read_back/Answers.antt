use Rattle.litmus_answers.proofs.ReadBack.{read_back}
use Rattle.litmus_answers.proofs.laws.blocks_read_back.Goals as goal

pub returns : goal.returns
returns c = read_back
