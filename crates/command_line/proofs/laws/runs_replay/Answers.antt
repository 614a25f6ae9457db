use Rattle.command_line.proofs.Again.{runs_replay}
use Rattle.command_line.proofs.laws.runs_replay.Goals as goal

pub returns : goal.returns
returns c = runs_replay
