use Rattle.window_hangs.proofs.Seen.{runs_are_seen}
use Rattle.window_hangs.proofs.laws.runs_are_seen.Goals as goal

pub returns : goal.returns
returns c = runs_are_seen
