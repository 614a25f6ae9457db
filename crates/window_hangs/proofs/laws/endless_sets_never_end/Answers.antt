use Rattle.window_hangs.proofs.Endless.{endless_sets_never_end}
use Rattle.window_hangs.proofs.laws.endless_sets_never_end.Goals as goal

pub returns : goal.returns
returns c = endless_sets_never_end
