use Rattle.window_hangs.proofs.Hanging.{endless_sets_hang}
use Rattle.window_hangs.proofs.laws.endless_sets_hang.Goals as goal

pub returns : goal.returns
returns c = endless_sets_hang
