use Rattle.window_machine.proofs.Circling.{circles_never_end}
use Rattle.window_machine.proofs.circle_laws.circles_never_end.Goals as goal

pub returns : goal.returns
returns c = circles_never_end
