use Rattle.window_machine.proofs.Circling.{circles_place_nothing}
use Rattle.window_machine.proofs.circle_laws.circles_place_nothing.Goals as goal

pub returns : goal.returns
returns c = circles_place_nothing
