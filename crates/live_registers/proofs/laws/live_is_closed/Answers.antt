use Rattle.live_registers.proofs.Closing.{live_is_closed}
use Rattle.live_registers.proofs.laws.live_is_closed.Goals as goal

pub returns : goal.returns
returns c = live_is_closed
