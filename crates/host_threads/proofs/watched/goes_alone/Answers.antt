use Rattle.std.proofs.Common.{◌∙◌, ap, sym}
use Rattle.host_threads.proofs.Alone.{goes_alone_where}
use Rattle.host_threads.specs.Picking.{is_private}
use Rattle.host_threads.proofs.watched.goes_alone.Goals as goal

pub returns-then-is_running : goal.returns-then-is_running
returns-then-is_running c = c.is_private.ensures ∙ (ap is_private c.next_action.ensures ∙ goes_alone_where c.args.image.now c.args.hart.now (sym c.is_running.ensures ∙ c.if-is_running.true))
