use Rattle.std.proofs.lemmas.Result.{IfOk-from_err}
use Rattle.schedules.proofs.player.Player.into_schedule.Goals as goal

pub returns-in_err-results : goal.returns-in_err-results
returns-in_err-results c = record {
  leads = IfOk-from_err c.from_residual.result _ c.from_residual.ensures.0;
  replays = IfOk-from_err c.from_residual.result _ c.from_residual.ensures.0;
  moves = IfOk-from_err c.from_residual.result _ c.from_residual.ensures.0;
  results = IfOk-from_err c.from_residual.result _ c.from_residual.ensures.0;
  events = IfOk-from_err c.from_residual.result _ c.from_residual.ensures.0;
}
