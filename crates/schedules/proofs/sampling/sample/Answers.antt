use Rattle.std.proofs.Common.{◌∙◌, ap}
use Rattle.machine_model.specs.Views.{opening}
use Rattle.schedules.specs.Schedules.{Played, start_of}
use Rattle.schedules.proofs.Played.{each_moves, each_real, each_replays}
use Rattle.std.proofs.lemmas.Result.{IfOk-from_err}
use Rattle.schedules.proofs.sampling.sample.Goals as goal

pub returns-clause-real : goal.returns-clause-real
returns-clause-real c =
    each_real (opening c.args.image c.args.config) (start_of c.play_at_random.new.self) c.into_schedule.result (c.play_at_random.ensures.start ∙ ap (λ (p : Played). start_of p) c.in_ok-player.ensures.ok) c.into_schedule.ensures.leads

pub returns-clause-replays : goal.returns-clause-replays
returns-clause-replays c =
    each_replays (opening c.args.image c.args.config) (start_of c.play_at_random.new.self) c.into_schedule.result (c.play_at_random.ensures.start ∙ ap (λ (p : Played). start_of p) c.in_ok-player.ensures.ok) c.into_schedule.ensures.leads c.into_schedule.ensures.replays

pub returns-clause-moves : goal.returns-clause-moves
returns-clause-moves c =
    each_moves (opening c.args.image c.args.config) (start_of c.play_at_random.new.self) c.into_schedule.result (c.play_at_random.ensures.start ∙ ap (λ (p : Played). start_of p) c.in_ok-player.ensures.ok) c.into_schedule.ensures.moves

pub returns-in_err-player : goal.returns-in_err-player
returns-in_err-player c = record {
  real = IfOk-from_err c.from_residual.result _ c.from_residual.ensures.0;
  replays = IfOk-from_err c.from_residual.result _ c.from_residual.ensures.0;
  moves = IfOk-from_err c.from_residual.result _ c.from_residual.ensures.0;
  results = IfOk-from_err c.from_residual.result _ c.from_residual.ensures.0;
  within = IfOk-from_err c.from_residual.result _ c.from_residual.ensures.0;
}
