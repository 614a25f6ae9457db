use Rattle.std.proofs.Common.{◌∙◌, ap}
use Rattle.machine_model.specs.Views.{opening}
use Rattle.schedules.specs.Schedules.{start_of, Played}
use Rattle.schedules.proofs.Played.{moves_at, real_at, replays_at}
use Rattle.std.proofs.lemmas.Result.{IfOk-from_err}
use Rattle.schedules.proofs.realising.realise.Goals as goal

pub returns-clause-real : goal.returns-clause-real
returns-clause-real c =
    let schedule = c.in_ok-into_schedule in
    real_at (opening c.args.image c.args.config) (start_of c.bring_all_about.new.self) schedule.field-0.machine schedule.field-0.events.items (c.bring_all_about.ensures.start ∙ ap (λ (p : Played). start_of p) c.in_ok-player.ensures.ok) schedule.ensures.leads

pub returns-clause-replays : goal.returns-clause-replays
returns-clause-replays c =
    let schedule = c.in_ok-into_schedule in
    replays_at (opening c.args.image c.args.config) (start_of c.bring_all_about.new.self) schedule.field-0.machine schedule.field-0.events.items (c.bring_all_about.ensures.start ∙ ap (λ (p : Played). start_of p) c.in_ok-player.ensures.ok) schedule.ensures.leads schedule.ensures.replays

pub returns-clause-moves : goal.returns-clause-moves
returns-clause-moves c =
    let schedule = c.in_ok-into_schedule in
    moves_at (opening c.args.image c.args.config) (start_of c.bring_all_about.new.self) schedule.field-0.events.items (c.bring_all_about.ensures.start ∙ ap (λ (p : Played). start_of p) c.in_ok-player.ensures.ok) schedule.ensures.moves

pub returns-in_err-player-clause-real : goal.returns-in_err-player-clause-real
returns-in_err-player-clause-real c = IfOk-from_err c.from_residual.result _ c.from_residual.ensures.0

pub returns-in_err-player-clause-replays : goal.returns-in_err-player-clause-replays
returns-in_err-player-clause-replays c = IfOk-from_err c.from_residual.result _ c.from_residual.ensures.0

pub returns-in_err-player-clause-moves : goal.returns-in_err-player-clause-moves
returns-in_err-player-clause-moves c = IfOk-from_err c.from_residual.result _ c.from_residual.ensures.0

pub returns-in_err-player-clause-results : goal.returns-in_err-player-clause-results
returns-in_err-player-clause-results c = IfOk-from_err c.from_residual.result _ c.from_residual.ensures.0

pub returns-in_err-bring_all_about-clause-real : goal.returns-in_err-bring_all_about-clause-real
returns-in_err-bring_all_about-clause-real c = IfOk-from_err c.from_residual-in_err-bring_all_about.result _ c.from_residual-in_err-bring_all_about.ensures.0

pub returns-in_err-bring_all_about-clause-replays : goal.returns-in_err-bring_all_about-clause-replays
returns-in_err-bring_all_about-clause-replays c = IfOk-from_err c.from_residual-in_err-bring_all_about.result _ c.from_residual-in_err-bring_all_about.ensures.0

pub returns-in_err-bring_all_about-clause-moves : goal.returns-in_err-bring_all_about-clause-moves
returns-in_err-bring_all_about-clause-moves c = IfOk-from_err c.from_residual-in_err-bring_all_about.result _ c.from_residual-in_err-bring_all_about.ensures.0

pub returns-in_err-bring_all_about-clause-results : goal.returns-in_err-bring_all_about-clause-results
returns-in_err-bring_all_about-clause-results c = IfOk-from_err c.from_residual-in_err-bring_all_about.result _ c.from_residual-in_err-bring_all_about.ensures.0

pub returns-in_err-into_schedule-clause-real : goal.returns-in_err-into_schedule-clause-real
returns-in_err-into_schedule-clause-real c = IfOk-from_err c.from_residual-in_err-into_schedule.result _ c.from_residual-in_err-into_schedule.ensures.0

pub returns-in_err-into_schedule-clause-replays : goal.returns-in_err-into_schedule-clause-replays
returns-in_err-into_schedule-clause-replays c = IfOk-from_err c.from_residual-in_err-into_schedule.result _ c.from_residual-in_err-into_schedule.ensures.0

pub returns-in_err-into_schedule-clause-moves : goal.returns-in_err-into_schedule-clause-moves
returns-in_err-into_schedule-clause-moves c = IfOk-from_err c.from_residual-in_err-into_schedule.result _ c.from_residual-in_err-into_schedule.ensures.0

pub returns-in_err-into_schedule-clause-results : goal.returns-in_err-into_schedule-clause-results
returns-in_err-into_schedule-clause-results c = IfOk-from_err c.from_residual-in_err-into_schedule.result _ c.from_residual-in_err-into_schedule.ensures.0
