use Rattle.host_threads.proofs.Reported.{told}
use Rattle.host_threads.proofs.running.run_with.Goals as goal

pub returns-clause-report : goal.returns-clause-report
returns-clause-report g c =
    told _ c.args.image c.args.config c.in_ok-common.common.config c.args.limit c.in_ok-common.common.limit c.run_counted.result c.in_ok-common.ensures.config c.in_ok-common.ensures.limit (λ left run. run.report) c.run_counted.ensures.run

pub returns-clause-moves : goal.returns-clause-moves
returns-clause-moves g c =
    told _ c.args.image c.args.config c.in_ok-common.common.config c.args.limit c.in_ok-common.common.limit c.run_counted.result c.in_ok-common.ensures.config c.in_ok-common.ensures.limit (λ left run. run.moves) c.run_counted.ensures.run

pub returns-clause-replays : goal.returns-clause-replays
returns-clause-replays g c =
    told _ c.args.image c.args.config c.in_ok-common.common.config c.args.limit c.in_ok-common.common.limit c.run_counted.result c.in_ok-common.ensures.config c.in_ok-common.ensures.limit (λ left run. run.replays) c.run_counted.ensures.run

pub returns-clause-reached : goal.returns-clause-reached
returns-clause-reached g c =
    told _ c.args.image c.args.config c.in_ok-common.common.config c.args.limit c.in_ok-common.common.limit c.run_counted.result c.in_ok-common.ensures.config c.in_ok-common.ensures.limit (λ left run. run.reached) c.run_counted.ensures.run

pub returns-clause-headline : goal.returns-clause-headline
returns-clause-headline g c =
    told _ c.args.image c.args.config c.in_ok-common.common.config c.args.limit c.in_ok-common.common.limit c.run_counted.result c.in_ok-common.ensures.config c.in_ok-common.ensures.limit (λ left run. run.headline) c.run_counted.ensures.run

pub returns-clause-log : goal.returns-clause-log
returns-clause-log g c =
    told _ c.args.image c.args.config c.in_ok-common.common.config c.args.limit c.in_ok-common.common.limit c.run_counted.result c.in_ok-common.ensures.config c.in_ok-common.ensures.limit (λ left run. run.log) c.run_counted.ensures.run

pub returns-clause-limit : goal.returns-clause-limit
returns-clause-limit g c =
    told _ c.args.image c.args.config c.in_ok-common.common.config c.args.limit c.in_ok-common.common.limit c.run_counted.result c.in_ok-common.ensures.config c.in_ok-common.ensures.limit (λ left run. run.limit) c.run_counted.ensures.run
