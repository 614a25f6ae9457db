use Rattle.std.proofs.Common.{rules, ◌≡◌, subst}
use Rattle.machine_model.specs.Views.{State}
use Rattle.coherent_machine.specs.Machine.{Replayed, replayed_from}
use Rattle.coherent_machine.proofs.Reached.{headline_from}
use Rattle.coherent_machine.proofs.machine.replay.Goals as goal

pub returns-in-Ok-clause-headline : goal.returns-in-Ok-clause-headline
returns-in-Ok-clause-headline c =
    headline_from c.image_and_config_stay.ensures c.args.image c.args.config c.args.events.now c.apply_all.new.machine
    (subst (λ (s : State). replayed_from 0 s c.args.events.now ≡ Replayed.Reached c.apply_all.new.machine) c.in_ok-machine.ensures.ok c.in-Ok.ensures.ok)
    c.in-Ok.ensures.headline

pub returns-in_err-machine-clause-ok : goal.returns-in_err-machine-clause-ok
returns-in_err-machine-clause-ok c = search rules

pub returns-in_err-machine-clause-refused : goal.returns-in_err-machine-clause-refused
returns-in_err-machine-clause-refused c = search rules

pub returns-in_err-machine-clause-reached : goal.returns-in_err-machine-clause-reached
returns-in_err-machine-clause-reached c = search rules

pub returns-in_err-machine-clause-headline : goal.returns-in_err-machine-clause-headline
returns-in_err-machine-clause-headline c = search rules

pub returns-in_err-machine-clause-log : goal.returns-in_err-machine-clause-log
returns-in_err-machine-clause-log c = search rules

pub returns-in-Ok-clause-ok : goal.returns-in-Ok-clause-ok
returns-in-Ok-clause-ok c = search rules

pub returns-in-Ok-clause-refused : goal.returns-in-Ok-clause-refused
returns-in-Ok-clause-refused c = search rules

pub returns-in-Ok-clause-reached : goal.returns-in-Ok-clause-reached
returns-in-Ok-clause-reached c = search rules

pub returns-in-Ok-clause-log : goal.returns-in-Ok-clause-log
returns-in-Ok-clause-log c = search rules

pub returns-in-Err-clause-ok : goal.returns-in-Err-clause-ok
returns-in-Err-clause-ok c = search rules

pub returns-in-Err-clause-refused : goal.returns-in-Err-clause-refused
returns-in-Err-clause-refused c = search rules

pub returns-in-Err-clause-reached : goal.returns-in-Err-clause-reached
returns-in-Err-clause-reached c = search rules

pub returns-in-Err-clause-headline : goal.returns-in-Err-clause-headline
returns-in-Err-clause-headline c = search rules

pub returns-in-Err-clause-log : goal.returns-in-Err-clause-log
returns-in-Err-clause-log c = search rules

pub apply_all-requires-clause-reached : goal.apply_all-requires-clause-reached
apply_all-requires-clause-reached c = search rules

pub apply_all-requires-clause-headline : goal.apply_all-requires-clause-headline
apply_all-requires-clause-headline c = search rules

pub apply_all-requires-clause-log : goal.apply_all-requires-clause-log
apply_all-requires-clause-log c = search rules
