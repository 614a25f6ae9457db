use Rattle.check_command.proofs.watch.Watch.goes_on_with_breach.Goals as goal

pub returns : goal.returns
returns c = record { first = c.in_ok-found.ensures.first; second = c.in_ok-found.ensures.second }
