use Rattle.std.proofs.Common.{option_map}
use Rattle.explore_command.proofs.Searched as searched
use Rattle.explore_command.proofs.architecture.searching.found_under.Goals as goal

pub returns-clause-found : goal.returns-clause-found
returns-clause-found g c =
    let is = c.explore_architecture-found.ensures in
    searched.found_under c.args.image.now c.args.config c.args.addresses.now c.args.window c.args.wanted.states c.explore_architecture-found.result is.shown is.machine is.alone is.allowed is.failing is.stopped is.stopped_once is.stopped_machine is.stopped_alone is.opens is.bounded is.limited is.met is.order is.within is.full is.model is.visited is.window

pub returns-clause-ends : goal.returns-clause-ends
returns-clause-ends g c =
    let seek = c.in_ok-seek.seek.first in
    searched.ends_under c.args.wanted.first seek.is_asked c.args.wanted.seconds seek.seconds c.args.names.now seek.names.now (option_map (λ bytes. bytes.items) c.args.allowed.now) seek.allowed c.in_ok-seek.ensures.asked c.in_ok-seek.ensures.seconds c.in_ok-seek.ensures.names c.in_ok-seek.ensures.refuses
    c.explore_architecture-found.result c.explore_architecture-found.ensures.first c.explore_architecture-found.ensures.timed
