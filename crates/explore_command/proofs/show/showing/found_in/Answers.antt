use Rattle.std.proofs.Common.{◌∙◌, IfOk, List, option_map, subst, ℕ}
use Rattle.explore_command.proofs.Explored as explored
use Rattle.explore_command.proofs.Sought.{ends_by}
use Rattle.explore_command.specs.Exploring.{IsFoundIn}
use Rattle.explore_command.specs.Sought.{IsRefusedBy}
use Rattle.explore_command.proofs.show.showing.found_in.Goals as goal

pub returns-clause-found : goal.returns-clause-found
returns-clause-found g c =
    let is = c.explore-found.ensures in
    let asked = c.args.asked.now in
    subst (λ (a : List ℕ). IfOk c.explore-found.result (IsFoundIn asked.image asked.config a c.args.wanted.states)) c.deref-2.ensures.value
    (explored.found_in asked.image asked.config c.deref-2.result.now c.args.wanted.states c.explore-found.result is.real is.complete is.none_stuck is.some is.stuck is.strict is.within is.full is.visited is.failures is.failures_once is.each_failure)

pub returns-clause-ends : goal.returns-clause-ends
returns-clause-ends g c =
    let asked = c.args.asked.now in
    let seek = c.in_ok-seek.seek in
    ends_by c.args.wanted.first seek.is_asked c.args.wanted.seconds seek.seconds asked.targets.names.items seek.names.now (option_map (λ bytes. bytes.items) asked.allowed) (IsRefusedBy seek.allowed) c.in_ok-seek.ensures.asked c.in_ok-seek.ensures.seconds (c.in_ok-seek.ensures.names ∙ c.deref.ensures.value) c.in_ok-seek.ensures.refuses c.explore-found.result c.explore-found.ensures.first c.explore-found.ensures.timed
