use Rattle.std.proofs.Common.{[], option_map}
use Rattle.std.proofs.lemmas.List.Elements.{All-nil}
use Rattle.explore_command.proofs.Explored as explored
use Rattle.explorer.specs.Words.{CanShow}
use Rattle.explore_command.proofs.Sought.{ends_by}
use Rattle.explore_command.specs.Sought.{IsRefusedBy}
use Rattle.explore_command.proofs.exploring.found_in.Goals as goal

pub explore-found-requires-clause-words : goal.explore-found-requires-clause-words
explore-found-requires-clause-words g c = All-nil (CanShow c.args.asked.now.image)

pub returns-clause-found : goal.returns-clause-found
returns-clause-found g c =
    let is = c.explore-found.ensures in
    explored.found_in c.args.asked.now.image c.args.asked.now.config [] c.args.wanted.states c.explore-found.result is.real is.complete is.none_stuck is.some is.stuck is.strict is.within is.full is.visited is.failures is.failures_once is.each_failure

pub returns-clause-ends : goal.returns-clause-ends
returns-clause-ends g c =
    let seek = c.in_ok-seek.seek in
    ends_by c.args.wanted.first seek.is_asked c.args.wanted.seconds seek.seconds [] seek.names.now (option_map (λ bytes. bytes.items) c.args.asked.now.allowed) (IsRefusedBy seek.allowed) c.in_ok-seek.ensures.asked c.in_ok-seek.ensures.seconds c.in_ok-seek.ensures.names c.in_ok-seek.ensures.refuses c.explore-found.result c.explore-found.ensures.first c.explore-found.ensures.timed
