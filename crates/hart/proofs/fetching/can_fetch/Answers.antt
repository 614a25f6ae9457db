use Rattle.hart.proofs.Fetches.{fetches}
use Rattle.hart.proofs.fetching.can_fetch.Goals as goal

pub returns-clause-exact : goal.returns-clause-exact
returns-clause-exact c = fetches c.args.image.now c.args.pc c.has_word.result c.has_word.ensures
