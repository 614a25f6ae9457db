use Rattle.explore_command.proofs.Runs.{runs_in}
use Rattle.explore_command.proofs.sample.sampling.runs_of.Goals as goal

pub returns : goal.returns
returns g c = runs_in c.args.asked.now.image c.args.asked.now.config c.args.runs c.sample_ends-sampled.result c.from.ensures c.sample_ends-sampled.ensures.sampled c.sample_ends-sampled.ensures.within c.sample_ends-sampled.ensures.all_made
