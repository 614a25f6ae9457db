use Rattle.lawful_log.proofs.Nested.{profiles_nest_lem}
use Rattle.lawful_log.proofs.rule.profiles_nest.Goals as goal

pub returns : goal.returns
returns c = profiles_nest_lem
