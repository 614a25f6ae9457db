use Rattle.std.proofs.Common.{refl}
use Rattle.explore_command.proofs.Remarked.{all_told, none_told, one_told}
use Rattle.explore_command.proofs.architecture.telling.add_overtakings.Goals as goal

pub loop-rest-init : goal.loop-rest-init
loop-rest-init c = none_told _ _ _ _ refl

pub loop-rest-preserved : goal.loop-rest-preserved
loop-rest-preserved c = one_told _ _ _ _ c.loop-rest.rest.now _ c.in-len1-up.len_at_least c.loop-rest.invariant c.in_ok-add_remark.ensures

pub returns : goal.returns
returns c = all_told _ _ _ c.loop-rest.rest.now _ c.in_default.len_below c.loop-rest.invariant
