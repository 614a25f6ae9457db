use Rattle.std.proofs.Common.{rules}
use Rattle.explore_command.proofs.Remarked.{all_ways_told, first_of, one_way_told}
use Rattle.explore_command.proofs.architecture.telling.remarks_on.Goals as goal

pub loop-rest-preserved : goal.loop-rest-preserved
loop-rest-preserved c = record {
  told = one_way_told c.loop-rest.number c.loop-rest.lines.items c.add_way.new.lines.items c.loop-rest.rest.now _ c.args.outcomes.now c.first-item.result
      (first_of c.loop-rest.rest.now _ _ c.in-len1-up.len_at_least c.first-item.is) c.loop-rest.invariant.told c.in_ok-add_way.ensures;
  count = search rules;
}

pub returns : goal.returns
returns c = all_ways_told _ _ c.loop-rest.rest.now _ c.in_default.len_below c.loop-rest.invariant.told
