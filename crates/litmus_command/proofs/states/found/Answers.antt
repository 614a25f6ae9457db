use Rattle.litmus_command.specs.States.{plain}
use Rattle.litmus_command.proofs.Finding.{one_added, one_left, stops_behind}
use Rattle.litmus_command.proofs.states.found.Goals as goal

pub loop-rest-preserved-in_ok-add : goal.loop-rest-preserved-in_ok-add
loop-rest-preserved-in_ok-add c = record {
  found = one_added c.args.layout.now c.args.filter.now c.args.of (plain c.loop-rest.rows.items) _ (plain c.add.new.rows.items) _ c.first-item.result c.is_of.result c.in-len1-up.len_at_least c.first-item.is c.is_of.ensures c.if-is_of.true c.in_ok-add.ensures.added c.loop-rest.invariant.found;
  stop = stops_behind _ _ c.in-len1-up.len_at_least c.loop-rest.invariant.stop;
}

pub loop-rest-preserved : goal.loop-rest-preserved
loop-rest-preserved c = record {
  found = one_left c.args.layout.now c.args.filter.now c.args.of (plain c.loop-rest.rows.items) _ _ c.first-item.result c.is_of.result c.in-len1-up.len_at_least c.first-item.is c.is_of.ensures c.if-is_of.false c.loop-rest.invariant.found;
  stop = stops_behind _ _ c.in-len1-up.len_at_least c.loop-rest.invariant.stop;
}
