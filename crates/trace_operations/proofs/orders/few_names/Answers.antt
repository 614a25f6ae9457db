use Rattle.std.proofs.lemmas.Grind.{common_steps}
use Rattle.std.proofs.Common.{arith, sym}
use Rattle.trace_operations.proofs.Counts.{few_named}
use Rattle.trace_operations.proofs.Steps.{harts_next}
use Rattle.trace_operations.proofs.orders.few_names.Goals as goal

pub loop-hart-preserved : goal.loop-hart-preserved
loop-hart-preserved c = record {
  gathered = harts_next c.loop-hart.hart c.args.trace.now.history.entries c.entries.result.now c.loop-hart.names.items c.push_names.new.names.items _ (omega arith) c.entries.ensures.list c.in_ok-push_names.ensures c.loop-hart.invariant.gathered;
  few = omega arith;
}

pub returns-clause-few : goal.returns-clause-few
returns-clause-few c = sym (few_named c.loop-hart.hart c.args.trace.now.history.entries c.loop-hart.names.items (omega arith) c.loop-hart.invariant.gathered (omega (arith, c.loop-hart.names.ok.0, c.loop-hart.invariant.few)))

pub returns-clause-named : goal.returns-clause-named
returns-clause-named c = grind (arith, common_steps)
