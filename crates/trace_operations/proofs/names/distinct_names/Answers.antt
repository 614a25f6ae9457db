use Rattle.std.proofs.lemmas.Grind.{common_steps}
use Rattle.std.proofs.Common.{arith}
use Rattle.trace_operations.proofs.Gathered.{distinct_at_first, distinct_step, distinct_stop, named_step, none_named, one_more}
use Rattle.trace_operations.proofs.names.distinct_names.Goals as goal

pub loop-name-init : goal.loop-name-init
loop-name-init c = record {
  distinct = distinct_at_first c.none-names.result c.args.list.now c.none-names.ensures;
  names = none_named c.none-names.result c.args.list.now c.none-names.ensures;
}

pub returns-then-has-clause-distinct : goal.returns-then-has-clause-distinct
returns-then-has-clause-distinct c = distinct_stop c.loop-name.names c.args.list.now c.loop-name.name-index _ c.has.result (omega arith) c.loop-name.invariant.distinct c.has.ensures c.if-has.true

pub loop-name-preserved : goal.loop-name-preserved
loop-name-preserved c =
    let more = one_more c.loop-name.names c.put.new.self _ 1 (omega arith) c.in_ok-put.ensures in
    record {
      distinct = distinct_step c.loop-name.names c.put.new.self c.args.list.now c.loop-name.name-index _ c.has.result (omega arith) c.loop-name.invariant.distinct more c.has.ensures c.if-has.false;
      names = named_step c.loop-name.names c.put.new.self c.args.list.now c.loop-name.name-index _ (omega arith) c.loop-name.invariant.names more;
    }

pub returns-clause-distinct : goal.returns-clause-distinct
returns-clause-distinct c = grind (arith, common_steps)

pub returns-clause-names : goal.returns-clause-names
returns-clause-names c = grind (arith, common_steps)
