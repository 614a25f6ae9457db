use Rattle.std.proofs.lemmas.Grind.{common_steps}
use Rattle.std.proofs.Common.{◌||◌, ◌&&◌, ◌∙◌, ap, arith, sym}
use Rattle.std.specs.Prelude.{nat_lt}
use Rattle.memory_model.specs.Traces.{is_among}
use Rattle.trace_operations.specs.Indexed.{is_listed}
use Rattle.trace_operations.proofs.Gathered.{listed_step, one_more, unlisted_step}
use Rattle.trace_operations.proofs.ListedNames.{listed_alike}
use Rattle.trace_operations.proofs.names.names_of.Goals as goal
use Rattle.trace_operations.proofs.names.names_of.Goals.{then-is_listed+in_ok-put, else-is_listed}

pub loop-name-init : goal.loop-name-init
loop-name-init c = λ n. ap (λ m. nat_lt 0 m || (is_listed c.args.trace.now.history n && is_among c.args.list.now n)) (c.none-names.ensures n.hart n.place)

pub loop-name-preserved : goal.loop-name-preserved
loop-name-preserved c =
    let t = c.args.trace.now.history in
    elim c.if-is_listed.branch [
      | then-is_listed+in_ok-put w ↦ rw w.names-is (listed_step (is_listed t) c.loop-name.names w.put.new.self c.args.list.now c.loop-name.name-index _ (listed_alike t) (omega arith) c.loop-name.invariant (sym c.is_listed.ensures ∙ w.if-is_listed.true) (one_more c.loop-name.names w.put.new.self _ 1 (omega arith) w.in_ok-put.ensures))
      | else-is_listed w ↦ rw w.names-is (unlisted_step (is_listed t) c.loop-name.names c.args.list.now c.loop-name.name-index _ (listed_alike t) (omega arith) c.loop-name.invariant (sym c.is_listed.ensures ∙ w.if-is_listed.false))
    ]

pub returns : goal.returns
returns c = grind (arith, common_steps)
