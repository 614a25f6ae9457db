use Rattle.std.proofs.Common.{◌∙◌, sym}
use Rattle.hart.proofs.Rows.{none_refused, step_taken}
use Rattle.machine_parts.proofs.PrivateRows.{not_whole, whole_on}
use Rattle.machine_parts.proofs.plan.local.goes_alone.Goals as goal

pub returns-in_default : goal.returns-in_default
returns-in_default c =
    let none = none_refused c.args.image.now c.loop-left.last c.loop-left.left c.next_alone.result c.loop-left-test.true c.next_alone.ensures c.in_default.is in
    sym (c.loop-left.invariant ∙ not_whole c.args.image.now c.loop-left.last c.loop-left.left c.loop-left-test.true none)

pub loop-left-preserved : goal.loop-left-preserved
loop-left-preserved c =
    let taken = step_taken c.args.image.now c.loop-left.last c.next_alone.result c.in-Some.field-0-0 c.in-Some.next c.next_alone.ensures c.in-Some.is in
    c.loop-left.invariant ∙ whole_on c.args.image.now c.loop-left.last c.in-Some.next c.in-Some.field-0-0 c.loop-left.left c.loop-left-test.true taken
