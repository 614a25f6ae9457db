use Rattle.std.proofs.Common.{None, arith, get_or, length, refl}
use Rattle.hart.specs.declared.retired.Retired.{Retired}
use Rattle.trace_operations.proofs.Listing.{item_is, pushed_long}
use Rattle.trace_operations.proofs.Steps.{items_next}
use Rattle.trace_operations.proofs.items.items_of.Goals as goal

pub loop-place-preserved : goal.loop-place-preserved
loop-place-preserved c =
    let none : Retired = record { pc = 0; word = 0; loaded = None; sc_ok = None } in
    let entry : Retired = get_or c.args.entries.now c.loop-place.place none in
    record {
      listed = items_next c.loop-place.place c.loop-place.hart c.retire.new.hart c.args.entries.now none c.loop-place.items c.push.new.self _ _ (omega arith) (item_is c.loop-place.place (length c.loop-place.items) entry.word c.loop-place.hart entry c.decode-instr.result c.operation_in.result c.loop-place.invariant.long refl c.decode-instr.ensures c.operation_in.ensures) c.retire.ensures c.in_ok-push.ensures c.loop-place.invariant.listed;
      long = pushed_long c.loop-place.items c.push.new.self _ c.loop-place.place c.in_ok-push.ensures c.loop-place.invariant.long;
    }
