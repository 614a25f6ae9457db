use Rattle.std.proofs.lemmas.Grind.{common_steps}
use Rattle.std.proofs.Common.{◌∙◌, None, ap, arith, get_or, length, refl, sym}
use Rattle.hart.specs.declared.retired.Retired.{Retired}
use Rattle.memory_model.specs.Items.{operation_of_entry}
use Rattle.trace_operations.proofs.Listing.{at_its_place, item_is, pushed_long}
use Rattle.trace_operations.proofs.Steps.{items_next, run_ended, run_further, run_stopped}
use Rattle.trace_operations.proofs.items.run_of.Goals as goal

pub push-requires-clause-placed : goal.push-requires-clause-placed
push-requires-clause-placed c = λ a e.
    let none : Retired = record { pc = 0; word = 0; loaded = None; sc_ok = None } in
    let entry : Retired = get_or c.args.entries.now c.loop-place.place none in
    at_its_place c.loop-place.place c.loop-place.hart entry a (ap (operation_of_entry c.loop-place.place c.loop-place.hart entry) (sym c.decode-instr.ensures) ∙ (sym c.operation_in.ensures ∙ e)) ∙ sym c.loop-place.invariant.long

pub loop-place-preserved : goal.loop-place-preserved
loop-place-preserved c =
    let none : Retired = record { pc = 0; word = 0; loaded = None; sc_ok = None } in
    let entry : Retired = get_or c.args.entries.now c.loop-place.place none in
    record {
      runs = c.loop-place.invariant.runs ∙ run_further c.args.image.now c.args.status c.loop-place.hart c.retire.new.hart c.args.entries.now c.loop-place.place none c.is_step.result (omega arith) c.is_step.ensures c.if-not-is_step.false c.retire.ensures;
      listed = items_next c.loop-place.place c.loop-place.hart c.retire.new.hart c.args.entries.now none c.loop-place.items c.push.new.self _ _ (omega arith) (item_is c.loop-place.place (length c.loop-place.items) entry.word c.loop-place.hart entry c.decode-instr.result c.operation_in.result c.loop-place.invariant.long refl c.decode-instr.ensures c.operation_in.ensures) c.retire.ensures c.in_ok-push.ensures c.loop-place.invariant.listed;
      long = pushed_long c.loop-place.items c.push.new.self _ c.loop-place.place c.in_ok-push.ensures c.loop-place.invariant.long;
    }

pub returns-then-not-is_step-clause-runs : goal.returns-then-not-is_step-clause-runs
returns-then-not-is_step-clause-runs c =
    let none : Retired = record { pc = 0; word = 0; loaded = None; sc_ok = None } in
    sym (c.loop-place.invariant.runs ∙ run_stopped c.args.image.now c.args.status c.loop-place.hart c.args.entries.now c.loop-place.place none c.is_step.result (omega arith) c.is_step.ensures c.if-not-is_step.true)

pub returns-then-not-status_fits-clause-runs : goal.returns-then-not-status_fits-clause-runs
returns-then-not-status_fits-clause-runs c = sym (c.loop-place.invariant.runs ∙ (run_ended c.args.image.now c.args.status c.loop-place.hart c.args.entries.now c.loop-place.place (omega arith) ∙ (sym c.status_fits.ensures ∙ c.if-not-status_fits.true)))

pub returns-clause-runs : goal.returns-clause-runs
returns-clause-runs c = sym (c.loop-place.invariant.runs ∙ (run_ended c.args.image.now c.args.status c.loop-place.hart c.args.entries.now c.loop-place.place (omega arith) ∙ (sym c.status_fits.ensures ∙ c.if-not-status_fits.false)))

pub returns-clause-items : goal.returns-clause-items
returns-clause-items c = grind (arith, common_steps)
