use Rattle.std.proofs.Common.{◌≡◌, ◌∙◌, sym, true}
use Rattle.memory_model.specs.Traces.{has_each_operation_once}
use Rattle.rvwmo_order.proofs.Verdicts.{first_verdict, legal_verdict, sound_verdict, tested_order}
use Rattle.gate_plain_checker.proofs.checking.check_model.Goals as goal

pub returns-clause-legal : goal.returns-clause-legal
returns-clause-legal c = legal_verdict c.args.model c.args.trace.now.history c.args.order.now c.in_ok-verdict_on.field-0 c.in_ok-verdict_on.ensures

pub returns-clause-sound : goal.returns-clause-sound
returns-clause-sound c =
    let t = c.args.trace.now.history in
    let tested : has_each_operation_once t c.args.order.now ≡ true = sym (tested_order t c.args.order.now c.deref.result.now (c.deref.ensures.value ∙ c.in_ok-names.ensures)) ∙ (sym c.is_order.ensures ∙ c.if-not-is_order.false) in
    sound_verdict c.args.model t c.args.order.now c.in_ok-verdict_on.field-0 tested c.in_ok-verdict_on.ensures

pub returns-clause-first : goal.returns-clause-first
returns-clause-first c =
    let t = c.args.trace.now.history in
    let tested : has_each_operation_once t c.args.order.now ≡ true = sym (tested_order t c.args.order.now c.deref.result.now (c.deref.ensures.value ∙ c.in_ok-names.ensures)) ∙ (sym c.is_order.ensures ∙ c.if-not-is_order.false) in
    first_verdict c.args.model t c.args.order.now c.in_ok-verdict_on.field-0 tested c.in_ok-verdict_on.ensures
