use Rattle.std.proofs.Common.{◌≡◌, ◌∙◌, List, ap, sym, true}
use Rattle.std.specs.Prelude.{is_some}
use Rattle.memory_model.specs.OpId.{OpId}
use Rattle.memory_model.specs.Items.{Item}
use Rattle.memory_model.specs.Traces.{has_each_operation_once, is_among, operation_at}
use Rattle.memory_model.proofs.Told.{names_find_operations}
use Rattle.rvwmo_order.proofs.Verdicts.{first_verdict, legal_verdict, sound_verdict, tested_order}
use Rattle.rvwmo_order.proofs.checking.check_counted.Goals as goal

pub returns-clause-legal : goal.returns-clause-legal
returns-clause-legal g c = legal_verdict c.args.model c.args.trace.now.history c.args.order.now c.in_ok-verdict_on.field-0 c.in_ok-verdict_on.ensures.verdict

pub returns-clause-sound : goal.returns-clause-sound
returns-clause-sound g c =
    let t = c.args.trace.now.history in
    let named = rw c.in-Some.is at c.in-Ok.ensures.named in
    let tested : has_each_operation_once t c.args.order.now ≡ true = sym (tested_order t c.args.order.now c.deref.result.now (c.deref.ensures.value ∙ named)) ∙ (sym c.in_ok-is_order.ensures ∙ c.if-not-branch.false) in
    sound_verdict c.args.model t c.args.order.now c.in_ok-verdict_on.field-0 tested c.in_ok-verdict_on.ensures.verdict

pub returns-clause-first : goal.returns-clause-first
returns-clause-first g c =
    let t = c.args.trace.now.history in
    let named = rw c.in-Some.is at c.in-Ok.ensures.named in
    let tested : has_each_operation_once t c.args.order.now ≡ true = sym (tested_order t c.args.order.now c.deref.result.now (c.deref.ensures.value ∙ named)) ∙ (sym c.in_ok-is_order.ensures ∙ c.if-not-branch.false) in
    first_verdict c.args.model t c.args.order.now c.in_ok-verdict_on.field-0 tested c.in_ok-verdict_on.ensures.verdict

pub is_order-requires : goal.is_order-requires
is_order-requires g c = λ n.
    let named = rw c.in-Some.is at c.in-Ok.ensures.named in
    let own = rw c.in-Some-runs.is at c.in-Ok-of_runs.ensures.all in
    ap (λ (names : List OpId). is_among names n) (c.deref.ensures.value ∙ named)
    ∙ (names_find_operations c.args.trace.now.history n ∙ ap (λ (hs : List (List Item)). is_some (operation_at hs n)) (sym own))

pub verdict_on-requires-clause-whole : goal.verdict_on-requires-clause-whole
verdict_on-requires-clause-whole g c =
    let t = c.args.trace.now.history in
    let named = rw c.in-Some.is at c.in-Ok.ensures.named in
    sym (tested_order t c.args.order.now c.deref.result.now (c.deref.ensures.value ∙ named)) ∙ (sym c.in_ok-is_order.ensures ∙ c.if-not-branch.false)

pub verdict_on-requires-clause-all : goal.verdict_on-requires-clause-all
verdict_on-requires-clause-all g c = rw c.in-Some-runs.is at c.in-Ok-of_runs.ensures.all
