use Rattle.std.proofs.Common.{◌+◌, ◌++◌, ◌∙◌, ap, arith, drop, not, sym}
use Rattle.std.specs.List.{filter, list_all}
use Rattle.memory_model.specs.Traces.{is_among}
use Rattle.trace_operations.specs.Indexed.{has_name, is_listed}
use Rattle.trace_operations.proofs.Gathered.{kept_last, kept_next, kept_same, passed_next}
use Rattle.trace_operations.proofs.ListedNames.{names_listed}
use Rattle.trace_operations.proofs.completing.completed.Goals as goal
use Rattle.trace_operations.proofs.completing.completed.Goals.{then-not-has+in_ok-push, else-not-has}

pub loop-name-preserved : goal.loop-name-preserved
loop-name-preserved c =
    let known = c.in_ok-performed.performed in
    let names = c.deref-name-items.result.now in
    let all = c.args.trace.now.history.performed ++ filter (λ n. not (has_name known n)) names in
    elim c.if-not-has.branch [
      | then-not-has+in_ok-push w ↦ kept_next known names c.loop-name.order.items c.if-not-has.order.items all c.loop-name.name-index _ c.has.result (omega arith) c.has.ensures w.if-not-has.true (ap (λ v. v.items) w.order-is ∙ w.in_ok-push.ensures.items) c.loop-name.invariant
      | else-not-has w ↦ passed_next known names c.loop-name.order.items all c.loop-name.name-index _ c.has.result (omega arith) c.has.ensures w.if-not-has.false c.loop-name.invariant ∙ ap (λ v. v.items ++ filter (λ n. not (has_name known n)) (drop (c.loop-name.name-index + 1) names)) (sym w.order-is)
    ]

pub returns : goal.returns
returns c =
    let known = c.in_ok-performed.performed in
    let names = c.deref-name-items.result.now in
    let performed = c.args.trace.now.history.performed in
    sym (kept_last known names c.loop-name.order.items (performed ++ filter (λ n. not (has_name known n)) names) c.loop-name.name-index c.loop-name-test.false c.loop-name.invariant)
    ∙ (ap (λ ns. performed ++ ns) (kept_same (is_listed c.args.trace.now.history) known c.performed.result.now names (ap (list_all (is_listed c.args.trace.now.history)) (c.deref-name-items.ensures.value ∙ c.in_ok-names.ensures) ∙ names_listed c.args.trace.now.history) c.in_ok-performed.ensures)
    ∙ (ap (λ ps. performed ++ filter (λ n. not (is_among ps n)) names) c.performed.ensures
    ∙ ap (λ ns. performed ++ filter (λ n. not (is_among performed n)) ns) (c.deref-name-items.ensures.value ∙ c.in_ok-names.ensures)))
