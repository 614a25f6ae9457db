use Rattle.std.proofs.Common.{◌≡◌, ◌∙◌, ℕ, List, Bool, ap, refl, sym}
use Rattle.event_stream.specs.Telling.{report_of}
use Rattle.machine_model.specs.Views.{State}
use Rattle.run_chart.specs.declared.before.Before.{Before}
use Rattle.run_chart.specs.Rows.{told}
use Rattle.run_chart.proofs.Limits.{add_fails, given_up, one_low}
use Rattle.run_chart.proofs.Telling.{is_left_out, is_listed, no_row, none_told, one_told, row_added}
use Rattle.run_chart.proofs.gathering.tell.Goals as goal

pub returns-then-changes-before-clause-told : goal.returns-then-changes-before-clause-told
returns-then-changes-before-clause-told c =
    no_row c.args.scope.now.size c.args.scope.now.only c.args.scope.now.columns.now c.args.index c.args.machine.now c.args.event c.apply.new.self c.args.gathered.now c.in-Ok.ensures.ok
    (none_told c.changes_are_counted.ensures c.args.scope.now.size c.args.scope.now.only c.args.scope.now.columns.now c.args.gathered.now.line c.args.index c.args.machine.now c.apply.new.self c.args.event c.in-Ok.outcome c.in-Ok.ensures.answers
    (sym (c.changes.ensures ∙ ap (λ (s : State). s.views.changes) c.views.ensures) ∙ c.if-changes-before.true ∙ ap (λ (b : Before). b.lengths.changes) c.stood_before-before.ensures))

pub returns-in_err-row-clause-full : goal.returns-in_err-row-clause-full
returns-in_err-row-clause-full c =
    given_up _ c.from_residual.result _ c.from_residual.ensures.1
    (λ why. one_low _ _ _ _
    (is_listed _ _ _
    (one_told c.args.scope.now.size c.args.scope.now.only c.args.scope.now.columns.now c.args.gathered.now.line c.args.index c.args.machine.now c.apply.new.self c.args.event c.in-Ok.outcome c.stood_before-before.result (report_of c.behind-report.result) _ c.in-Ok.ensures.answers
    (λ same. c.if-changes-before.false (c.changes.ensures ∙ ap (λ (s : State). s.views.changes) c.views.ensures ∙ same ∙ sym (ap (λ (b : Before). b.lengths.changes) c.stood_before-before.ensures)))
    c.stood_before-before.ensures c.behind-report.ensures refl)
    (sym c.is_shown.ensures ∙ c.if-is_shown.true))
    (c.in_err-row.ensures.full why))

pub returns-in_ok-row-clause-told : goal.returns-in_ok-row-clause-told
returns-in_ok-row-clause-told c =
    row_added _ _ _ _ _ _ _ c.add.result _ _ c.in_ok-row.row c.in-Ok.ensures.ok
    (is_listed _ _ _
    (one_told c.args.scope.now.size c.args.scope.now.only c.args.scope.now.columns.now c.args.gathered.now.line c.args.index c.args.machine.now c.apply.new.self c.args.event c.in-Ok.outcome c.stood_before-before.result (report_of c.behind-report.result) (told c.in_ok-row.row) c.in-Ok.ensures.answers
    (λ same. c.if-changes-before.false (c.changes.ensures ∙ ap (λ (s : State). s.views.changes) c.views.ensures ∙ same ∙ sym (ap (λ (b : Before). b.lengths.changes) c.stood_before-before.ensures)))
    c.stood_before-before.ensures c.behind-report.ensures c.in_ok-row.ensures.row)
    (sym c.is_shown.ensures ∙ c.if-is_shown.true))
    c.add.ensures.rows
    c.add.ensures.line

pub returns-in_ok-row-clause-full : goal.returns-in_ok-row-clause-full
returns-in_ok-row-clause-full c =
    add_fails c.add.result _ _ _ _
    (is_listed _ _ _
    (one_told c.args.scope.now.size c.args.scope.now.only c.args.scope.now.columns.now c.args.gathered.now.line c.args.index c.args.machine.now c.apply.new.self c.args.event c.in-Ok.outcome c.stood_before-before.result (report_of c.behind-report.result) (told c.in_ok-row.row) c.in-Ok.ensures.answers
    (λ same. c.if-changes-before.false (c.changes.ensures ∙ ap (λ (s : State). s.views.changes) c.views.ensures ∙ same ∙ sym (ap (λ (b : Before). b.lengths.changes) c.stood_before-before.ensures)))
    c.stood_before-before.ensures c.behind-report.ensures c.in_ok-row.ensures.row)
    (sym c.is_shown.ensures ∙ c.if-is_shown.true))
    c.add.ensures.full

pub returns-else-is_shown-clause-told : goal.returns-else-is_shown-clause-told
returns-else-is_shown-clause-told c =
    no_row c.args.scope.now.size c.args.scope.now.only c.args.scope.now.columns.now c.args.index c.args.machine.now c.args.event c.apply.new.self c.args.gathered.now c.in-Ok.ensures.ok
    (is_left_out _ _ _
    (one_told c.args.scope.now.size c.args.scope.now.only c.args.scope.now.columns.now c.args.gathered.now.line c.args.index c.args.machine.now c.apply.new.self c.args.event c.in-Ok.outcome c.stood_before-before.result (report_of c.behind-report.result) _ c.in-Ok.ensures.answers
    (λ same. c.if-changes-before.false (c.changes.ensures ∙ ap (λ (s : State). s.views.changes) c.views.ensures ∙ same ∙ sym (ap (λ (b : Before). b.lengths.changes) c.stood_before-before.ensures)))
    c.stood_before-before.ensures c.behind-report.ensures refl)
    (sym c.is_shown.ensures ∙ c.if-is_shown.false))
