use Rattle.std.proofs.Common.{◌++◌, ap, arith, ◌∙◌, subst, sym}
use Rattle.coherent_machine.specs.Machine.{IsReached}
use Rattle.machine_model.specs.Views.{State}
use Rattle.text_fields.specs.Pages.{Paged}
use Rattle.text_fields.specs.Writing.{Begins}
use Rattle.event_stream.specs.declared.report.Lengths.{Lengths}
use Rattle.event_stream.specs.Lines.{report_lines}
use Rattle.event_stream.specs.Reports.{Report}
use Rattle.event_stream.proofs.Telling.{behind, ends_is, fails_next, idle_next, next_of, none_told, one_told, refused_next, rest_place}
use Rattle.event_stream.proofs.writing.tell.Goals as goal

pub loop-rest-init : goal.loop-rest-init
loop-rest-init g c = record {
  told = none_told c.args.names.now c.args.strictness c.args.machine.now c.args.events.now _ _;
  place = omega arith;
  reached = c.requires;
  kept = c.new-instructions.ensures c.args.names.now;
}

pub returns-in-Err-clause-told : goal.returns-in-Err-clause-told
returns-in-Err-clause-told g c =
    refused_next _ _ _ _ _ _ c.apply.new.self _ _ c.in-Err.error _ _ _ _ _ c.ended_by.new.page _
    (next_of _ _ _ _ _ _ c.loop-rest.rest.now _ _ _ _ _ c.in-len1-up.len_at_least c.loop-rest.invariant.told)
    c.in-Err.ensures.answers
    c.ended_by.ensures

pub returns-then-ends_at-clause-told : goal.returns-then-ends_at-clause-told
returns-then-ends_at-clause-told g c =
    idle_next c.changes_are_counted.ensures _ _ _ _ _ _ c.apply.new.self _ _ c.in-Ok.outcome _ _ _ _ _ c.ended_by-then-ends_at.new.page _
    (next_of _ _ _ _ _ _ c.loop-rest.rest.now _ _ _ _ _ c.in-len1-up.len_at_least c.loop-rest.invariant.told)
    c.in-Ok.ensures.answers
    (ends_is _ _ _ _ _ c.loop-rest.machine c.apply.new.self c.ends_at.ensures c.if-ends_at.true (ap (λ (b : Lengths). b.changes) c.of-before.ensures) (c.changes.ensures ∙ ap (λ (s : State). s.views.changes) c.views.ensures))
    c.ended_by-then-ends_at.ensures

pub put_report-requires-clause-reached : goal.put_report-requires-clause-reached
put_report-requires-clause-reached g c = subst IsReached (sym (ap (λ (x : Report). x.state) c.behind-report.ensures)) c.apply.ensures.reached

pub returns-in-Err-put_report-clause-told : goal.returns-in-Err-put_report-clause-told
returns-in-Err-put_report-clause-told g c =
    fails_next _ _ _ _ _ _ c.apply.new.self _ _ c.in-Ok.outcome _ _ _ _ _
    (next_of _ _ _ _ _ _ c.loop-rest.rest.now _ _ _ _ _ c.in-len1-up.len_at_least c.loop-rest.invariant.told)
    c.in-Ok.ensures.answers
    (ends_is _ _ _ _ _ c.loop-rest.machine c.apply.new.self c.ends_at.ensures c.if-ends_at.false (ap (λ (b : Lengths). b.changes) c.of-before.ensures) (c.changes.ensures ∙ ap (λ (s : State). s.views.changes) c.views.ensures))
    (subst (λ (x : Report). Begins (g.W.Write.contents c.loop-rest.out) (g.W.Write.contents c.put_report.new.out) (c.loop-rest.page ++ report_lines c.args.names.now x))
    (behind _ _ _ _ c.loop-rest.machine c.apply.new.self _ _ _ c.of-before.ensures c.hart_of.ensures c.action_of-action.ensures c.in-Ok.ensures.ok c.behind-report.ensures) c.in-Err-put_report.ensures.lines)

pub loop-rest-preserved : goal.loop-rest-preserved
loop-rest-preserved g c = record {
  told = one_told _ _ _ _ _ _ c.apply.new.self _ _ c.in-Ok.outcome _ _ _ _ _ _
      (next_of _ _ _ _ _ _ c.loop-rest.rest.now _ _ _ _ _ c.in-len1-up.len_at_least c.loop-rest.invariant.told)
      c.in-Ok.ensures.answers
      c.in-Ok.ensures.ok
      (ends_is _ _ _ _ _ c.loop-rest.machine c.apply.new.self c.ends_at.ensures c.if-ends_at.false (ap (λ (b : Lengths). b.changes) c.of-before.ensures) (c.changes.ensures ∙ ap (λ (s : State). s.views.changes) c.views.ensures))
      (subst (λ (x : Report). Paged (g.W.Write.contents c.loop-rest.out) (g.W.Write.contents c.put_report.new.out) c.loop-rest.page c.put_report.new.page (report_lines c.args.names.now x))
      (behind _ _ _ _ c.loop-rest.machine c.apply.new.self _ _ _ c.of-before.ensures c.hart_of.ensures c.action_of-action.ensures c.in-Ok.ensures.ok c.behind-report.ensures) c.in_default-put_report.ensures.lines);
  place = rest_place c.loop-rest.rest.now _ _ c.in-len1-up.len_at_least c.loop-rest.invariant.place;
  reached = c.apply.ensures.reached;
  kept = c.put_report.ensures.kept;
}
