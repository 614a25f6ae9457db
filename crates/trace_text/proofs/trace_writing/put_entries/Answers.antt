use Rattle.std.proofs.Common.{List, ◌<◌, ◌≤◌, [], ◌++◌, length, ap, arith, subst}
use Rattle.std.proofs.lemmas.List.{drop_all}
use Rattle.hart.specs.declared.retired.Retired.{Retired}
use Rattle.text_fields.specs.Fields.{numbered}
use Rattle.text_fields.specs.Pages.{Paged}
use Rattle.text_fields.specs.Writing.{Begins}
use Rattle.text_fields.proofs.Pages.{page_stops, page_fails, page_more, page_as, page_ends}
use Rattle.text_fields.proofs.Written.{numbered_at_place}
use Rattle.trace_text.specs.Traces.{entries}
use Rattle.trace_text.proofs.trace_writing.put_entries.Goals as goal

pub returns-in_err-put_list : goal.returns-in_err-put_list
returns-in_err-put_list g c =
    let lt : c.loop-hart.hart < length c.args.trace.now.history.entries = omega (arith, c.loop-hart-test.true, c.harts-hart-end.ensures.entries) in
    page_stops _ _ _ _ _ _ c.from_residual.ensures.0
    (page_fails _ _ _ _ _ _ _ (page_as _ _ _ _ _ _ (numbered_at_place entries c.loop-hart.hart c.args.trace.now.history.entries [] lt) c.loop-hart.invariant)
    (subst (λ (t : List Retired). Begins (g.W.Write.contents c.loop-hart.out) (g.W.Write.contents c.put_list.new.out) (c.loop-hart.page ++ entries c.loop-hart.hart t)) c.entries.ensures.list c.in_err-put_list.ensures))

pub loop-hart-preserved : goal.loop-hart-preserved
loop-hart-preserved g c =
    let lt : c.loop-hart.hart < length c.args.trace.now.history.entries = omega (arith, c.loop-hart-test.true, c.harts-hart-end.ensures.entries) in
    page_more _ _ _ _ _ _ _ _ (page_as _ _ _ _ _ _ (numbered_at_place entries c.loop-hart.hart c.args.trace.now.history.entries [] lt) c.loop-hart.invariant)
    (subst (λ (t : List Retired). Paged (g.W.Write.contents c.loop-hart.out) (g.W.Write.contents c.put_list.new.out) c.loop-hart.page c.put_list.new.page (entries c.loop-hart.hart t)) c.entries.ensures.list c.in_ok-put_list.ensures)

pub returns : goal.returns
returns g c =
    let le : length c.args.trace.now.history.entries ≤ c.loop-hart.hart = omega (arith, c.loop-hart-test.false, c.harts-hart-end.ensures.entries) in
    page_ends _ _ _ _ _ (page_as _ _ _ _ _ _ (ap (numbered entries c.loop-hart.hart) (drop_all c.loop-hart.hart c.args.trace.now.history.entries le)) c.loop-hart.invariant)
