use Rattle.std.proofs.Common.{◌++◌, List, [], ap, arith, subst}
use Rattle.std.proofs.lemmas.List.{drop_all}
use Rattle.store_buffer.specs.Groups.{groups_of}
use Rattle.store_buffer.specs.declared.entry.Entry.{Entry}
use Rattle.text_fields.specs.Fields.{numbered}
use Rattle.text_fields.specs.Pages.{Paged}
use Rattle.text_fields.specs.Writing.{Begins}
use Rattle.text_fields.proofs.Pages.{page_as, page_ends, page_fails, page_more, page_stops}
use Rattle.text_fields.proofs.Written.{numbered_at_place}
use Rattle.event_stream.specs.Holding.{group_lines}
use Rattle.event_stream.proofs.holding.put_buffer.Goals as goal

pub returns-in_err-put_group : goal.returns-in_err-put_group
returns-in_err-put_group g c =
    let W = g.W.Write.contents in
    let f = group_lines c.args.hart in
    page_stops _ _ _ _ _ _ c.from_residual.ensures.0
    (page_fails _ _ _ _ _ _ _ (page_as _ _ _ _ _ _ (numbered_at_place f c.loop-index.index (groups_of c.args.buffer.now) [] (omega (arith, c.loop-index-test.true, c.group_count-count.ensures))) c.loop-index.invariant)
    (subst (λ (es : List Entry). Begins (W c.loop-index.out) (W c.put_group.new.out) (c.loop-index.page ++ f c.loop-index.index es)) c.group.ensures c.in_err-put_group.ensures))

pub loop-index-preserved : goal.loop-index-preserved
loop-index-preserved g c =
    let W = g.W.Write.contents in
    let f = group_lines c.args.hart in
    page_more _ _ _ _ _ _ _ _ (page_as _ _ _ _ _ _ (numbered_at_place f c.loop-index.index (groups_of c.args.buffer.now) [] (omega (arith, c.loop-index-test.true, c.group_count-count.ensures))) c.loop-index.invariant)
    (subst (λ (es : List Entry). Paged (W c.loop-index.out) (W c.put_group.new.out) c.loop-index.page c.put_group.new.page (f c.loop-index.index es)) c.group.ensures c.in_ok-put_group.ensures)

pub returns : goal.returns
returns g c =
    let f = group_lines c.args.hart in
    page_ends _ _ _ _ _ (page_as _ _ _ _ _ _ (ap (numbered f c.loop-index.index) (drop_all c.loop-index.index (groups_of c.args.buffer.now) (omega (arith, c.loop-index-test.false, c.group_count-count.ensures)))) c.loop-index.invariant)
