use Rattle.std.proofs.Common.{◌++◌, List, [], subst, arith}
use Rattle.std.specs.List.{flat_map}
use Rattle.store_buffer.specs.Groups.{groups_of}
use Rattle.store_buffer.specs.declared.entry.Entry.{Entry}
use Rattle.text_fields.specs.Pages.{Paged}
use Rattle.text_fields.specs.Writing.{Begins}
use Rattle.text_fields.proofs.Pages.{page_as, page_ends, page_fails, page_more, page_stops, item_next, item_none}
use Rattle.event_stream.specs.Closing.{entry_word}
use Rattle.event_stream.proofs.waits.put_words.Goals as goal

pub returns-in_err-put_entries : goal.returns-in_err-put_entries
returns-in_err-put_entries g c =
    let W = g.W.Write.contents in
    let groups = groups_of c.args.buffer.now in
    page_stops _ _ _ _ _ _ c.from_residual.ensures.0
    (page_fails _ _ _ _ _ _ _ (page_as _ _ _ _ _ _ (item_next (flat_map entry_word) groups c.loop-index.index [] (omega (arith, c.loop-index-test.true, c.group_count-count.ensures))) c.loop-index.invariant)
    (subst (λ (es : List Entry). Begins (W c.loop-index.out) (W c.put_entries.new.out) (c.loop-index.page ++ flat_map entry_word es)) c.group.ensures c.in_err-put_entries.ensures))

pub loop-index-preserved : goal.loop-index-preserved
loop-index-preserved g c =
    let W = g.W.Write.contents in
    let groups = groups_of c.args.buffer.now in
    page_more _ _ _ _ _ _ _ _ (page_as _ _ _ _ _ _ (item_next (flat_map entry_word) groups c.loop-index.index [] (omega (arith, c.loop-index-test.true, c.group_count-count.ensures))) c.loop-index.invariant)
    (subst (λ (es : List Entry). Paged (W c.loop-index.out) (W c.put_entries.new.out) c.loop-index.page c.put_entries.new.page (flat_map entry_word es)) c.group.ensures c.in_ok-put_entries.ensures)

pub returns : goal.returns
returns g c =
    let groups = groups_of c.args.buffer.now in
    page_ends _ _ _ _ _ (page_as _ _ _ _ _ _ (item_none (flat_map entry_word) groups c.loop-index.index (omega (arith, c.loop-index-test.false, c.group_count-count.ensures))) c.loop-index.invariant)
