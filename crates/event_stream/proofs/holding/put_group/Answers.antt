use Rattle.std.proofs.Common.{[], ap, arith, drop, sym, ◌∙◌, ◌+◌, ◌++◌}
use Rattle.std.specs.List.{flat_map}
use Rattle.store_buffer.specs.declared.entry.Entry.{Entry}
use Rattle.text_fields.proofs.Pages.{page_stops, page_fails, page_more, page_as, page_spelled, page_ends, item_next, item_none}
use Rattle.event_stream.specs.Holding.{entry_line}
use Rattle.event_stream.proofs.holding.put_group.Goals as goal

pub returns-in_err-make_room : goal.returns-in_err-make_room
returns-in_err-make_room g c = page_stops _ _ _ _ _ _ c.from_residual.ensures.0 (page_fails _ _ _ _ [] _ _ c.loop-entry.invariant c.in_err-make_room.ensures.sent)

pub loop-entry-preserved : goal.loop-entry-preserved
loop-entry-preserved g c =
    page_spelled _ _ _ _ _ _ _ (page_as _ _ _ _ _ _ (item_next (entry_line c.args.hart c.args.group) c.args.entries.now c.loop-entry.entry-index _ c.loop-entry-test.true ∙ ap (λ (e : Entry). (entry_line c.args.hart c.args.group) e ++ flat_map (entry_line c.args.hart c.args.group) (drop (c.loop-entry.entry-index + 1) c.args.entries.now)) (sym c.entry-item.is)) (page_more _ _ _ _ _ [] _ _ c.loop-entry.invariant c.in_ok-make_room.ensures.sent)) c.spell_entry.ensures

pub returns : goal.returns
returns g c = page_ends _ _ _ _ _ (page_as _ _ _ _ _ _ (item_none (entry_line c.args.hart c.args.group) c.args.entries.now c.loop-entry.entry-index (omega (arith, c.loop-entry-test.false))) c.loop-entry.invariant)
