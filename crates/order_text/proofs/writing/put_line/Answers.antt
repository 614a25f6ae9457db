use Rattle.std.proofs.Common.{[], ◌++◌, codes, sym}
use Rattle.std.proofs.lemmas.List.{append-nil}
use Rattle.text_fields.proofs.Pages.{page_starts, page_stops, page_fails, page_more, page_as, page_spelled, page_ends}
use Rattle.order_text.specs.Text.{line, remark}
use Rattle.order_text.proofs.writing.put_line.Goals as goal

pub returns-in_err-make_room : goal.returns-in_err-make_room
returns-in_err-make_room g c =
    let g0 = page_starts (g.W.Write.contents c.args.out.now) c.args.page.now (line c.args.names.now c.args.line.now) in
    page_stops _ _ _ _ _ _ c.from_residual.ensures.0 (page_fails _ _ _ _ [] _ _ g0 c.in_err-make_room.ensures.sent)

pub returns-in_err-make_room-2 : goal.returns-in_err-make_room-2
returns-in_err-make_room-2 g c =
    let g0 = page_starts (g.W.Write.contents c.args.out.now) c.args.page.now (line c.args.names.now c.args.line.now) in
    let g1 = page_spelled _ _ _ _ _ _ _ (page_more _ _ _ _ _ [] _ _ g0 c.in_ok-make_room.ensures.sent) c.spell_fields.ensures in
    page_stops _ _ _ _ _ _ c.from_residual-in_err-make_room-2.ensures.0 (page_fails _ _ _ _ [] _ _ g1 c.in_err-make_room-2.ensures.sent)

pub returns : goal.returns
returns g c =
    let g0 = page_starts (g.W.Write.contents c.args.out.now) c.args.page.now (line c.args.names.now c.args.line.now) in
    let g1 = page_spelled _ _ _ _ _ _ _ (page_more _ _ _ _ _ [] _ _ g0 c.in_ok-make_room.ensures.sent) c.spell_fields.ensures in
    let g2 = page_more _ _ _ _ _ [] _ _ g1 c.in_ok-make_room-2.ensures.sent in
    page_ends _ _ _ _ _ (page_spelled _ _ _ _ _ _ _ (page_as _ _ _ _ _ _ (sym (append-nil (remark c.args.names.now c.args.line.now ++ codes "\n"))) g2) c.spell_remark.ensures)
