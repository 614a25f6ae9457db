use Rattle.std.proofs.Common.{◌++◌, codes, sym}
use Rattle.std.proofs.lemmas.List.{append-nil}
use Rattle.std.specs.List.{flat_map}
use Rattle.text_fields.proofs.Pages.{page_first, page_as, page_more, page_fails, page_out}
use Rattle.text_fields.proofs.Written.{stops}
use Rattle.order_text.specs.Text.{line}
use Rattle.order_text.proofs.writing.write_lines.Goals as goal

pub returns-in_err-put_lines : goal.returns-in_err-put_lines
returns-in_err-put_lines g c =
    let told = flat_map (line c.args.names.now) c.args.lines.now in
    let g1 = page_first (g.W.Write.contents c.args.out.now) _ _ (codes "rvtl-order 1\n") told c.new-page.ensures c.text.ensures.value in
    stops _ _ _ _ c.from_residual.ensures.0 (page_fails _ _ _ _ _ _ _ (page_as _ _ _ _ _ _ (sym (append-nil told)) g1) c.in_err-put_lines.ensures)

pub returns : goal.returns
returns g c =
    let told = flat_map (line c.args.names.now) c.args.lines.now in
    let g1 = page_first (g.W.Write.contents c.args.out.now) _ _ (codes "rvtl-order 1\n") told c.new-page.ensures c.text.ensures.value in
    page_out _ _ _ _ _ _ (page_more _ _ _ _ _ _ _ _ (page_as _ _ _ _ _ _ (sym (append-nil told)) g1) c.in_ok-put_lines.ensures) c.hand_on.ensures.sent
