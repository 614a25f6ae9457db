use Rattle.hart_ends.specs.Ends.{hart_text, output_text, status_text}
use Rattle.hart_ends.proofs.Parts.{at_lead, at_status, behind_lead, lead}
use Rattle.text_fields.proofs.Written.{going_fails, going_last, going_more, stops}
use Rattle.hart_ends.proofs.ends.put_end.Goals as goal

pub returns-in_err-put_pieces : goal.returns-in_err-put_pieces
returns-in_err-put_pieces g c =
    let hart = c.args.hart in
    let status = c.args.status in
    let output = c.args.output.now in
    let text = hart_text hart status output in
    stops _ _ _ _ c.from_residual.ensures.0 (going_fails _ _ _ (lead hart) (behind_lead hart status output) text (at_lead hart status output _) c.in_err-put_pieces.ensures)

pub returns-in_err-put_status : goal.returns-in_err-put_status
returns-in_err-put_status g c =
    let hart = c.args.hart in
    let status = c.args.status in
    let output = c.args.output.now in
    let text = hart_text hart status output in
    stops _ _ _ _ c.from_residual-in_err-put_status.ensures.0
    (going_fails _ _ _ (status_text status) (output_text output) text (at_status hart status output _ _ c.in_ok-put_pieces.ensures) c.in_err-put_status.ensures)

pub returns : goal.returns
returns g c =
    let hart = c.args.hart in
    let status = c.args.status in
    let output = c.args.output.now in
    let text = hart_text hart status output in
    let at_output = going_more _ _ _ (status_text status) (output_text output) text (at_status hart status output _ _ c.in_ok-put_pieces.ensures) c.in_ok-put_status.ensures in
    going_last _ _ _ (output_text output) text c.put_output.result at_output c.put_output.ensures
