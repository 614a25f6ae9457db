use Rattle.text_fields.specs.Writing.{piece}
use Rattle.text_fields.proofs.Written.{stops, begins_at}
use Rattle.text_fields.proofs.writing.put_pieces.Goals as goal

pub returns-in_err-put_piece : goal.returns-in_err-put_piece
returns-in_err-put_piece g c = stops _ _ _ _ c.from_residual.ensures.0 (begins_at _ _ _ piece c.args.parts.now c.loop-part.part-index _ c.loop-part-test.true c.loop-part.invariant c.in_err-put_piece.ensures)
