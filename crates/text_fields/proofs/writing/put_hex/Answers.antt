use Rattle.text_fields.specs.Fields.{hex_byte}
use Rattle.text_fields.proofs.Written.{stops, begins_at}
use Rattle.text_fields.proofs.writing.put_hex.Goals as goal

pub returns-in_err-put_hex_byte : goal.returns-in_err-put_hex_byte
returns-in_err-put_hex_byte g c = stops _ _ _ _ c.from_residual.ensures.0 (begins_at _ _ _ hex_byte c.args.bytes.now c.loop-byte.byte-index _ c.loop-byte-test.true c.loop-byte.invariant c.in_err-put_hex_byte.ensures)
