use Rattle.std.specs.Char.Escape.{escape_ascii}
use Rattle.text_fields.proofs.Written.{begins_at, stops}
use Rattle.log_text.proofs.place.put_escaped.Goals as goal

pub returns-in_err-put_byte : goal.returns-in_err-put_byte
returns-in_err-put_byte g c = stops _ _ _ _ c.from_residual.ensures.0 (begins_at _ _ _ escape_ascii c.args.name.now c.loop-byte.byte-index _ c.loop-byte-test.true c.loop-byte.invariant c.in_err-put_byte.ensures)
