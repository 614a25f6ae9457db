use Rattle.std.proofs.Common.{◌≤◌}
use Rattle.std.specs.Char.Escape.{escape_ascii}
use Rattle.std.specs.Char.Iter.{escape_byte_end, escape_byte_rest}
use Rattle.text_fields.proofs.Written.{Going}
use Rattle.log_text.proofs.place.put_byte.Given as goal

abbrev pub invariant-loop-written : goal.invariant-loop-written
invariant-loop-written g l = record {
  going : Going (g.W.Write.contents l.initial.out) (g.W.Write.contents l.out) (escape_byte_rest l.written-iterator) (escape_ascii l.byte);
  bound : escape_byte_end l.written-iterator ≤ 4;
}
