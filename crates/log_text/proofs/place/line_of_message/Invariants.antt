use Rattle.std.proofs.Common.{◌≡◌, ◌+◌, ◌≤◌, true, length}
use Rattle.log_text.specs.Places.{message_line}
use Rattle.log_text.proofs.place.line_of_message.Given as goal

abbrev pub invariant-loop-rest : goal.invariant-loop-rest
invariant-loop-rest l = record {
  answer : message_line l.is_start l.lines_before l.messages_before l.rest ≡ message_line true 0 l.index l.fn.bytes;
  lines : l.lines_before + length l.rest ≤ length l.fn.bytes;
}

abbrev pub decreases-loop-rest : goal.decreases-loop-rest
decreases-loop-rest l = length l.rest
