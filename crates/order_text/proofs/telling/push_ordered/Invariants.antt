use Rattle.std.proofs.Common.{◌≡◌, ◌+◌, ◌++◌, length}
use Rattle.order_text.specs.Telling.{ordered_lines}
use Rattle.order_text.proofs.telling.push_ordered.Given as goal

abbrev pub invariant-loop-rest : goal.invariant-loop-rest
invariant-loop-rest l = record {
  told : l.lines.items ++ ordered_lines l.position l.rest ≡ l.initial.lines.items ++ ordered_lines 0 l.order;
  place : l.position + length l.rest ≡ length l.order;
}

abbrev pub decreases-loop-rest : goal.decreases-loop-rest
decreases-loop-rest l = length l.rest
