use Rattle.std.proofs.Common.{◌≡◌, ◌+◌, ◌++◌, length}
use Rattle.order_text.specs.Telling.{list_lines}
use Rattle.order_text.proofs.telling.push_list.Given as goal

abbrev pub invariant-loop-rest : goal.invariant-loop-rest
invariant-loop-rest l = record {
  told : l.lines.items ++ list_lines l.model l.harts l.relations l.hart l.place l.rest ≡ l.initial.lines.items ++ list_lines l.model l.harts l.relations l.hart 0 l.entries;
  place : l.place + length l.rest ≡ length l.entries;
}

abbrev pub decreases-loop-rest : goal.decreases-loop-rest
decreases-loop-rest l = length l.rest
