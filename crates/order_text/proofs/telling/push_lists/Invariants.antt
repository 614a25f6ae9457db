use Rattle.std.proofs.Common.{◌≡◌, ◌++◌, drop}
use Rattle.order_text.specs.Telling.{lists_lines}
use Rattle.order_text.proofs.telling.push_lists.Given as goal

abbrev pub invariant-loop-hart : goal.invariant-loop-hart
invariant-loop-hart l =
    l.lines.items ++ lists_lines l.model l.harts l.relations l.hart (drop l.hart l.trace.history.entries)
    ≡ l.initial.lines.items ++ lists_lines l.model l.harts l.relations 0 l.trace.history.entries
