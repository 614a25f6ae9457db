use Rattle.std.proofs.Common.{◌≡◌, ◌+◌, drop}
use Rattle.client_cache.specs.Word.{with_marked}
use Rattle.client_cache.proofs.word.write_marked.Given as goal

-- what is still to be written makes of the line what the whole was to make
abbrev pub invariant-loop-i : goal.invariant-loop-i
invariant-loop-i l = with_marked l.line (l.at + l.i) (drop l.i l.marks) (drop l.i l.bytes) ≡ with_marked l.initial.line l.at l.marks l.bytes
