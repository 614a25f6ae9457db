use Rattle.std.proofs.Common.{◌≡◌, ◌+◌, ◌++◌, length}
use Rattle.run_chart.specs.Lines.{posted}
use Rattle.run_chart.proofs.posting.posts_of.Given as goal

abbrev pub invariant-loop-rest : goal.invariant-loop-rest
invariant-loop-rest l = record {
  posts : l.posts.items ++ posted l.only l.next l.rest ≡ posted l.only l.line l.log;
  next : l.next ≡ l.line + length l.posts.items;
}

abbrev pub decreases-loop-rest : goal.decreases-loop-rest
decreases-loop-rest l = length l.rest
