use Rattle.std.proofs.Common.{◌≡◌, ◌+◌, ◌++◌, length}
use Rattle.run_chart.specs.Arrows.{arrows}
use Rattle.run_chart.proofs.arrows.put_posts.Given as goal

abbrev pub invariant-loop-rest : goal.invariant-loop-rest
invariant-loop-rest l = record {
  text : l.svg ++ arrows l.plan l.names.symbols.now l.names.size l.posts l.place l.rest ≡ l.initial.svg ++ arrows l.plan l.names.symbols.now l.names.size l.posts 0 l.posts;
  count : l.place + length l.rest ≡ length l.posts;
}

abbrev pub decreases-loop-rest : goal.decreases-loop-rest
decreases-loop-rest l = length l.rest
