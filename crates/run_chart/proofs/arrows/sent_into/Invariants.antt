use Rattle.std.proofs.Common.{◌≡◌, ◌+◌, ◌≤◌, drop}
use Rattle.run_chart.specs.Arrows.{sent_into}
use Rattle.run_chart.proofs.arrows.sent_into.Given as goal

abbrev pub invariant-loop-post : goal.invariant-loop-post
invariant-loop-post l = record {
  value : l.count + sent_into l.queue_number (drop l.post-index l.posts) ≡ sent_into l.queue_number l.posts;
  few : l.count ≤ l.post-index;
}
