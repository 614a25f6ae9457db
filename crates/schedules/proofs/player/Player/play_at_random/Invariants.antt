use Rattle.std.proofs.Common.{◌≡◌, ◌+◌, ◌≤◌, length}
use Rattle.schedules.specs.Schedules.{start_of}
use Rattle.schedules.proofs.player.Player.play_at_random.Given as goal

abbrev pub invariant-loop-left : goal.invariant-loop-left
invariant-loop-left l = record {
  start : start_of l.self ≡ start_of l.fn.self;
  within : length l.self.events + l.left ≤ length l.fn.self.events + l.fn.most_events;
}

abbrev pub decreases-loop-left : goal.decreases-loop-left
decreases-loop-left l = l.left
