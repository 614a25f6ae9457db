use Rattle.std.proofs.Common.{◌≡◌, ◌<◌, ◌≤◌, true}
use Rattle.schedules.specs.Schedules.{LeadsThere}
use Rattle.schedules.specs.Sublists.{IsSublist}
use Rattle.schedules.proofs.shortening.Script.leave_out.Given as goal

abbrev pub invariant-loop-start : goal.invariant-loop-start
invariant-loop-start g l = record {
  good : LeadsThere l.self.image.now l.self.config (g.G.Goal.Holds l.self.goal.now) l.short.items;
  sublist : IsSublist l.short.items l.fn.short.items;
  left : l.left ≤ l.fn.left;
  fewer : l.has_left_out ≡ true → l.left < l.fn.left;
}

abbrev pub decreases-loop-start : goal.decreases-loop-start
decreases-loop-start g l = l.left
