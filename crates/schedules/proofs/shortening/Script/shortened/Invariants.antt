use Rattle.schedules.specs.Schedules.{LeadsThere}
use Rattle.schedules.specs.Sublists.{IsSublist}
use Rattle.schedules.proofs.shortening.Script.shortened.Given as goal

abbrev pub invariant-loop-size : goal.invariant-loop-size
invariant-loop-size g l = record {
  good : LeadsThere l.self.image.now l.self.config (g.G.Goal.Holds l.self.goal.now) l.short.items;
  sublist : IsSublist l.short.items l.fn.events.items;
}

abbrev pub decreases-loop-size : goal.decreases-loop-size
decreases-loop-size g l = l.size

abbrev pub invariant-loop-short : goal.invariant-loop-short
invariant-loop-short g l = record {
  good : LeadsThere l.self.image.now l.self.config (g.G.Goal.Holds l.self.goal.now) l.short.items;
  sublist : IsSublist l.short.items l.fn.events.items;
}

abbrev pub decreases-loop-short : goal.decreases-loop-short
decreases-loop-short g l = l.left
