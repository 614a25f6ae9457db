use Rattle.std.proofs.Common.{◌-◌, ◌≤◌}
use Rattle.message_search.specs.Searched.{IsSearched}
use Rattle.message_search.proofs.runs.Search.make_runs.Given as goal

abbrev pub invariant-loop-searched : goal.invariant-loop-searched
invariant-loop-searched g l = record {
  few : l.searched.runs ≤ l.runs.count;
  searched : IsSearched l.self.image.now l.self.config l.self.sought.now l.searched;
}

abbrev pub decreases-loop-searched : goal.decreases-loop-searched
decreases-loop-searched g l = l.runs.count - l.searched.runs
