use Rattle.std.proofs.Common.{◌∙◌}
use Rattle.trace_operations.proofs.Tables.{list_more}
use Rattle.trace_operations.proofs.places.Places.reach.Goals as goal

pub loop-alloc-preserved : goal.loop-alloc-preserved
loop-alloc-preserved c = λ h place. list_more c.loop-alloc.self.lists.items c.push.new.self.items c.none.result h place c.in_ok-push.ensures.items c.none.ensures ∙ c.loop-alloc.invariant h place
