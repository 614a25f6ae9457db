use Rattle.std.proofs.Common.{◌-◌, ◌∙◌, arith, sym}
use Rattle.trace_operations.proofs.Indexed.{seen_last}
use Rattle.trace_operations.proofs.index.last_seen.Goals as goal

pub returns-then-is_seen-clause-seen : goal.returns-then-is_seen-clause-seen
returns-then-is_seen-clause-seen g c =
    seen_last c.args.position c.args.load c.args.stores.now c.loop-left.left (c.loop-left.left - 1) _ c.look-place.result (omega arith) (omega arith) c.look-place.ensures.stored (sym c.is_seen.ensures ∙ c.if-is_seen.true) c.loop-left.invariant.seen
