use Rattle.std.proofs.Common.{◌+◌, ◌∙◌, arith}
use Rattle.memory_model.specs.Operations.{addresses_of}
use Rattle.memory_model.specs.Order.{source}
use Rattle.std.specs.Prelude.{map}
use Rattle.rvwmo_order.proofs.Bytes.{source_ranked}
use Rattle.rvwmo_order.proofs.Marks.{one_more}
use Rattle.rvwmo_order.proofs.sweeping.find_sources.Goals as goal

pub loop-x-preserved : goal.loop-x-preserved
loop-x-preserved c =
    let end = c.end_of-x-end.ensures in
    let order = c.args.ranking.now in
    let b = c.args.b.now in
    let found = c.source_at.ensures ∙ source_ranked order b c.ranks_of-ranks.result c.loop-x.x c.ranks_of-ranks.ensures (omega arith) (omega (arith, end)) in
    one_more (λ x. source order b x) (map (λ x. source order b x) (addresses_of b)) c.loop-x.sources.items c.push.new.self.items c.loop-x.x (b.address + b.size) c.source_at.result (omega (arith, end)) found c.in_ok-push.ensures.items c.loop-x.invariant
