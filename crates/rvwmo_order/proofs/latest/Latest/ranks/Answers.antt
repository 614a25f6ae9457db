use Rattle.std.proofs.Common.{◌≡◌, ◌∙◌, ℕ, ◌+◌, ap, arith, length}
use Rattle.std.proofs.lemmas.List.{length-set}
use Rattle.rvwmo_order.specs.Sourcing.{latest_at}
use Rattle.rvwmo_order.proofs.Kept.{ranks_next, ranks_same}
use Rattle.rvwmo_order.proofs.latest.Latest.ranks.Goals as goal
use Rattle.rvwmo_order.proofs.latest.Latest.ranks.Goals.{then-offset-a, else-offset-a}

pub loop-offset-preserved : goal.loop-offset-preserved
loop-offset-preserved c =
    let words = c.args.self.now.words in
    let a = c.args.a.now in
    let given = λ (i rank : ℕ). rank ≡ latest_at words (a.address + i) in
    elim c.if-offset-a.branch [
      | then-offset-a w ↦ (let byte : c.from-first.result + c.loop-offset.offset ≡ a.address + c.loop-offset.offset = omega (arith, c.from-first.ensures) in record {
        known = ranks_next given a.size c.loop-offset.ranks c.if-offset-a.ranks c.loop-offset.offset w.near.result c.loop-offset.invariant.long c.loop-offset-test.true w.ranks-is (w.near.ensures ∙ ap (latest_at words) byte) c.loop-offset.invariant.known;
        long = ap length w.ranks-is ∙ (length-set c.loop-offset.ranks c.loop-offset.offset w.near.result ∙ c.loop-offset.invariant.long);
      })
      | else-offset-a w ↦ record {
        known = ranks_same given a.size c.loop-offset.ranks c.if-offset-a.ranks c.loop-offset.offset w.ranks-is w.if-offset-a.false c.loop-offset.invariant.known;
        long = ap length w.ranks-is ∙ c.loop-offset.invariant.long;
      }
    ]
