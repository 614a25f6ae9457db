use Rattle.std.proofs.Common.{◌≡◌, ℕ, ◌∙◌, ◌%◌, ap, arith, max, refl, set}
use Rattle.std.specs.Prelude.{slice_index_or}
use Rattle.std.proofs.lemmas.List.{length-set}
use Rattle.rvwmo_order.proofs.Words.{next_byte, passed, same_word}
use Rattle.rvwmo_order.proofs.latest.raise_word.Goals as goal

pub loop-x-preserved : goal.loop-x-preserved
loop-x-preserved c =
    record {
      bytes = next_byte (λ (y n : ℕ). max n c.args.rank) c.args.first c.loop-x.x c.args.word.now c.loop-x.word (set c.loop-x.word (c.loop-x.x % 4) c.max.result) 0 c.max.result (omega arith) (same_word c.args.first c.loop-x.x (omega arith) (omega arith)) (omega (arith, c.loop-x.invariant.long)) refl c.max.ensures c.loop-x.invariant.bytes;
      long = length-set c.loop-x.word (c.loop-x.x % 4) c.max.result ∙ c.loop-x.invariant.long;
    }

pub returns : goal.returns
returns c = λ q h.
    let same : c.loop-x.x ≡ c.args.end = omega (arith, c.loop-x.auto.x-end c.requires.ordered, c.loop-x-test.false) in
    c.loop-x.invariant.bytes q h ∙ ap (λ (n : ℕ). passed (λ (y m : ℕ). max m c.args.rank) c.args.first n q (slice_index_or c.args.word.now (q % 4) 0)) same
