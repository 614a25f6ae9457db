use Rattle.std.proofs.Common.{◌≡◌, ℕ, ◌∙◌, ◌-◌, ◌%◌, ap, arith, refl, set}
use Rattle.std.specs.Prelude.{slice_index_or}
use Rattle.std.proofs.lemmas.List.{length-set}
use Rattle.rvwmo_order.specs.Touched.{touched_from, untouched}
use Rattle.rvwmo_order.specs.declared.bounds.touched.Touch.{Touch}
use Rattle.rvwmo_order.proofs.Words.{next_byte, passed, same_word}
use Rattle.rvwmo_order.proofs.bounds.touched.pass_word.Goals as goal

pub loop-x-preserved : goal.loop-x-preserved
loop-x-preserved c = record {
  bytes = next_byte (λ (y : ℕ) (t : Touch). touched_from (slice_index_or c.args.ranks.now (y - c.args.a.now.address) 0) c.args.own c.args.a.now t) c.args.first c.loop-x.x c.args.word.now c.loop-x.word (set c.loop-x.word (c.loop-x.x % 4) c.pass.new.self) untouched c.pass.new.self (omega arith) (same_word c.args.first c.loop-x.x (omega arith) (omega arith)) (omega (arith, c.loop-x.invariant.long)) refl (rw c.rank_at.ensures at c.pass.ensures) c.loop-x.invariant.bytes;
  long = length-set c.loop-x.word (c.loop-x.x % 4) c.pass.new.self ∙ c.loop-x.invariant.long;
}

pub returns : goal.returns
returns c = λ q h.
    let same : c.loop-x.x ≡ c.args.end = omega (arith, c.loop-x.auto.x-end c.requires.ordered, c.loop-x-test.false) in
    c.loop-x.invariant.bytes q h ∙ ap (λ (n : ℕ). passed (λ (y : ℕ) (t : Touch). touched_from (slice_index_or c.args.ranks.now (y - c.args.a.now.address) 0) c.args.own c.args.a.now t) c.args.first n q (slice_index_or c.args.word.now (q % 4) untouched)) same
