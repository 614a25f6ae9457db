use Rattle.std.proofs.Common.{◌∙◌, ◌-◌, ◌/◌, ℕ, List, Option, Some, ap, arith, cond, replicate, rules}
use Rattle.std.specs.Prelude.{nat_eq, slice_index_or, unwrap_or}
use Rattle.std.specs.HashMap as hash
use Rattle.rvwmo_order.specs.Touched.{touched, touched_from, untouched}
use Rattle.rvwmo_order.specs.declared.bounds.touched.Touch.{Touch}
use Rattle.rvwmo_order.proofs.Bytes.{touched_ranked, word_alike}
use Rattle.rvwmo_order.proofs.Words.{next_word}
use Rattle.rvwmo_order.proofs.bounds.touched.pass_bytes.Goals as goal

pub loop-x-preserved : goal.loop-x-preserved
loop-x-preserved c =
    let before = c.loop-x.touches in
    let fresh = c.in-None.ensures.value in
    record {
      touched = next_word (λ (y : ℕ) (t : Touch). touched c.args.ranking.now y c.args.own c.args.a.now t) c.args.a.now.address c.loop-x.x c.behind_in_word-behind.result (hash.get nat_eq c.args.touches.now) (hash.get nat_eq before) (hash.get nat_eq c.insert.new.self) untouched (replicate 4 c.none-word.result) c.pass_word-in-None.new.word c.loop-x.invariant.from c.behind_in_word-behind.ensures.further c.behind_in_word-behind.ensures.within
          (λ q. c.in_ok-insert-in-None.ensures.updates.0 q ∙ ap (λ m. cond (nat_eq (c.loop-x.x / 4) q) (Some c.pass_word-in-None.new.word) (hash.get nat_eq m q)) c.get_mut.follows.holds-at-none)
          (ap (replicate 4) c.none-word.ensures ∙ ap (λ (o : Option (List Touch)). unwrap_or o (replicate 4 untouched)) fresh) (word_alike (λ (y : ℕ) (t : Touch). touched_from (slice_index_or c.ranks_read-ranks.result (y - c.args.a.now.address) 0) c.args.own c.args.a.now t) (λ (y : ℕ) (t : Touch). touched c.args.ranking.now y c.args.own c.args.a.now t) c.loop-x.x c.behind_in_word-behind.result (replicate 4 c.none-word.result) c.pass_word-in-None.new.word untouched
          (λ y t l m. touched_ranked c.args.ranking.now c.args.a.now c.ranks_read-ranks.result y c.args.own t c.requires.distinct c.ranks_read-ranks.ensures (omega (arith, l, c.loop-x.invariant.from)) (omega (arith, m, c.behind_in_word-behind.ensures.up_to, c.end_of-end.ensures))) c.pass_word-in-None.ensures) c.loop-x.invariant.touched;
      from = omega (arith, c.loop-x.invariant.from, c.behind_in_word-behind.ensures.further);
      up_to = c.behind_in_word-behind.ensures.up_to;
    }

pub loop-x-preserved-in-Some : goal.loop-x-preserved-in-Some
loop-x-preserved-in-Some c =
    let before = c.loop-x.touches in
    let found = c.in-Some.ensures.value in
    let word = c.pass_word.new.word in
    let put = (c.get_mut.follows.holds word).3 (search rules) in
    record {
      touched = next_word (λ (y : ℕ) (t : Touch). touched c.args.ranking.now y c.args.own c.args.a.now t) c.args.a.now.address c.loop-x.x c.behind_in_word-behind.result (hash.get nat_eq c.args.touches.now) (hash.get nat_eq before) (hash.get nat_eq (c.get_mut.follows.lender word)) untouched c.in-Some.word.now word c.loop-x.invariant.from c.behind_in_word-behind.ensures.further c.behind_in_word-behind.ensures.within
          put.0 (ap (λ (o : Option (List Touch)). unwrap_or o (replicate 4 untouched)) found) (word_alike (λ (y : ℕ) (t : Touch). touched_from (slice_index_or c.ranks_read-ranks.result (y - c.args.a.now.address) 0) c.args.own c.args.a.now t) (λ (y : ℕ) (t : Touch). touched c.args.ranking.now y c.args.own c.args.a.now t) c.loop-x.x c.behind_in_word-behind.result c.in-Some.word.now word untouched
          (λ y t l m. touched_ranked c.args.ranking.now c.args.a.now c.ranks_read-ranks.result y c.args.own t c.requires.distinct c.ranks_read-ranks.ensures (omega (arith, l, c.loop-x.invariant.from)) (omega (arith, m, c.behind_in_word-behind.ensures.up_to, c.end_of-end.ensures))) c.pass_word.ensures) c.loop-x.invariant.touched;
      from = omega (arith, c.loop-x.invariant.from, c.behind_in_word-behind.ensures.further);
      up_to = c.behind_in_word-behind.ensures.up_to;
    }
