use Rattle.std.proofs.Common.{◌∙◌, ◌/◌, ℕ, List, Option, Some, ap, arith, cond, max, replicate, rules}
use Rattle.std.specs.Prelude.{nat_eq, unwrap_or}
use Rattle.std.specs.HashMap as hash
use Rattle.rvwmo_order.proofs.Words.{next_word}
use Rattle.rvwmo_order.proofs.latest.Latest.raise.Goals as goal

pub loop-x-preserved : goal.loop-x-preserved
loop-x-preserved c =
    let before = c.loop-x.self.words in
    let fresh = c.in-None.ensures.value in
    record {
      raised = next_word (λ (y n : ℕ). max n c.args.rank) c.args.a.now.address c.loop-x.x c.behind_in_word-behind.result (hash.get nat_eq c.args.self.now.words) (hash.get nat_eq before) (hash.get nat_eq c.insert.new.self) 0 (replicate 4 0) c.raise_word-in-None.new.word c.loop-x.invariant.from c.behind_in_word-behind.ensures.further c.behind_in_word-behind.ensures.within
          (λ q. c.in_ok-insert-in-None.ensures.updates.0 q ∙ ap (λ m. cond (nat_eq (c.loop-x.x / 4) q) (Some c.raise_word-in-None.new.word) (hash.get nat_eq m q)) c.get_mut.follows.holds-at-none)
          (ap (λ (o : Option (List ℕ)). unwrap_or o (replicate 4 0)) fresh) c.raise_word-in-None.ensures c.loop-x.invariant.raised;
      from = omega (arith, c.loop-x.invariant.from, c.behind_in_word-behind.ensures.further);
      up_to = c.behind_in_word-behind.ensures.up_to;
    }

pub loop-x-preserved-in-Some : goal.loop-x-preserved-in-Some
loop-x-preserved-in-Some c =
    let before = c.loop-x.self.words in
    let found = c.in-Some.ensures.value in
    let word = c.raise_word.new.word in
    let put = (c.get_mut.follows.holds word).3 (search rules) in
    record {
      raised = next_word (λ (y n : ℕ). max n c.args.rank) c.args.a.now.address c.loop-x.x c.behind_in_word-behind.result (hash.get nat_eq c.args.self.now.words) (hash.get nat_eq before) (hash.get nat_eq (c.get_mut.follows.lender word)) 0 c.in-Some.word.now word c.loop-x.invariant.from c.behind_in_word-behind.ensures.further c.behind_in_word-behind.ensures.within
          put.0 (ap (λ (o : Option (List ℕ)). unwrap_or o (replicate 4 0)) found) c.raise_word.ensures c.loop-x.invariant.raised;
      from = omega (arith, c.loop-x.invariant.from, c.behind_in_word-behind.ensures.further);
      up_to = c.behind_in_word-behind.ensures.up_to;
    }
