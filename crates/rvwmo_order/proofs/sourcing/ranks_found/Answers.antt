use Rattle.std.proofs.Common.{◌≡◌, ◌∙◌, ◌+◌, ℕ, ap, arith, cond, length, max, refl, set, sym, take}
use Rattle.std.specs.Prelude.{slice_index_or, sum_by}
use Rattle.std.proofs.lemmas.List.{length-set, take_all}
use Rattle.std.proofs.lemmas.List.FromFn.{get_or-range_with_len, length-range_with_len}
use Rattle.std.proofs.lemmas.List.Sums.{sum_by_more}
use Rattle.memory_model.specs.Operations.{addresses_of}
use Rattle.rvwmo_order.specs.Looks.{looks_at}
use Rattle.rvwmo_order.specs.Sourcing.{latest_at}
use Rattle.rvwmo_order.specs.declared.candidate.Candidate.{Candidate}
use Rattle.rvwmo_order.proofs.Kept.{ranks_next}
use Rattle.rvwmo_order.proofs.sourcing.ranks_found.Goals as goal

pub loop-offset-preserved : goal.loop-offset-preserved
loop-offset-preserved g c =
    let a = c.args.a.now in
    let k = c.loop-offset.offset in
    let latest = λ (i : ℕ). latest_at c.args.latest.now.words (a.address + i) in
    let own = λ (i : ℕ). slice_index_or c.args.own.now i 0 in
    let inside = c.loop-offset-test.true in
    let before : c.new-last.result.rank ≡ latest k = ap (λ (x : Candidate). x.rank) c.new-last.ensures ∙ c.ranks-before.ensures k (omega (arith, inside, c.requires)) inside in
    let mine : c.new.result.rank ≡ own k = ap (λ (x : Candidate). x.rank) c.new.ensures in
    let last : c.last_of.result ≡ max (latest k) (own k) = c.last_of.ensures.rank ∙ (ap (λ (n : ℕ). max n c.new.result.rank) before ∙ ap (λ (n : ℕ). max (latest k) n) mine) in
    let looks : looks_at c.new-last.result.rank c.new.result.rank ≡ looks_at (latest k) (own k) = ap (λ (n : ℕ). looks_at n c.new.result.rank) before ∙ ap (λ (n : ℕ). looks_at (latest k) n) mine in
    record {
      long = length-set c.loop-offset.ranks k c.last_of.result ∙ c.loop-offset.invariant.long;
      known = λ i l. ranks_next (λ (j rank : ℕ). rank ≡ max (latest j) (own j)) (k + 1) c.loop-offset.ranks (set c.loop-offset.ranks k c.last_of.result) k c.last_of.result c.loop-offset.invariant.long (omega (arith, inside, c.requires)) refl last (λ j m n. c.loop-offset.invariant.known j m) i l l;
      looks = λ most few.
          let count = length-range_with_len a.address a.size in
          let more = sum_by_more most (addresses_of a) k 0 (omega (arith, inside, count)) in
          let at = ap most (get_or-range_with_len a.address a.size k 0 inside) in
          let so_far = c.loop-offset.invariant.looks most few in
          let this = few k inside in
          omega (arith, more, at, so_far, this, looks, c.last_of.ensures.looks);
    }

pub returns-clause-looks : goal.returns-clause-looks
returns-clause-looks g c = λ most few.
    let a = c.args.a.now in
    let count = length-range_with_len a.address a.size in
    let all = ap (sum_by most) (take_all c.loop-offset.offset (addresses_of a) (omega (arith, count, c.loop-offset-test.false))) in
    let read = ap (λ b. cond b (sum_by most (addresses_of a)) 0) (sym c.reads.ensures ∙ c.if-not-reads.false) in
    omega (arith, all, read, c.loop-offset.invariant.looks most few)
