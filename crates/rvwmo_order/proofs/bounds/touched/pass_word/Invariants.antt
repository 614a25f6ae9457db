use Rattle.std.proofs.Common.{◌≡◌, ℕ, ◌-◌, ◌/◌, ◌%◌, length}
use Rattle.std.specs.Prelude.{slice_index_or}
use Rattle.rvwmo_order.specs.Touched.{touched_from, untouched}
use Rattle.rvwmo_order.proofs.Words.{passed}
use Rattle.rvwmo_order.proofs.bounds.touched.pass_word.Given as goal

-- the bytes so far have the operation
abbrev pub invariant-loop-x : goal.invariant-loop-x
invariant-loop-x l = record {
  bytes : (q : ℕ) → q / 4 ≡ l.first / 4 → slice_index_or l.word (q % 4) untouched ≡ passed (λ y t. touched_from (slice_index_or l.ranks (y - l.a.address) 0) l.own l.a t) l.first l.x q (slice_index_or l.fn.word (q % 4) untouched);
  long : length l.word ≡ 4;
}
