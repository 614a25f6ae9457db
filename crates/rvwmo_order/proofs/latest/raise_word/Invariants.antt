use Rattle.std.proofs.Common.{◌≡◌, ℕ, ◌/◌, ◌%◌, length, max}
use Rattle.std.specs.Prelude.{slice_index_or}
use Rattle.rvwmo_order.proofs.Words.{passed}
use Rattle.rvwmo_order.proofs.latest.raise_word.Given as goal

-- the bytes so far have the rank
abbrev pub invariant-loop-x : goal.invariant-loop-x
invariant-loop-x l = record {
  bytes : (q : ℕ) → q / 4 ≡ l.first / 4 → slice_index_or l.word (q % 4) 0 ≡ passed (λ y n. max n l.rank) l.first l.x q (slice_index_or l.fn.word (q % 4) 0);
  long : length l.word ≡ 4;
}
