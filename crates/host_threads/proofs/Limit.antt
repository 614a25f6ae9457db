-- All threads together count no more events than the run's limit.
use Rattle.std.proofs.Common.{ℕ, ◌≤◌, List, [], ◌∷◌, arith, map, refl, sum}
use Rattle.std.proofs.lemmas.List.Elements.{All-cons, All-head, All-nil, All-rest}
use Rattle.std.proofs.lemmas.List.Sums.{sum_by-cons}
use Rattle.std.specs.List.{All}
use Rattle.host_threads.specs.Workers.{HandsBack}
use Rattle.host_threads.specs.declared.common.Common.{Common}
use Rattle.host_threads.specs.declared.worker.Done.{Done}
use Rattle.progress_board.proofs.Below.{all_below_limit, few_below}
use Rattle.progress_board.specs.Rule.{DrewBelow, below}
use Rattle.progress_board.specs.Seat.{IsSeatOf, view}
use Rattle.progress_board.specs.declared.seat.Seat.{Seat}
use Rattle.progress_board.specs.declared.view.View.{View}
use Rattle.store_buffer.proofs.Layouts.{sum-cons}

module _ {L : Type 0} where
  abbrev pub seats_of : List (Done L) → List Seat
  seats_of done = map (λ (one : Done L). one.seat) done

  abbrev pub counts_of : List (Done L) → List ℕ
  counts_of done = map (λ (one : Done L). one.share) done

  pub all_seats : (common : Common) (done : List (Done L)) → All (HandsBack common) done → All (IsSeatOf common.board) (seats_of done)
  all_seats common [] all = All-nil (IsSeatOf common.board)
  all_seats common (one ∷ done) all =
      All-cons (IsSeatOf common.board) one.seat (seats_of done) (All-head (HandsBack common) one done all).seat (all_seats common done (All-rest (HandsBack common) one done (one ∷ done) refl all))

  counts_within : (common : Common) (done : List (Done L)) → All (HandsBack common) done → sum (counts_of done) ≤ all_below_limit common.limit (map view (seats_of done))
  counts_within common [] all = omega arith
  counts_within common (one ∷ done) all =
      let first = (All-head (HandsBack common) one done all).paced in
      let rest = counts_within common done (All-rest (HandsBack common) one done (one ∷ done) refl all) in
      omega (arith, first, rest, sum-cons one.share (counts_of done), sum_by-cons (λ (v : View). below common.limit v.drawn) (view one.seat) (map view (seats_of done)))

  -- the numbers that they drew are those below some number, each once
  pub within_limit : (common : Common) (n : ℕ) (done : List (Done L)) → All (HandsBack common) done → DrewBelow (map view (seats_of done)) n → sum (counts_of done) ≤ common.limit
  within_limit common n done all drew = omega (arith, counts_within common done all, few_below common.limit n (map view (seats_of done)) drew)
