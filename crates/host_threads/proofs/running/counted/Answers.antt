use Rattle.std.proofs.Common.{◌≡◌, ◌≤◌, ◌∙◌, ℕ, All, List, ap, arith, length, map, subst, sum, sym}
use Rattle.std.proofs.lemmas.List.{length-map}
use Rattle.host_threads.proofs.Limit.{all_seats, within_limit}
use Rattle.progress_board.specs.Rule.{DrewBelow}
use Rattle.progress_board.specs.Seat.{IsSeatOf, harts_of, view}
use Rattle.progress_board.specs.declared.seat.Seat.{Seat}
use Rattle.host_threads.proofs.running.counted.Goals as goal

pub settle-numbers-requires-clause-board : goal.settle-numbers-requires-clause-board
settle-numbers-requires-clause-board g c =
    let common = c.args.common.now in
    subst (All (IsSeatOf common.board)) (sym c.in_ok-seats.ensures.seats) (all_seats common c.in_ok-done.done.items c.in_ok-done.ensures.back)

pub returns-clause-harts : goal.returns-clause-harts
returns-clause-harts g c =
    let done : length c.in_ok-done.done.items ≡ harts_of c.args.common.now.board = omega (arith, c.in_ok-done.ensures.done, c.in_ok-done.done.ok, c.requires.made) in
    ap (λ (counts : List ℕ). length counts) c.in_ok-seats.ensures.shares ∙ length-map c.in_ok-done.done.items (λ one. one.share) ∙ done

pub returns-clause-limit : goal.returns-clause-limit
returns-clause-limit g c =
    let drew = subst (λ (seats : List Seat). DrewBelow (map view seats) c.settle-numbers.result) c.in_ok-seats.ensures.seats c.settle-numbers.ensures in
    subst (λ (counts : List ℕ). sum counts ≤ c.args.common.now.limit) (sym c.in_ok-seats.ensures.shares)
    (within_limit c.args.common.now c.settle-numbers.result c.in_ok-done.done.items c.in_ok-done.ensures.back drew)
