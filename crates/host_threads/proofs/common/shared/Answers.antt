use Rattle.std.proofs.Common.{◌≡◌, ◌∙◌, ℕ, List, rules, length, map, ap, sym}
use Rattle.std.proofs.lemmas.List.{length-map}
use Rattle.std.proofs.lemmas.List.FromFn.{length-map-range_with_len}
use Rattle.std.specs.List.{range_with_len}
use Rattle.progress_board.specs.Rule.{new_view}
use Rattle.progress_board.specs.Seat.{view}
use Rattle.progress_board.specs.declared.view.View.{View}
use Rattle.host_threads.proofs.common.shared.Goals as goal

pub returns-clause-seats : goal.returns-clause-seats
returns-clause-seats c =
    let seats : length c.in_ok-board.seats.items ≡ c.args.config.harts = sym (length-map c.in_ok-board.seats.items view) ∙ ap (λ (views : List View). length views) c.in_ok-board.ensures.views ∙ length-map-range_with_len _ 0 c.args.config.harts in
    search rules

pub returns-clause-fresh : goal.returns-clause-fresh
returns-clause-fresh c =
    let views = c.in_ok-board.ensures.views in
    let seats : length c.in_ok-board.seats.items ≡ c.args.config.harts = sym (length-map c.in_ok-board.seats.items view) ∙ ap (λ (l : List View). length l) views ∙ length-map-range_with_len _ 0 c.args.config.harts in
    (c.args.config.harts, views ∙ ap (λ (n : ℕ). map (new_view c.args.config.harts) (range_with_len 0 n)) (sym seats))

pub returns-clause-board : goal.returns-clause-board
returns-clause-board c = c.in_ok-board.ensures.seats
