use Rattle.std.proofs.Common.{◌≡◌, ◌∙◌, ◌∷◌, ◌++◌, [], List, IfSome, ap, arith, map, rules, subst, sym}
use Rattle.std.proofs.lemmas.List.{nil_from_length}
use Rattle.std.proofs.lemmas.List.Elements.{All-head, All-pop, All-rest}
use Rattle.std.specs.List.{All}
use Rattle.std.specs.Option.{option_to_list}
use Rattle.std.specs.Vec.Iter.{into_iter_items}
use Rattle.progress_board.specs.declared.seat.Seat.{Seat}
use Rattle.progress_board.specs.Seat.{IsSeatOf, harts_of, view}
use Rattle.progress_board.proofs.Settling.{Gathers, gathered, gathers_first, gathers_more, joins, settles}
use Rattle.progress_board.proofs.board.Board.settle.Goals as goal

pub loop-seat-init : goal.loop-seat-init
loop-seat-init c =
    let board = c.args.self.now in
    let rest = c.pop.new.self.items in
    let popped = All-pop (IsSeatOf board) c.args.seats.items rest c.pop.result c.pop.ensures.items c.requires.board in
    let own : IsSeatOf board c.in-Some.field-0 = subst (λ one. IfSome one (IsSeatOf board)) c.in-Some.is popped.1 in
    let items : c.args.seats.items ≡ rest ++ c.in-Some.field-0 ∷ [] = c.pop.ensures.items ∙ ap (λ one. rest ++ option_to_list one) c.in-Some.is in
    record {
      next = search rules;
      finite = search rules;
      same = search rules;
      board = subst (All (IsSeatOf board)) (sym c.into_iter-seat-iterator.ensures.into_iter_gives.0) popped.0;
      gathers = subst (λ (left : List Seat). Gathers (harts_of board) (map view c.args.seats.items) c.in-Some.field-0.place.me.0 (map view left)) (sym c.into_iter-seat-iterator.ensures.into_iter_gives.0)
          (gathers_first (harts_of board) c.args.seats.items rest c.in-Some.field-0 c.in-Some.field-0.place.me.0 items (search rules) (search rules) (search rules) (omega (arith, c.requires.all, c.args.seats.ok)));
    }

pub join_seat-requires : goal.join_seat-requires
join_seat-requires c =
    let board = c.args.self.now in (
      c.loop-seat.invariant.same,
      All-head (IsSeatOf board) _ _ (subst (All (IsSeatOf board)) c.in-Some-seat.ensures.steps.0 c.loop-seat.invariant.board),
      c.in-Some-seat.seat.bare,
      search rules,
      joins c.loop-seat.all.id c.in-Some-seat.seat.place.id c.loop-seat.all.me.0 c.in-Some-seat.seat.place.me.0 c.loop-seat.invariant.gathers.acts,
    )

pub loop-seat-preserved : goal.loop-seat-preserved
loop-seat-preserved c =
    let board = c.args.self.now in
    let next = c.in-Some-seat.ensures.steps.0 in
    let gathers = subst (λ (left : List Seat). Gathers (harts_of board) (map view c.args.seats.items) c.loop-seat.all.me.0 (map view left)) next c.loop-seat.invariant.gathers in
    record {
      next = search rules;
      finite = search rules;
      same = search rules;
      board = All-rest (IsSeatOf board) _ _ _ next c.loop-seat.invariant.board;
      gathers = subst (λ all. Gathers (harts_of board) (map view c.args.seats.items) all (map view (into_iter_items c.next.new.self))) (sym (search rules))
          (gathers_more (harts_of board) (map view c.args.seats.items) c.loop-seat.all.me.0 (view c.in-Some-seat.seat) (map view (into_iter_items c.next.new.self)) c.in-Some-seat.seat.one gathers);
    }

pub load-requires : goal.load-requires
load-requires c = (c.loop-seat.invariant.same, search rules, settles _ c.loop-seat.all.id c.loop-seat.all.me c.loop-seat.invariant.gathers.acts)

pub returns : goal.returns
returns c =
    let board = c.args.self.now in
    let none : into_iter_items c.loop-seat.seat-iterator ≡ [] = nil_from_length (into_iter_items c.loop-seat.seat-iterator) (search rules) in
    let gathers = subst (λ (left : List Seat). Gathers (harts_of board) (map view c.args.seats.items) c.loop-seat.all.me.0 (map view left)) none c.loop-seat.invariant.gathers in
    gathered (harts_of board) c.load.result (map view c.args.seats.items) c.loop-seat.all.me.0 gathers c.load.ensures.2
