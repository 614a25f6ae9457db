use Rattle.std.proofs.Common.{◌≡◌, ◌∙◌, ◌-◌, ℕ, IfSome, ap, arith, length, rules, subst, sym}
use Rattle.std.proofs.lemmas.List.Elements.{All-pop, All-push}
use Rattle.std.specs.List.{All}
use Rattle.progress_board.specs.declared.seat.Seat.{Seat}
use Rattle.progress_board.specs.Seat.{IsSeatOf, view}
use Rattle.host_threads.specs.Workers.{common_of, counted_by, told_by, turn_of}
use Rattle.host_threads.proofs.Dealt.{dealt, dealt_out}
use Rattle.host_threads.proofs.Fresh.{fresh_pop}
use Rattle.host_threads.proofs.crew.workers.Goals as goal

pub loop-hart-preserved : goal.loop-hart-preserved
loop-hart-preserved g c = record {
  board = (All-pop (λ (seat : Seat). IsSeatOf c.args.common.now.board seat) _ _ _ c.pop.ensures.items c.loop-hart.invariant.board).0;
  opening = (All-pop (λ (share : ℕ). share ≡ 0) _ _ _ c.pop-in-loop-hart.ensures.items c.loop-hart.invariant.opening).0;
  common = subst (All (λ worker. common_of worker ≡ c.args.common.now)) (sym c.push_reserved.ensures.items)
      (All-push (λ worker. common_of worker ≡ c.args.common.now) _ _ c.loop-hart.invariant.common c.new.ensures.common);
  opened = subst (All (λ worker. counted_by worker ≡ 0)) (sym c.push_reserved.ensures.items)
      (All-push (λ worker. counted_by worker ≡ 0) _ _ c.loop-hart.invariant.opened c.new.ensures.share);
  told = dealt view told_by _ _ _ _ _ _ _ _ c.pop.ensures.items c.in-Some.is c.push_reserved.ensures.items (c.new.ensures.seat ∙ ap view c.new-port.ensures.seat) c.loop-hart.invariant.told;
  dealt = dealt_out turn_of _ _ _ _ _ _ _ _ c.pop-in-loop-hart-2.ensures.items c.in-Some-pop-2.is c.push_reserved.ensures.items c.new.ensures.turn c.loop-hart.invariant.dealt;
  fresh = (fresh_pop _ _ _ c.pop.ensures.items c.loop-hart.invariant.fresh).0;
  seats = omega (arith, c.in-Some.ensures.len);
  shares = omega (arith, c.in-Some-pop.ensures.len);
  turns = search rules;
  made = omega arith;
  room = omega arith;
}

pub new-requires-clause-seat : goal.new-requires-clause-seat
new-requires-clause-seat g c =
    let board = c.args.common.now.board in
    let popped = (All-pop (λ (seat : Seat). IsSeatOf board seat) _ _ _ c.pop.ensures.items c.loop-hart.invariant.board).1 in
    let own = subst (λ one. IfSome one (λ (seat : Seat). IsSeatOf board seat)) c.in-Some.is popped in
    subst (λ (seat : Seat). IsSeatOf board seat) (sym c.new-port.ensures.seat) own

pub new-requires-clause-share : goal.new-requires-clause-share
new-requires-clause-share g c =
    let popped = (All-pop (λ (share : ℕ). share ≡ 0) _ _ _ c.pop-in-loop-hart.ensures.items c.loop-hart.invariant.opening).1 in
    c.new-port.ensures.share ∙ subst (λ one. IfSome one (λ (share : ℕ). share ≡ 0)) c.in-Some-pop.is popped

pub new-requires-clause-hart : goal.new-requires-clause-hart
new-requires-clause-hart g c =
    let popped = (fresh_pop _ _ _ c.pop.ensures.items c.loop-hart.invariant.fresh).1 in
    let own = subst (λ one. IfSome one (λ (seat : Seat). (view seat).hart ≡ length c.pop.new.self.items)) c.in-Some.is popped in
    let left : length c.pop.new.self.items ≡ c.loop-hart.hart - 1 = search rules in
    ap (λ (seat : Seat). (view seat).hart) c.new-port.ensures.seat ∙ own ∙ left
