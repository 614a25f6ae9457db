use Rattle.std.proofs.Common.{◌≡◌, ◌∙◌, ap, false, inl, not, refl, subst, sym, ℕ, None, Some}
use Rattle.std.specs.Prelude.{◌⊎◌, ◌==◌, OnErr}
use Rattle.hart.specs.declared.state.Hart.{Hart}
use Rattle.host_threads.specs.Picking.{IsLeftOfPick, WasAnswered, WentAlone}
use Rattle.host_threads.proofs.Reasons.{fine, idle_reason, reason_of, run_out, uncounted, was_bad, was_spent}
use Rattle.host_threads.proofs.Pace.{paced_back, paced_lent, paced_took}
use Rattle.host_threads.proofs.Turning.{told_alone, turned}
use Rattle.host_threads.proofs.Telling.{drawn_untold, held_counts, is_picked, lent_untold, refused_counts, reports, same_of, seat_untold, taken_counts, tells_then, unchanged, untold_then}
use Rattle.host_threads.specs.Endings.{fault_of}
use Rattle.host_threads.specs.Telling.{CountsTo}
use Rattle.locked_fabric.specs.Port.{seat_of, share_of}
use Rattle.locked_fabric.specs.declared.taken.Taken.TheVariants.{Nothing, HeldBack, Tried}
use Rattle.progress_board.specs.Seat.{view}
use Rattle.progress_board.specs.declared.view.View.{View}
use Rattle.host_threads.proofs.worker.Worker.take_turn.Goals as goal

pub invariant_of-self-clause-paced : goal.invariant_of-self-clause-paced
invariant_of-self-clause-paced g c =
    paced_lent c.args.self.now.common.now.limit c.args.self.now.port c.seat.result.now c.halted.new.seat c.seat.ensures.now (ap (λ (v : View). v.drawn) c.halted.ensures.seen) c.args.self.now.paced

pub invariant_of-self-2 : goal.invariant_of-self-2
invariant_of-self-2 g c =
    let limit = c.args.self.now.common.now.limit in
    let paced = paced_lent limit c.args.self.now.port c.seat.result.now c.halted.new.seat c.seat.ensures.now (ap (λ (v : View). v.drawn) c.halted.ensures.seen) c.args.self.now.paced in
    let took = c.take.ensures.takes in
    let takes = took.2.4 in
    let untold = untold_then (view (seat_of c.args.self.now.port)) (view c.halted.new.seat) (view (seat_of c.take.new.self))
    (lent_untold c.seat.result.now (seat_of c.args.self.now.port) c.halted.new.seat c.halted.result c.seat.ensures.now c.halted.ensures.seen)
    (drawn_untold limit c.take.result (view c.halted.new.seat) (view (seat_of c.take.new.self)) takes.draws) in
    let self = c.args.self.now in
    let turn = took.2.2 in
    let picked = is_picked (turn.hart ≡ self.turn.hart) (λ machine left. IsLeftOfPick g.T.Turn.picks self.turn.hart self.turn.seen self.turn.turn machine self.last left turn.turn turn.is_stepping turn.stood) c.take.result took.2.0.machine takes.pick in
    record {
      own = (untold.hart ∙ c.args.self.now.own.0, same_of took.2.3 (λ turn. turn.hart) ∙ picked ∙ c.args.self.now.own.1);
      seated = c.take.ensures.seat;
      paced = paced_took limit c.take.result took.2.0 took.0 (view c.halted.new.seat) (view (seat_of c.take.new.self)) (share_of c.args.self.now.port) (share_of c.take.new.self) takes.leaves takes.draws takes.counts paced;
    }

pub go_alone-came-requires : goal.go_alone-came-requires
go_alone-came-requires g c =
    let limit = c.args.self.now.common.now.limit in
    let paced = paced_lent limit c.args.self.now.port c.seat.result.now c.halted.new.seat c.seat.ensures.now (ap (λ (v : View). v.drawn) c.halted.ensures.seen) c.args.self.now.paced in
    let took = c.in-HeldBack.ensures.takes in
    let takes = took.2.4 in
    paced_back limit c.in-HeldBack.number took.2.0 took.0 (view c.halted.new.seat) (view (seat_of c.take.new.self)) (share_of c.args.self.now.port) (share_of c.take.new.self) takes.draws takes.leaves takes.counts paced

-- ---- nothing was picked

pub returns-in-Nothing-clause-goes : goal.returns-in-Nothing-clause-goes
returns-in-Nothing-clause-goes g c = λ on.
    let took = c.in-Nothing.ensures.takes in
    let takes = took.2.4 in
    let count = share_of c.args.self.now.port in
    let untold = untold_then (view (seat_of c.args.self.now.port)) (view c.halted.new.seat) (view (seat_of c.take.new.self))
    (lent_untold c.seat.result.now (seat_of c.args.self.now.port) c.halted.new.seat c.halted.result c.seat.ensures.now c.halted.ensures.seen)
    (drawn_untold c.args.self.now.common.now.limit Nothing (view c.halted.new.seat) (view (seat_of c.take.new.self)) takes.draws) in
    let mine = takes.pick.0 ∙ c.args.self.now.own.1 in
    let saw = same_of took.2.3 (λ turn. turn.seen) in
    let same = held_counts took.2.0 took.0 count (share_of c.take.new.self) takes.leaves takes.counts in (
      took.0,
      took.1,
      reports c.args.self.now.hart took.2.2.hart count (share_of c.take.new.self) (share_of c.leave_out.new.self.port) false c.take.new.turn.seen (view (seat_of c.args.self.now.port)) (view (seat_of c.take.new.self)) (view (seat_of c.leave_out.new.self.port)) took.0
          (taken_counts Nothing took.2.0 took.0 count (share_of c.take.new.self) takes.leaves takes.counts) c.leave_out.ensures.counts (unchanged count (share_of c.take.new.self) same) saw mine untold (c.leave_out.ensures.tells on),
    )

pub returns-in-Nothing-clause-ends : goal.returns-in-Nothing-clause-ends
returns-in-Nothing-clause-ends g c = λ off.
    let took = c.in-Nothing.ensures.takes in
    let takes = took.2.4 in
    let first = view (seat_of c.args.self.now.port) in
    let drawn = view (seat_of c.take.new.self) in
    let untold = untold_then first (view c.halted.new.seat) drawn
    (lent_untold c.seat.result.now (seat_of c.args.self.now.port) c.halted.new.seat c.halted.result c.seat.ensures.now c.halted.ensures.seen)
    (drawn_untold c.args.self.now.common.now.limit Nothing (view c.halted.new.seat) drawn takes.draws) in (
      c.leave_out.ensures.counts ∙ held_counts took.2.0 took.0 (share_of c.args.self.now.port) (share_of c.take.new.self) takes.leaves takes.counts,
      tells_then false None first drawn (view (seat_of c.leave_out.new.self.port)) untold (c.leave_out.ensures.silent off),
    )

pub returns-in-Nothing-clause-reason : goal.returns-in-Nothing-clause-reason
returns-in-Nothing-clause-reason g c =
    let took = c.in-Nothing.ensures.takes in
    idle_reason c.args.self.now.common.now (view (seat_of c.leave_out.new.self.port)) c.take.new.turn.is_spent c.leave_out.result c.leave_out.ensures.ends
    (was_spent took.0 c.take.new.turn.is_spent took.1 (same_of took.2.3 (λ turn. turn.is_spent)))

pub returns-in-Nothing-clause-turn : goal.returns-in-Nothing-clause-turn
returns-in-Nothing-clause-turn g c = λ on.
    let took = c.in-Nothing.ensures.takes in
    let self = c.args.self.now in
    let picked = took.2.2 in
    let pick = took.2.4.pick in
    turned _ self.common.now.image self.hart self.turn.hart self.turn.seen self.turn.turn took.2.0.machine self.last None picked.turn c.leave_out.new.self.turn.turn picked.is_stepping picked.stood c.leave_out.new.self.last self.own.1
    (c.leave_out.ensures.turn ∙ same_of took.2.3 (λ turn. turn.turn)) pick.1 c.leave_out.ensures.last

-- ---- no number was left

pub returns-in-Over-clause-reason : goal.returns-in-Over-clause-reason
returns-in-Over-clause-reason g c = run_out c.args.self.now.common.now.limit (view c.halted.new.seat) (view (seat_of c.take.new.self)) c.in-Over.ensures.takes.2.4.draws

-- ---- it was held back

pub returns-in-HeldBack-clause-goes : goal.returns-in-HeldBack-clause-goes
returns-in-HeldBack-clause-goes g c = λ on.
    let took = c.in-HeldBack.ensures.takes in
    let takes = took.2.4 in
    let count = share_of c.args.self.now.port in
    let first = view (seat_of c.args.self.now.port) in
    let drawn = view (seat_of c.take.new.self) in
    let untold = untold_then first (view c.halted.new.seat) drawn
    (lent_untold c.seat.result.now (seat_of c.args.self.now.port) c.halted.new.seat c.halted.result c.seat.ensures.now c.halted.ensures.seen)
    (drawn_untold c.args.self.now.common.now.limit (HeldBack c.in-HeldBack.number c.in-HeldBack.event) (view c.halted.new.seat) drawn takes.draws) in
    let same = held_counts took.2.0 took.0 count (share_of c.take.new.self) takes.leaves takes.counts in
    let alone = c.go_alone-came.new.self in
    let back = untold_then first drawn (view (seat_of alone.port)) untold (seat_untold (seat_of c.take.new.self) (seat_of alone.port) c.go_alone-came.ensures.seat) in
    let changed = not (share_of alone.port == c.counted-before.result) in
    let last = view (seat_of c.go_on.new.self.port) in
    let left = c.go_alone-came.ensures.came (fine (fault_of c.go_alone-came.result) _ _ c.go_on.result c.go_on.ensures.ends on) in (
      left.0,
      left.1,
      reports c.args.self.now.hart c.args.self.now.hart count (share_of alone.port) (share_of c.go_on.new.self.port) changed alone.turn.seen first (view (seat_of alone.port)) last left.0
          (subst (λ (n : ℕ). CountsTo n (share_of alone.port) left.0) same left.2.0) c.go_on.ensures.counts (ap (λ (n : ℕ). not (share_of alone.port == n)) c.counted-before.ensures) left.2.1 refl back (c.go_on.ensures.tells on),
    )

pub returns-in-HeldBack-clause-ends : goal.returns-in-HeldBack-clause-ends
returns-in-HeldBack-clause-ends g c = λ off.
    let took = c.in-HeldBack.ensures.takes in
    let takes = took.2.4 in
    let count = share_of c.args.self.now.port in
    let first = view (seat_of c.args.self.now.port) in
    let drawn = view (seat_of c.take.new.self) in
    let untold = untold_then first (view c.halted.new.seat) drawn
    (lent_untold c.seat.result.now (seat_of c.args.self.now.port) c.halted.new.seat c.halted.result c.seat.ensures.now c.halted.ensures.seen)
    (drawn_untold c.args.self.now.common.now.limit (HeldBack c.in-HeldBack.number c.in-HeldBack.event) (view c.halted.new.seat) drawn takes.draws) in
    let same = held_counts took.2.0 took.0 count (share_of c.take.new.self) takes.leaves takes.counts in
    let port = c.go_alone-came.new.self.port in
    let back = untold_then first drawn (view (seat_of port)) untold (seat_untold (seat_of c.take.new.self) (seat_of port) c.go_alone-came.ensures.seat) in (
      c.go_on.ensures.counts
          ∙ (uncounted c.go_alone-came.result c.counted-before.result (share_of port) _ c.go_on.result c.go_on.ensures.ends off
          (subst (λ (n : ℕ). OnErr c.go_alone-came.result (share_of port ≡ n)) (same ∙ sym c.counted-before.ensures) c.go_alone-came.ensures.err)
          ∙ c.counted-before.ensures),
      tells_then false None first (view (seat_of port)) (view (seat_of c.go_on.new.self.port)) back (c.go_on.ensures.silent off),
    )

pub returns-in-HeldBack-clause-reason : goal.returns-in-HeldBack-clause-reason
returns-in-HeldBack-clause-reason g c =
    let came = c.go_alone-came in
    let spent = came.new.self.turn.is_spent in
    reason_of c.args.self.now.common.now (view (seat_of c.go_on.new.self.port)) came.result _ spent c.go_on.result c.go_on.ensures.ends
    (λ on. let left = came.ensures.came on in was_spent left.0 spent left.1 left.2.2) came.ensures.bad

pub returns-in-HeldBack-clause-turn : goal.returns-in-HeldBack-clause-turn
returns-in-HeldBack-clause-turn g c = λ on.
    let took = c.in-HeldBack.ensures.takes in
    let self = c.args.self.now in
    let picked = took.2.2 in
    let pick = took.2.4.pick in
    let event = c.in-HeldBack.event in
    let machine = took.2.0.machine in
    let came = c.go_alone-came in
    let stood = same_of took.2.3 (λ turn. turn.stood) in
    turned _ self.common.now.image self.hart self.turn.hart self.turn.seen self.turn.turn machine self.last (Some event) picked.turn c.go_on.new.self.turn.turn picked.is_stepping picked.stood c.go_on.new.self.last self.own.1
    (c.go_on.ensures.turn ∙ (came.ensures.turn ∙ same_of took.2.3 (λ turn. turn.turn))) pick.1
    (told_alone self.common.now.image self.hart self.turn.hart machine event picked.stood came.result c.go_on.new.self.last self.own.1 (pick.1.step (sym took.2.4.held))
    (subst (λ (at : Hart). WasAnswered event came.result ⊎ WentAlone self.common.now.image at came.result) stood (came.ensures.answered (fine (fault_of came.result) _ _ c.go_on.result c.go_on.ensures.ends on))) (c.go_on.ensures.last on))

-- ---- it was tried

pub returns-in-Tried-clause-goes : goal.returns-in-Tried-clause-goes
returns-in-Tried-clause-goes g c = λ on.
    let took = c.in-Tried.ensures.takes in
    let takes = took.2.4 in
    let count = share_of c.args.self.now.port in
    let first = view (seat_of c.args.self.now.port) in
    let drawn = view (seat_of c.take.new.self) in
    let untold = untold_then first (view c.halted.new.seat) drawn
    (lent_untold c.seat.result.now (seat_of c.args.self.now.port) c.halted.new.seat c.halted.result c.seat.ensures.now c.halted.ensures.seen)
    (drawn_untold c.args.self.now.common.now.limit (Tried c.in-Tried.number c.in-Tried.event c.in-Tried.came) (view c.halted.new.seat) drawn takes.draws) in
    let mine = takes.pick.0 ∙ c.args.self.now.own.1 in
    let saw = same_of took.2.3 (λ turn. turn.seen) in
    let counted = share_of c.take.new.self in
    let changed = not (counted == c.counted-before.result) in
    let last = view (seat_of c.go_on-in-Tried.new.self.port) in (
      took.0,
      took.1,
      reports c.args.self.now.hart took.2.2.hart count counted (share_of c.go_on-in-Tried.new.self.port) changed c.take.new.turn.seen first drawn last took.0
          (taken_counts (Tried c.in-Tried.number c.in-Tried.event c.in-Tried.came) took.2.0 took.0 count counted takes.leaves takes.counts) c.go_on-in-Tried.ensures.counts (ap (λ (n : ℕ). not (counted == n)) c.counted-before.ensures) saw mine untold (c.go_on-in-Tried.ensures.tells on),
    )

pub returns-in-Tried-clause-ends : goal.returns-in-Tried-clause-ends
returns-in-Tried-clause-ends g c = λ off.
    let took = c.in-Tried.ensures.takes in
    let takes = took.2.4 in
    let count = share_of c.args.self.now.port in
    let first = view (seat_of c.args.self.now.port) in
    let drawn = view (seat_of c.take.new.self) in
    let untold = untold_then first (view c.halted.new.seat) drawn
    (lent_untold c.seat.result.now (seat_of c.args.self.now.port) c.halted.new.seat c.halted.result c.seat.ensures.now c.halted.ensures.seen)
    (drawn_untold c.args.self.now.common.now.limit (Tried c.in-Tried.number c.in-Tried.event c.in-Tried.came) (view c.halted.new.seat) drawn takes.draws) in
    let counted = share_of c.take.new.self in (
      c.go_on-in-Tried.ensures.counts
          ∙ (uncounted c.in-Tried.came c.counted-before.result counted _ c.go_on-in-Tried.result c.go_on-in-Tried.ensures.ends off
          (subst (λ (n : ℕ). OnErr c.in-Tried.came (counted ≡ n)) (sym c.counted-before.ensures) (refused_counts c.in-Tried.event c.in-Tried.came took.2.0 took.0 count counted takes.leaves takes.counts))
          ∙ c.counted-before.ensures),
      tells_then false None first drawn (view (seat_of c.go_on-in-Tried.new.self.port)) untold (c.go_on-in-Tried.ensures.silent off),
    )

pub returns-in-Tried-clause-reason : goal.returns-in-Tried-clause-reason
returns-in-Tried-clause-reason g c =
    let took = c.in-Tried.ensures.takes in
    let spent = c.take.new.turn.is_spent in
    reason_of c.args.self.now.common.now (view (seat_of c.go_on-in-Tried.new.self.port)) c.in-Tried.came _ spent c.go_on-in-Tried.result c.go_on-in-Tried.ensures.ends
    (λ fault. was_spent took.0 spent took.1 (same_of took.2.3 (λ turn. turn.is_spent)))
    (was_bad c.in-Tried.event c.in-Tried.came took.2.0 took.0 took.2.1 took.2.4.leaves)

pub returns-in-Tried-clause-turn : goal.returns-in-Tried-clause-turn
returns-in-Tried-clause-turn g c = λ on.
    let took = c.in-Tried.ensures.takes in
    let self = c.args.self.now in
    let picked = took.2.2 in
    let pick = took.2.4.pick in
    let event = c.in-Tried.event in
    turned _ self.common.now.image self.hart self.turn.hart self.turn.seen self.turn.turn took.2.0.machine self.last (Some event) picked.turn c.go_on-in-Tried.new.self.turn.turn picked.is_stepping picked.stood c.go_on-in-Tried.new.self.last self.own.1
    (c.go_on-in-Tried.ensures.turn ∙ same_of took.2.3 (λ turn. turn.turn)) pick.1 (c.in-Tried.came, inl (took.2.0, took.2.1, took.0, took.2.4.leaves), c.go_on-in-Tried.ensures.last on)
