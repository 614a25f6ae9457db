-- What a worker may count as it draws numbers, and applies an event for each that is below the limit.
use Rattle.std.proofs.Common.{◌≡◌, ◌∙◌, ⊎_elim, ap, ℕ, ◌+◌, ◌≤◌, List, arith}
use Rattle.std.specs.declared.result.Result.{Result}
use Rattle.host_threads.specs.Pace.{IsPaced}
use Rattle.locked_fabric.specs.FabricState.{Answered, Does, FabricState}
use Rattle.locked_fabric.specs.Turns.{Draws, DrewInVain, DrewNumber, Leaves}
use Rattle.locked_fabric.specs.declared.taken.Taken.{Taken}
use Rattle.locked_fabric.specs.declared.taken.Taken.TheVariants.{Nothing, Over, HeldBack, Tried}
use Rattle.locked_fabric.specs.Port.{Applied, Left, seat_of, share_of}
use Rattle.locked_fabric.specs.declared.port.Port.{Port}
use Rattle.machine_types.specs.declared.event.Event.{Event}
use Rattle.machine_types.specs.declared.outcome.Outcome.{Outcome}
use Rattle.machine_model.specs.Events.{Verdict, verdict}
use Rattle.machine_model.specs.Events.Verdict.{IsBad, Keeps, IsLimited, Moves}
use Rattle.locked_fabric.specs.ApplyError.{ApplyError}
use Rattle.progress_board.proofs.Below.{below-less, below-more}
use Rattle.progress_board.specs.Rule.{below}
use Rattle.progress_board.specs.Seat.{view}
use Rattle.progress_board.specs.declared.seat.Seat.{Seat}
use Rattle.progress_board.specs.declared.view.View.{View}

-- ---- numbers that are drawn

number_counts : (limit number : ℕ) (old new : View) → DrewNumber limit number old new → below limit new.drawn ≡ below limit old.drawn + 1
number_counts limit number old new drew = ap (λ (v : View). below limit v.drawn) drew.drawn ∙ below-more limit number old.drawn drew.low

none_is_lost : (limit : ℕ) (old new : View) → DrewInVain limit old new → below limit old.drawn ≤ below limit new.drawn
none_is_lost limit old new =
    ⊎_elim
    (λ drew. let more = below-less limit drew.0 old.drawn in let is = ap (λ (v : View). below limit v.drawn) drew.2 in omega (arith, more, is))
    (λ spent. omega (arith, ap (λ (v : View). below limit v.drawn) spent.1))

-- ---- an event counts at most once

book_grows : (v : Verdict) (event : Event) (old : FabricState) (result : Result Outcome ApplyError) (new : FabricState) → Does v event old result new → new.book ≤ old.book + 1
book_grows IsBad event old result new does = omega (arith, ap (λ (held : FabricState). held.book) does.1)
book_grows (Keeps o) event old result new does = omega (arith, ap (λ (held : FabricState). held.book) does.1)
book_grows IsLimited event old result new does = omega (arith, ap (λ (held : FabricState). held.book) does.1)
book_grows (Moves o moved) event old result new does = omega (arith, ap (λ (held : FabricState). held.book) does.1)

answer_counts : (event : Event) (result : Result Outcome ApplyError) (old new : FabricState) → Answered old event result new → new.book ≤ old.book + 1
answer_counts event result old new answered =
    ⊎_elim
    (λ kept. omega (arith, ap (λ (held : FabricState). held.book) kept.1))
    (book_grows (verdict old.machine event) event old result new)
    answered

pub counts_once : (event : Event) (result : Result Outcome ApplyError) (before after : ℕ) (new : FabricState) → Applied event result before after new → after ≤ before + 1
counts_once event result before after new applied = omega (arith, applied.counted, answer_counts event result applied.old new applied.answered)

-- ---- a turn under one lock

same_book : (found left : FabricState) (count counted : ℕ) → left ≡ found → counted + found.book ≡ count + left.book → counted ≡ count
same_book found left count counted same counts = omega (arith, counts, ap (λ (held : FabricState). held.book) same)

pub paced_took : (limit : ℕ) (taken : Taken) (found left : FabricState) (before after : View) (count counted : ℕ) → Leaves taken found left → Draws limit taken before after → counted + found.book ≡ count + left.book
    → IsPaced limit before count → IsPaced limit after counted
paced_took limit Nothing found left before after count counted leaves draws counts paced =
    omega (arith, paced, same_book found left count counted leaves counts, ap (λ (v : View). below limit v.drawn) draws)
paced_took limit Over found left before after count counted leaves draws counts paced =
    omega (arith, paced, same_book found left count counted leaves counts, none_is_lost limit before after draws)
paced_took limit (HeldBack number event) found left before after count counted leaves draws counts paced =
    omega (arith, paced, same_book found left count counted leaves counts, number_counts limit number before after draws)
paced_took limit (Tried number event came) found left before after count counted leaves draws counts paced =
    omega (arith, paced, counts, answer_counts event came found left leaves, number_counts limit number before after draws)

-- an event that is held back may still be counted
pub paced_back : (limit number : ℕ) (found left : FabricState) (before after : View) (count counted : ℕ) → DrewNumber limit number before after → left ≡ found → counted + found.book ≡ count + left.book
    → IsPaced limit before count → IsPaced limit after (counted + 1)
paced_back limit number found left before after count counted drew same counts paced =
    omega (arith, paced, same_book found left count counted same counts, number_counts limit number before after drew)

-- ---- a worker's port

-- its seat was lent to a call that draws nothing
pub paced_lent : {L : Type 0} (limit : ℕ) (port : Port L) (lent left : Seat) → lent ≡ seat_of port → (view left).drawn ≡ (view lent).drawn → IsPaced limit (view (seat_of port)) (share_of port)
    → IsPaced limit (view left) (share_of port)
paced_lent limit port lent left is same paced =
    omega (arith, paced, ap (λ (seat : Seat). below limit (view seat).drawn) is, ap (λ (drawn : List ℕ). below limit drawn) same)

-- it has applied the event that its last number allowed
pub paced_applied : {L : Type 0} (limit : ℕ) (event : Event) (result : Result Outcome ApplyError) (old new : Port L) → seat_of new ≡ seat_of old → Left (Applied event result (share_of old) (share_of new))
    → IsPaced limit (view (seat_of old)) (share_of old + 1) → IsPaced limit (view (seat_of new)) (share_of new)
paced_applied limit event result old new same left allowed =
    omega (arith, allowed, counts_once event result (share_of old) (share_of new) left.0 left.2, ap (λ (seat : Seat). below limit (view seat).drawn) same)
