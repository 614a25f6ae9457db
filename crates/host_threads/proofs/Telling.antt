-- What counts in a worker's share behind each call of its port, and what the board is told then.
use Rattle.std.proofs.Common.{◌≡◌, ◌∙◌, ⊎_elim, ap, arith, inl, inr, refl, subst, sym, ℕ, ◌+◌, Bool, true, false, Option, Ok, Err}
use Rattle.std.proofs.lemmas.Bool.Decides.{nat_tests}
use Rattle.std.specs.Prelude.{◌||◌, ◌==◌, not, OnErr, OnOk}
use Rattle.std.specs.declared.result.Result.{Result}
use Rattle.locked_fabric.specs.Adopting.{local_of}
use Rattle.locked_fabric.specs.AdoptError.{AdoptError}
use Rattle.hart.specs.Local.{PrivateRow}
use Rattle.hart.specs.declared.status.Status.{Status}
use Rattle.host_threads.specs.Endings.{is_spent}
use Rattle.host_threads.specs.Telling.{CountsTo, Reports, Tells, is_done, longest_with}
use Rattle.locked_fabric.specs.FabricState.{Answered, Does, FabricState, journalled}
use Rattle.locked_fabric.specs.Port.{Applied, Committed, Left, seen_in}
use Rattle.locked_fabric.specs.Turns.{Draws, DrewInVain, IsPick, Leaves}
use Rattle.locked_fabric.specs.declared.taken.Taken.{Taken}
use Rattle.locked_fabric.specs.declared.taken.Taken.TheVariants.{Nothing, Over, HeldBack, Tried}
use Rattle.machine_types.specs.declared.event.Event.{Event}
use Rattle.machine_types.specs.declared.outcome.Outcome.{Outcome}
use Rattle.machine_model.specs.Events.{Verdict, verdict}
use Rattle.machine_model.specs.Events.Verdict.{IsBad, Keeps, IsLimited, Moves}
use Rattle.machine_model.specs.Views.{State}
use Rattle.locked_fabric.specs.ApplyError.{ApplyError}
use Rattle.progress_board.specs.Seat.{view}
use Rattle.progress_board.specs.declared.seat.Seat.{Seat}
use Rattle.progress_board.specs.declared.view.View.{View}

-- ---- what counts

counts_none : (old new : FabricState) (count counted : ℕ) → new ≡ old → counted + old.book ≡ count + new.book → CountsTo count counted new
counts_none old new count counted same counts = inl (omega (arith, counts, ap (λ (held : FabricState). held.book) same))

counts_one : (event : Event) (old new : FabricState) (moved : State) (count counted : ℕ) → new ≡ journalled old event moved → counted + old.book ≡ count + new.book → CountsTo count counted new
counts_one event old new moved count counted is counts =
    inr (omega (arith, counts, ap (λ (held : FabricState). held.book) is), (event, (old.journal, ap (λ (held : FabricState). held.journal) is)))

by_verdict : (v : Verdict) (event : Event) (old new : FabricState) (result : Result Outcome ApplyError) (count counted : ℕ) → Does v event old result new → counted + old.book ≡ count + new.book → CountsTo count counted new
by_verdict IsBad event old new result count counted does counts = counts_none old new count counted does.1 counts
by_verdict (Keeps o) event old new result count counted does counts = counts_none old new count counted does.1 counts
by_verdict IsLimited event old new result count counted does counts = counts_none old new count counted does.1 counts
by_verdict (Moves o moved) event old new result count counted does counts = counts_one event old new moved count counted does.1 counts

by_answer : (event : Event) (old new : FabricState) (result : Result Outcome ApplyError) (count counted : ℕ) → Answered old event result new → counted + old.book ≡ count + new.book → CountsTo count counted new
by_answer event old new result count counted answered counts =
    ⊎_elim
    (λ kept. counts_none old new count counted kept.1 counts)
    (λ does. by_verdict (verdict old.machine event) event old new result count counted does counts)
    answered

pub applied_counts : (event : Event) (result : Result Outcome ApplyError) (count counted : ℕ) (left : FabricState) → Applied event result count counted left → CountsTo count counted left
applied_counts event result count counted left applied = by_answer event applied.old left result count counted applied.answered applied.counted

pub taken_counts : (taken : Taken) (found left : FabricState) (count counted : ℕ) → Leaves taken found left → counted + found.book ≡ count + left.book → CountsTo count counted left
taken_counts Nothing found left count counted leaves counts = counts_none found left count counted leaves counts
taken_counts Over found left count counted leaves counts = counts_none found left count counted leaves counts
taken_counts (HeldBack number event) found left count counted leaves counts = counts_none found left count counted leaves counts
taken_counts (Tried number event came) found left count counted leaves counts = by_answer event found left came count counted leaves counts

-- where nothing is applied, nothing counts
pub held_counts : (found left : FabricState) (count counted : ℕ) → left ≡ found → counted + found.book ≡ count + left.book → counted ≡ count
held_counts found left count counted same counts = omega (arith, counts, ap (λ (held : FabricState). held.book) same)

refused : (v : Verdict) (event : Event) (error : ApplyError) (old new : FabricState) → Does v event old (Err error) new → new ≡ old
refused IsBad event error old new does = does.1
refused (Keeps o) event error old new does = does.1
refused IsLimited event error old new does = does.1
refused (Moves o moved) event error old new does = absurd (cc (does.0))

-- an error counts nothing
pub refused_counts : (event : Event) (came : Result Outcome ApplyError) (found left : FabricState) (count counted : ℕ) → Answered found event came left → counted + found.book ≡ count + left.book → OnErr came (counted ≡ count)
refused_counts event (Ok outcome) found left count counted answered counts = tt
refused_counts event (Err error) found left count counted answered counts =
    held_counts found left count counted (⊎_elim (λ kept. kept.1) (λ does. refused (verdict found.machine event) event error found left does) answered) counts

-- ---- what was seen

-- what is the same has the same parts
pub same_of : {W V : Type 0} {a b : W} → a ≡ b → (f : W → V) → f a ≡ f b
same_of e f = ap f e

-- whatever the turn came to, what holds of each pick holds of it
pub is_picked : (P : Type 0) (Q : State → Option Event → Type 0) (taken : Taken) (found : State) → IsPick (λ machine event. P × Q machine event) taken found → P
is_picked P Q Nothing found pick = pick.0
is_picked P Q Over found pick = pick.1.0
is_picked P Q (HeldBack number event) found pick = pick.0
is_picked P Q (Tried number event came) found pick = pick.0

-- an event that was applied once nothing had counted
pub applied_seen : (event : Event) (result : Result Outcome ApplyError) (before count counted own hart : ℕ) (seen : Option (ℕ × Status)) (spent : Bool) → count ≡ before → own ≡ hart
    → Left (λ left. Applied event result count counted left × (seen ≡ seen_in left.machine.trace own) × (spent ≡ is_spent left.machine))
    → Left (λ left. CountsTo before counted left × (seen ≡ seen_in left.machine.trace hart) × (spent ≡ is_spent left.machine))
applied_seen event result before count counted own hart seen spent same mine left = (
  left.0,
  left.1,
  (
    subst (λ (n : ℕ). CountsTo n counted left.0) same (applied_counts event result count counted left.0 left.2.0),
    left.2.1 ∙ ap (λ (h : ℕ). seen_in left.0.machine.trace h) mine,
    left.2.2,
  ),
)

-- what was seen under the lock that took a row
pub committed_seen : (row : PrivateRow) (result : Result Outcome AdoptError) (before counted own hart : ℕ) (seen : Option (ℕ × Status)) (spent : Bool) → own ≡ hart
    → Left (λ left. Committed row result before counted left × (seen ≡ seen_in left.machine.trace own) × (spent ≡ is_spent left.machine))
    → OnOk result (Left (λ left. CountsTo before counted left × (seen ≡ seen_in left.machine.trace hart) × (spent ≡ is_spent left.machine)))
committed_seen row (Ok outcome) before counted own hart seen spent mine left = (
  left.0,
  left.1,
  (
    counts_one (local_of row.first.id row) left.2.0.old left.0 left.0.machine before counted left.2.0.ok left.2.0.counted,
    left.2.1 ∙ ap (λ (h : ℕ). seen_in left.0.machine.trace h) mine,
    left.2.2,
  ),
)
committed_seen row (Err error) before counted own hart seen spent mine left = tt

-- ---- what a draw leaves

-- nothing was told
pub record IsUntold (old new : View) : Type 0 where
  pub hart : new.hart ≡ old.hart
  pub longest : new.longest ≡ old.longest
  pub halted : new.halted ≡ old.halted

in_vain : (limit : ℕ) (old new : View) → DrewInVain limit old new → IsUntold old new
in_vain limit old new =
    ⊎_elim
    (λ drew. record { hart = ap (λ (v : View). v.hart) drew.2; longest = ap (λ (v : View). v.longest) drew.2; halted = ap (λ (v : View). v.halted) drew.2 })
    (λ spent. record { hart = ap (λ (v : View). v.hart) spent.1; longest = ap (λ (v : View). v.longest) spent.1; halted = ap (λ (v : View). v.halted) spent.1 })

pub drawn_untold : (limit : ℕ) (taken : Taken) (old new : View) → Draws limit taken old new → IsUntold old new
drawn_untold limit Nothing old new draws = record { hart = ap (λ (v : View). v.hart) draws; longest = ap (λ (v : View). v.longest) draws; halted = ap (λ (v : View). v.halted) draws }
drawn_untold limit Over old new draws = in_vain limit old new draws
drawn_untold limit (HeldBack number event) old new draws = record { hart = ap (λ (v : View). v.hart) draws.drawn; longest = ap (λ (v : View). v.longest) draws.drawn; halted = ap (λ (v : View). v.halted) draws.drawn }
drawn_untold limit (Tried number event came) old new draws = record { hart = ap (λ (v : View). v.hart) draws.drawn; longest = ap (λ (v : View). v.longest) draws.drawn; halted = ap (λ (v : View). v.halted) draws.drawn }

pub untold_then : (old mid new : View) → IsUntold old mid → IsUntold mid new → IsUntold old new
untold_then old mid new first second = record { hart = second.hart ∙ first.hart; longest = second.longest ∙ first.longest; halted = second.halted ∙ first.halted }

-- the seat was lent to a look at the bits
pub lent_untold : (lent seat left : Seat) (bits : ℕ) → lent ≡ seat → view left ≡ record (view lent) { bits_seen = bits } → IsUntold (view seat) (view left)
lent_untold lent seat left bits is seen = record {
  hart = ap (λ (v : View). v.hart) seen ∙ ap (λ (s : Seat). (view s).hart) is;
  longest = ap (λ (v : View). v.longest) seen ∙ ap (λ (s : Seat). (view s).longest) is;
  halted = ap (λ (v : View). v.halted) seen ∙ ap (λ (s : Seat). (view s).halted) is;
}

pub seat_untold : (old mid : Seat) → mid ≡ old → IsUntold (view old) (view mid)
seat_untold old mid is = record { hart = ap (λ (s : Seat). (view s).hart) is; longest = ap (λ (s : Seat). (view s).longest) is; halted = ap (λ (s : Seat). (view s).halted) is }

-- what is told behind that is told of what was before
pub tells_then : (changed : Bool) (seen : Option (ℕ × Status)) (old mid new : View) → IsUntold old mid → Tells changed seen mid new → Tells changed seen old new
tells_then true seen old mid new untold tells = record { length = tells.length ∙ ap (λ (n : ℕ). longest_with seen n) untold.longest; bit = tells.bit ∙ ap (λ (b : Bool). is_done seen || b) untold.halted }
tells_then false seen old mid new untold tells = record { length = tells.length ∙ untold.longest; bit = tells.bit ∙ ap (λ (b : Bool). is_done seen || b) untold.halted }

-- ---- a turn

pub unchanged : (count counted : ℕ) → counted ≡ count → false ≡ not (counted == count)
unchanged count counted same = subst (λ (n : ℕ). false ≡ not (n == count)) (sym same) (ap not (sym (true_of count)))
  where
    true_of : (n : ℕ) → (n == n) ≡ true
    true_of n = let same : n ≡ n = refl in grind (arith, nat_tests)

pub reports : (hart own count counted ended : ℕ) (changed : Bool) (seen : Option (ℕ × Status)) (old mid new : View) (left : FabricState)
    → CountsTo count counted left → ended ≡ counted → changed ≡ not (counted == count) → seen ≡ seen_in left.machine.trace own → own ≡ hart → IsUntold old mid → Tells changed seen mid new
    → Reports hart count ended old new left
reports hart own count counted ended changed seen old mid new left counts same is saw mine untold tells =
    let at : seen ≡ seen_in left.machine.trace hart = saw ∙ ap (λ (h : ℕ). seen_in left.machine.trace h) mine in
    let change : changed ≡ not (ended == count) = is ∙ ap (λ (n : ℕ). not (n == count)) (sym same) in
    record {
      counts = subst (λ (n : ℕ). CountsTo count n left) (sym same) counts;
      tells = subst (λ (s : Option (ℕ × Status)). Tells (not (ended == count)) s old new) at (subst (λ (b : Bool). Tells b seen old new) change (tells_then changed seen old mid new untold tells));
    }
