-- What waits in a queue is of a line of memory, and the data that it carries are the whole line.
use Rattle.std.proofs.Common.{ℕ, suc, ◌+◌, ◌-◌, ◌/◌, ◌^◌, ◌<◌, Bool, true, false, List, [], ◌∷◌, ◌≡◌, Option, Some, None, refl, ap, sym, ◌∙◌, subst, length}
use Rattle.std.specs.Prelude.{◌==◌, if◌then◌else◌, slice_get}
use Rattle.std.specs.List.{AllByRecursion, filter}
use Rattle.std.proofs.lemmas.Bool.{eq-eqb}
use Rattle.std.proofs.Math.Nat.{mod-lt}
use native.Mathlib.Omega.{arith}
use Rattle.directory.specs.Directory.{line_at}
use Rattle.directory.specs.Lines.{known_at, unknown}
use Rattle.elf_loader.specs.Image.{IsImage}
use Rattle.machine_model.specs.Events.{is_piece}
use Rattle.machine_model.specs.Ranges.{CarriesWhole, IsWhole}
use Rattle.machine_model.specs.Views.{State, line_size, node_at, place_of}
use Rattle.machine_model.proofs.bytes.Always.{Joint}
use Rattle.machine_model.proofs.coherence.LineHeads.{queue_in}
use Rattle.machine_model.proofs.coherence.LineStands.{Side, quiet_side, Part, Stands, Asks, Leaves, Left, HoldsProbed, AsksProbed, LeavesProbed, LeftProbed, HoldsAnswered, AsksAnswered, LeavesAnswered, Receives, Upgrades, HoldsGranted, AsksGranted, LeavesGranted, LeftGranted}
use Rattle.machine_model.proofs.coherence.LineViews.{of_line}
use Rattle.machine_model.proofs.coherence.WorldFits.{kit_at}
use Rattle.machine_model.proofs.coherence.WorldKept.{side}
use Rattle.memory_model.specs.Operations.{stores_to}
use Rattle.memory_model.specs.Order.{byte_from, last_of}
use Rattle.memory_model.specs.Traces.{image_of, instructions, last_performed, operations_at}
use Rattle.memory_model.specs.declared.operation.Operation.{Operation}
use Rattle.tilelink_channels.specs.Queues.{queue_of}
use Rattle.tl_types.specs.Line.{bytes_of, length_of}
use Rattle.tl_types.specs.declared.line.LineData.{LineData}
use Rattle.tl_types.specs.declared.message.Body.{Body}
use Rattle.tl_types.specs.declared.message.Body.TheVariants.{ProbeAckData, ReleaseData, GrantData}
use Rattle.tl_types.specs.declared.message.Channel.{Channel}
use Rattle.tl_types.specs.declared.message.Channel.TheVariants.{A, B, C, D, E}
use Rattle.tl_types.specs.declared.message.Msg.{Msg}

-- ---- bytes

same_some : (x y : ℕ) → Some x ≡ Some y → x ≡ y
same_some x y e = cc e

all_below : (xs : List ℕ) (f : ℕ → ℕ) → ((k : ℕ) → k < length xs → slice_get xs k ≡ Some (f k)) → ((k : ℕ) → f k < 256) → AllByRecursion (λ b. b < 256) xs
all_below [] f at small = tt
all_below (x ∷ xs) f at small = (subst (λ b. b < 256) (sym (same_some x (f 0) (at 0 (omega arith)))) (small 0), all_below xs (λ k. f (suc k)) (λ k l. at (suc k) (omega (arith, l))) (λ k. small (suc k)))

module _ (s : State) (is : IsImage s.trace.image) where
  byte_below : (x : ℕ) (o : Option Operation) → byte_from (image_of s.trace) x o < 256
  byte_below x None = is.bytes_fit _
  byte_below x (Some store) = mod-lt (store.written / 256 ^ (x - store.address)) (omega arith)

  last_below : (x : ℕ) → last_performed s.trace x < 256
  last_below x = byte_below x (last_of (filter (stores_to x) (operations_at (instructions s.trace) s.trace.performed)))

  -- a line of memory, by its last write
  whole : (j : Joint s) (l : ℕ) → is_piece s.trace.image l (length_of (line_size s)) ≡ true → IsWhole (line_size s) (j.0 l)
  whole j l on =
      let o = j.1.agrees l on in
      record { sized = o.sized; count = o.whole; bytes = all_below (bytes_of (j.0 l)) (λ k. last_performed s.trace (l + k)) (λ k b. o.bytes k (subst (λ n. k < n) o.whole b)) (λ k. last_below (l + k)) }

-- ---- one line's messages

-- the data that a message carries is what was written last
abbrev pub IsLastData : LineData → Body → Type 0
IsLastData last (ProbeAckData change bytes) = bytes ≡ last
IsLastData last (ReleaseData change bytes) = bytes ≡ last
IsLastData last (GrantData cap bytes) = bytes ≡ last
IsLastData last _ = Unit {0}

abbrev AllLast : LineData → List Body → Type 0
AllLast last bodies = AllByRecursion (IsLastData last) bodies

module _ {last : LineData} where
  on_a : {part : Part} {x : Side} → Stands last part x → AllLast last x.a
  on_a (Asks _ copy h by is reader) = (tt, tt)
  on_a (AsksProbed g copy h is reader) = (tt, tt)
  on_a (AsksAnswered g from change carried copy h lowers enough by same is) = (tt, tt)
  on_a (AsksGranted copy h is reader) = (tt, tt)
  on_a _ = tt

  on_b : {part : Part} {x : Side} → Stands last part x → AllLast last x.b
  on_b (HoldsProbed g copy is) = (tt, tt)
  on_b (AsksProbed g copy h is reader) = (tt, tt)
  on_b (LeavesProbed g from change carried is) = (tt, tt)
  on_b (LeftProbed g) = (tt, tt)
  on_b _ = tt

  on_c : {part : Part} {x : Side} → Stands last part x → AllLast last x.c
  on_c (Leaves _ from change None by is) = (tt, tt)
  on_c (Leaves _ from change (Some bytes) by is) = (is.0, tt)
  on_c (LeavesProbed g from change None is) = (tt, tt)
  on_c (LeavesProbed g from change (Some bytes) is) = (is.0, tt)
  on_c (LeavesGranted from change None is) = (tt, tt)
  on_c (LeavesGranted from change (Some bytes) is) = (is.0, tt)
  on_c (HoldsAnswered g from change None copy lowers enough by same is) = (tt, tt)
  on_c (HoldsAnswered g from change (Some bytes) copy lowers enough by same is) = (by.0, tt)
  on_c (AsksAnswered g from change None copy h lowers enough by same is) = (tt, tt)
  on_c (AsksAnswered g from change (Some bytes) copy h lowers enough by same is) = (by.0, tt)
  on_c (LeavesAnswered g from change None other lowers enough by) = (tt, (tt, tt))
  on_c (LeavesAnswered g from change (Some bytes) other lowers enough by) = (by.0, (tt, tt))
  on_c _ = tt

  on_d : {part : Part} {x : Side} → Stands last part x → AllLast last x.d
  on_d (Left _ by) = (tt, tt)
  on_d (LeftProbed g) = (tt, tt)
  on_d (Receives g copy is reader) = (refl, tt)
  on_d Upgrades = (tt, tt)
  on_d LeftGranted = (tt, tt)
  on_d _ = tt

  on_e : {part : Part} {x : Side} → Stands last part x → AllLast last x.e
  on_e (HoldsGranted copy is) = (tt, tt)
  on_e (AsksGranted copy h is reader) = (tt, tt)
  on_e (LeavesGranted from change carried is) = (tt, tt)
  on_e LeftGranted = (tt, tt)
  on_e _ = tt

  on_each : (c : Channel) {part : Part} {x : Side} → Stands last part x → AllLast last (queue_in x c)
  on_each A st = on_a st
  on_each B st = on_b st
  on_each C st = on_c st
  on_each D st = on_d st
  on_each E st = on_e st

-- ---- a queue's messages

-- what holds of each line's messages holds of all
module _ (P : ℕ → Body → Type 0) where
  behind : (l : ℕ) (m : Msg) (q : List Msg) → AllByRecursion (P l) (of_line l (m ∷ q)) → AllByRecursion (P l) (of_line l q)
  behind l m q = go (m.line == l)
    where
      go : (t : Bool) → AllByRecursion (P l) (if t then m.body ∷ of_line l q else of_line l q) → AllByRecursion (P l) (of_line l q)
      go true all = all.1
      go false all = all

  from_lines : (q : List Msg) → ((l : ℕ) → AllByRecursion (P l) (of_line l q)) → AllByRecursion (λ (m : Msg). P m.line m.body) q
  from_lines [] all = tt
  from_lines (m ∷ q) all =
      let own : AllByRecursion (P m.line) (m.body ∷ of_line m.line q) = subst (λ t. AllByRecursion (P m.line) (if t then m.body ∷ of_line m.line q else of_line m.line q)) (eq-eqb m.line m.line refl) (all m.line) in
      (own.0, from_lines q (λ l. behind l m q (all l)))

module _ (s : State) (j : Joint s) (is : IsImage s.trace.image) where
  -- of a line of memory, and with whole lines
  abbrev IsGood : ℕ → Body → Type 0
  IsGood l body = (is_piece s.trace.image l (length_of (line_size s)) ≡ true) × CarriesWhole (line_size s) body

  carries : (l : ℕ) → is_piece s.trace.image l (length_of (line_size s)) ≡ true → (body : Body) → IsLastData (j.0 l) body → CarriesWhole (line_size s) body
  carries l on (ProbeAckData change bytes) e = subst (IsWhole (line_size s)) (sym e) (whole s is j l on)
  carries l on (ReleaseData change bytes) e = subst (IsWhole (line_size s)) (sym e) (whole s is j l on)
  carries l on (GrantData cap bytes) e = subst (IsWhole (line_size s)) (sym e) (whole s is j l on)
  carries l on _ e = tt

  good : (l : ℕ) → is_piece s.trace.image l (length_of (line_size s)) ≡ true → (bodies : List Body) → AllLast (j.0 l) bodies → AllByRecursion (IsGood l) bodies
  good l on [] all = tt
  good l on (body ∷ bodies) all = ((on, carries l on body all.0), good l on bodies all.1)

  seen_as : (h l : ℕ) (c : Channel) (z : _) → queue_in (side (kit_at s h) z l) c ≡ of_line l (queue_of (node_at s h).queues c)
  seen_as h l A z = refl
  seen_as h l B z = refl
  seen_as h l C z = refl
  seen_as h l D z = refl
  seen_as h l E z = refl

  quiet_on : (c : Channel) → queue_in quiet_side c ≡ []
  quiet_on A = refl
  quiet_on B = refl
  quiet_on C = refl
  quiet_on D = refl
  quiet_on E = refl

  of_one_line : (h : ℕ) (c : Channel) (l : ℕ) → AllByRecursion (IsGood l) (of_line l (queue_of (node_at s h).queues c))
  of_one_line h c l = go (is_piece s.trace.image l (length_of (line_size s))) refl
    where
      go : (t : Bool) → is_piece s.trace.image l (length_of (line_size s)) ≡ t → AllByRecursion (IsGood l) (of_line l (queue_of (node_at s h).queues c))
      go true on = good l on _ (subst (AllLast (j.0 l)) (seen_as h l c (known_at (line_at s.views.notes (place_of (line_size s) l)) h)) (on_each c ((j.1.fit.well.kept l on).stands h)))
      go false off = subst (AllByRecursion (IsGood l)) (sym (sym (seen_as h l c unknown) ∙ (ap (λ (x : Side). queue_in x c) (j.1.fit.well.outside l off h) ∙ quiet_on c))) tt

  pub queued : (h : ℕ) (c : Channel) → AllByRecursion (λ (m : Msg). IsGood m.line m.body) (queue_of (node_at s h).queues c)
  queued h c = from_lines IsGood (queue_of (node_at s h).queues c) (of_one_line h c)
