-- What one more entry of a log adds to what went into a queue and to what came out.
use Rattle.std.proofs.Common.{ℕ, Bool, true, false, List, [], ◌∷◌, ◌++◌, ◌≡◌, Some, None, refl, ap, sym, ◌∙◌, subst}
use Rattle.std.specs.Prelude.{◌==◌, ◌&&◌, if◌then◌else◌}
use Rattle.std.specs.List.{cons_option}
use Rattle.std.proofs.lemmas.List.{append-nil, append_assoc}
use Rattle.std.proofs.lemmas.List.Elements.{filter_map-append}
use mathlib.Core.Logic.{◌⊎◌, inl, inr}
use Rattle.machine_model.specs.LawfulLog.{is_on, sent_on, taken_on}
use Rattle.tl_types.specs.Message.{channel_of}
use Rattle.tl_types.specs.declared.message.Channel.{Channel}
use Rattle.tl_types.specs.declared.message.Msg.{Msg}
use Rattle.trace_recorder.specs.declared.logged.Direction.TheVariants.{Sent, Taken}
use Rattle.trace_recorder.specs.declared.logged.Logged.{Logged}

-- ---- moments

-- at each moment so far this holds of the log
abbrev pub EachMoment : (List Logged → Type 0) → List Logged → Type 0
EachMoment P log = (before rest : List Logged) → before ++ rest ≡ log → P before

pub no_first : {X : Type 0} (xs ys : List X) → xs ++ ys ≡ [] → xs ≡ []
no_first [] ys e = refl
no_first (x ∷ xs) ys e = cc e

-- a beginning of a list that has grown by one is all of it, or a beginning of the old one
ends_before : {X : Type 0} (before rest log : List X) (e : X) → before ++ rest ≡ log ++ e ∷ [] → (before ≡ log ++ e ∷ []) ⊎ ((more : List X) × (before ++ more ≡ log))
ends_before [] rest log e q = inr (log, refl)
ends_before (x ∷ before) rest [] e q =
    let none : before ++ rest ≡ [] = cc q in
    let same : x ≡ e = cc q in
    let gone : before ≡ [] = no_first before rest none in
    inl (λ k. same k ∷ gone k)
ends_before (x ∷ before) rest (y ∷ log) e q =
    let tails : before ++ rest ≡ log ++ e ∷ [] = cc q in
    let same : x ≡ y = cc q in
    go same (ends_before before rest log e tails)
  where
    go : x ≡ y → (before ≡ log ++ e ∷ []) ⊎ ((more : List _) × (before ++ more ≡ log)) → (x ∷ before ≡ y ∷ (log ++ e ∷ [])) ⊎ ((more : List _) × (x ∷ (before ++ more) ≡ y ∷ log))
    go same (inl p) = inl (λ k. same k ∷ p k)
    go same (inr m) = inr (m.0, λ k. same k ∷ m.1 k)

pub one_more : (P : List Logged → Type 0) (log : List Logged) (e : Logged) → EachMoment P log → P (log ++ e ∷ []) → EachMoment P (log ++ e ∷ [])
one_more P log e each now before rest q = go (ends_before before rest log e q)
  where
    go : (before ≡ log ++ e ∷ []) ⊎ ((more : List Logged) × (before ++ more ≡ log)) → P before
    go (inl p) = subst P (sym p) now
    go (inr m) = each before m.0 m.1

-- ---- one more entry

abbrev pub goes_in : ℕ → Msg → Logged
goes_in h m = record { direction = Sent; hart = h; message = m }

abbrev pub comes_out : ℕ → Msg → Logged
comes_out h m = record { direction = Taken; hart = h; message = m }

-- a message of this hart concerns the queue
abbrev pub is_in : Channel → ℕ → ℕ → Msg → Bool
is_in c k h m = h == k && is_on c (channel_of m)

abbrev pub part : Bool → Msg → List Msg
part true m = m ∷ []
part false m = []

part_of : (b : Bool) (m : Msg) → cons_option (if b then Some m else None) [] ≡ part b m
part_of true m = refl
part_of false m = refl

module _ (c : Channel) (k : ℕ) (log : List Logged) (h : ℕ) (m : Msg) where
  pub sent_on_sent : sent_on c k (log ++ goes_in h m ∷ []) ≡ sent_on c k log ++ part (is_in c k h m) m
  sent_on_sent = filter_map-append _ log (goes_in h m ∷ []) ∙ ap (λ l. sent_on c k log ++ l) (part_of (is_in c k h m) m)

  pub taken_on_sent : taken_on c k (log ++ goes_in h m ∷ []) ≡ taken_on c k log
  taken_on_sent = filter_map-append _ log (goes_in h m ∷ []) ∙ append-nil (taken_on c k log)

  pub sent_on_taken : sent_on c k (log ++ comes_out h m ∷ []) ≡ sent_on c k log
  sent_on_taken = filter_map-append _ log (comes_out h m ∷ []) ∙ append-nil (sent_on c k log)

  pub taken_on_taken : taken_on c k (log ++ comes_out h m ∷ []) ≡ taken_on c k log ++ part (is_in c k h m) m
  taken_on_taken = filter_map-append _ log (comes_out h m ∷ []) ∙ ap (λ l. taken_on c k log ++ l) (part_of (is_in c k h m) m)

-- ---- what was taken, what waits and what was sent: `x` goes in behind, or comes out in front

pub goes_behind : (t q s u r v x : List Msg) → t ++ q ≡ s → u ≡ t → r ≡ q ++ x → v ≡ s ++ x → u ++ r ≡ v
goes_behind t q s u r v x all taken waits went = (λ k. taken k ++ waits k) ∙ sym (append_assoc t q x) ∙ ap (λ l. l ++ x) all ∙ sym went

pub comes_first : (t q s u r v x : List Msg) → t ++ q ≡ s → u ≡ t ++ x → q ≡ x ++ r → v ≡ s → u ++ r ≡ v
comes_first t q s u r v x all taken waits went = ap (λ l. l ++ r) taken ∙ append_assoc t x r ∙ ap (λ l. t ++ l) (sym waits) ∙ all ∙ sym went
