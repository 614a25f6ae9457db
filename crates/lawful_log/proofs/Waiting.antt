-- What waits in a queue behind one more entry.
use Rattle.std.proofs.Common.{ℕ, Bool, true, false, List, [], ◌∷◌, ◌++◌, ◌≡◌, Some, refl, ap, sym, ◌∙◌, subst, length, drop}
use Rattle.std.specs.Prelude.{◌==◌, ◌&&◌, if◌then◌else◌, slice_get}
use Rattle.std.proofs.lemmas.List.{append-nil, append_assoc}
use mathlib.Core.Logic.{◌⊎◌, inl, inr}
use Rattle.machine_model.proofs.log.Lists.{comes_first, comes_out, goes_behind, goes_in, is_in, part, sent_on_sent, sent_on_taken, taken_on_sent, taken_on_taken}
use Rattle.machine_model.specs.LawfulLog.{is_on, sent_on, taken_on}
use Rattle.lawful_log.proofs.Entries.{is_own_or_other}
use Rattle.lawful_log.specs.Facts.{front_for}
use Rattle.lawful_log.specs.Followed.{moved, waiting_after, waiting_from, waiting_of, waits_first}
use Rattle.lawful_log.specs.Rules.{IsFront, IsLawfulBy, KeepsGoing}
use Rattle.lawful_log.specs.declared.profile.Profile.{Profile}
use Rattle.lawful_log.specs.declared.rule.LogRule.TheVariants.{InOrder}
use Rattle.tl_types.specs.Message.{channel_of}
use Rattle.tl_types.specs.declared.message.Channel.{Channel}
use Rattle.tl_types.specs.declared.message.Channel.TheVariants.{A, B, C, D, E}
use Rattle.tl_types.specs.declared.message.Msg.{Msg}
use Rattle.trace_recorder.specs.declared.logged.Direction.{Direction}
use Rattle.trace_recorder.specs.declared.logged.Direction.TheVariants.{Sent, Taken}
use Rattle.trace_recorder.specs.declared.logged.Logged.{Logged}

-- behind what was taken stands what waits
pub front_waits : (t q s : List Msg) → t ++ q ≡ s → slice_get s (length t) ≡ slice_get q 0
front_waits t q s e = ap (λ (l : List Msg). slice_get l (length t)) (sym e) ∙ go t
  where
    go : (t : List Msg) → slice_get (t ++ q) (length t) ≡ slice_get q 0
    go [] = refl
    go (x ∷ t) = go t

front_off : (q : List Msg) (m : Msg) → slice_get q 0 ≡ Some m → q ≡ m ∷ drop 1 q
front_off [] m e = cc e
front_off (x ∷ q) m e = let same : x ≡ m = cc e in (λ k. same k ∷ q)

abbrev entry_of : Direction → ℕ → Msg → Logged
entry_of d h m = record { direction = d; hart = h; message = m }

-- a queue that isn't the message's own stays
after_as : (c : Channel) (k h : ℕ) (d : Direction) (m : Msg) (q : List Msg) → waiting_after c k (entry_of d h m) q ≡ (if is_in c k h m then moved d m q else q)
after_as c k h d m q = go (is_on c (channel_of m)) (h == k)
  where
    go : (a b : Bool) → (if a then (if b then moved d m q else q) else q) ≡ (if b && a then moved d m q else q)
    go true true = refl
    go true false = refl
    go false true = refl
    go false false = refl

follow_sent : (c : Channel) (k : ℕ) (log : List Logged) (h : ℕ) (m : Msg) (q : List Msg) → taken_on c k log ++ q ≡ sent_on c k log
    → taken_on c k (log ++ goes_in h m ∷ []) ++ waiting_after c k (goes_in h m) q ≡ sent_on c k (log ++ goes_in h m ∷ [])
follow_sent c k log h m q all = goes_behind (taken_on c k log) q (sent_on c k log) (taken_on c k (log ++ goes_in h m ∷ [])) (waiting_after c k (goes_in h m) q) (sent_on c k (log ++ goes_in h m ∷ [])) (part (is_in c k h m) m)
    all (taken_on_sent c k log h m) (after_as c k h Sent m q ∙ go (is_in c k h m)) (sent_on_sent c k log h m)
  where
    go : (b : Bool) → (if b then q ++ m ∷ [] else q) ≡ q ++ part b m
    go true = refl
    go false = sym (append-nil q)

follow_taken : (c : Channel) (k : ℕ) (log : List Logged) (h : ℕ) (m : Msg) (q : List Msg) → taken_on c k log ++ q ≡ sent_on c k log → IsFront h m log
    → taken_on c k (log ++ comes_out h m ∷ []) ++ waiting_after c k (comes_out h m) q ≡ sent_on c k (log ++ comes_out h m ∷ [])
follow_taken c k log h m q all front = comes_first (taken_on c k log) q (sent_on c k log) (taken_on c k (log ++ comes_out h m ∷ [])) (waiting_after c k (comes_out h m) q) (sent_on c k (log ++ comes_out h m ∷ [])) (part (is_in c k h m) m)
    all (taken_on_taken c k log h m) (go (is_own_or_other c k h m) ∙ ap (λ (l : List Msg). part (is_in c k h m) m ++ l) (sym (after_as c k h Taken m q))) (sent_on_taken c k log h m)
  where
    go : ((is_in c k h m ≡ true) × ((h ≡ k) × (c ≡ channel_of m))) ⊎ (is_in c k h m ≡ false) → q ≡ part (is_in c k h m) m ++ (if is_in c k h m then drop 1 q else q)
    go (inl e) =
        let first : slice_get (sent_on c k log) (length (taken_on c k log)) ≡ Some m = subst (λ (d : Channel). slice_get (sent_on d k log) (length (taken_on d k log)) ≡ Some m) (sym e.1.1) (subst (λ (j : ℕ). slice_get (sent_on (channel_of m) j log) (length (taken_on (channel_of m) j log)) ≡ Some m) e.1.0 front) in
        let off : q ≡ m ∷ drop 1 q = front_off q m (sym (front_waits (taken_on c k log) q (sent_on c k log) all) ∙ first) in
        subst (λ (b : Bool). q ≡ part b m ++ (if b then drop 1 q else q)) (sym e.0) off
    go (inr e) = subst (λ (b : Bool). q ≡ part b m ++ (if b then drop 1 q else q)) (sym e) refl

follow : (profile : Profile) (d : Direction) (c : Channel) (k : ℕ) (log : List Logged) (h : ℕ) (m : Msg) (q : List Msg) → KeepsGoing profile d InOrder h m log → taken_on c k log ++ q ≡ sent_on c k log
    → taken_on c k (log ++ entry_of d h m ∷ []) ++ waiting_after c k (entry_of d h m) q ≡ sent_on c k (log ++ entry_of d h m ∷ [])
follow profile Sent c k log h m q keeps all = follow_sent c k log h m q all
follow profile Taken c k log h m q keeps all = follow_taken c k log h m q all keeps

pub queue_more : (profile : Profile) (c : Channel) (k : ℕ) (log : List Logged) (e : Logged) (q : List Msg) → KeepsGoing profile e.direction InOrder e.hart e.message log → taken_on c k log ++ q ≡ sent_on c k log
    → taken_on c k (log ++ e ∷ []) ++ waiting_after c k e q ≡ sent_on c k (log ++ e ∷ [])
queue_more profile c k log e q keeps all = follow profile e.direction c k log e.hart e.message q keeps all

-- what waits behind one more entry
pub waiting_more : (c : Channel) (k : ℕ) (q : List Msg) (log : List Logged) (e : Logged) → waiting_from c k q (log ++ e ∷ []) ≡ waiting_after c k e (waiting_from c k q log)
waiting_more c k q [] e = refl
waiting_more c k q (x ∷ log) e = waiting_more c k (waiting_after c k x q) log e

-- behind a lawful log what waits is what was sent and not taken
module _ (profile : Profile) (c : Channel) (k : ℕ) where
  abbrev AreAllThere : List Logged → Type 0
  AreAllThere log = taken_on c k log ++ waiting_of c k log ≡ sent_on c k log

  there_behind : (done rest : List Logged) → AreAllThere done → IsLawfulBy profile (done ++ rest) → AreAllThere (done ++ rest)
  there_behind done [] so_far each = subst AreAllThere (sym (append-nil done)) so_far
  there_behind done (e ∷ rest) so_far each =
      let seam : (done ++ e ∷ []) ++ rest ≡ done ++ e ∷ rest = append_assoc done (e ∷ []) rest in
      subst AreAllThere seam (there_behind (done ++ e ∷ []) rest next (subst (IsLawfulBy profile) (sym seam) each))
    where
      next : AreAllThere (done ++ e ∷ [])
      next = ap (λ (q : List Msg). taken_on c k (done ++ e ∷ []) ++ q) (waiting_more c k [] done e) ∙ queue_more profile c k done e (waiting_of c k done) (each InOrder done rest e refl) so_far

  pub all_there : (log : List Logged) → IsLawfulBy profile log → AreAllThere log
  all_there log each = there_behind [] log refl each

-- so what waits first is what the rules ask for
pub first_lawful : (profile : Profile) (h : ℕ) (m : Msg) (log : List Logged) → IsLawfulBy profile log → waits_first h m log ≡ front_for h m log
first_lawful profile h m log each = sym (front_waits (taken_on (channel_of m) h log) (waiting_of (channel_of m) h log) (sent_on (channel_of m) h log) (all_there profile (channel_of m) h log each))

-- what holds on each channel
pub each_channel : (P : Channel → Type 0) → P A → P B → P C → P D → P E → (c : Channel) → P c
each_channel P a b c d e A = a
each_channel P a b c d e B = b
each_channel P a b c d e C = c
each_channel P a b c d e D = d
each_channel P a b c d e E = e
