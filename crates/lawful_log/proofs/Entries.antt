-- The lawful log by entries: what one more entry asks, and that a log is lawful exactly where no entry breaks a rule of this machine's.
use Rattle.std.proofs.Common.{ℕ, Bool, true, false, List, [], ◌∷◌, ◌++◌, ◌≡◌, Some, None, refl, ap, sym, ◌∙◌, subst, length}
use Rattle.std.specs.Prelude.{◌==◌, IsTrue, slice_get}
use Rattle.std.proofs.lemmas.Bool.{eq-eqb}
use Rattle.std.proofs.lemmas.Bool.Decides.{eqb_tells}
use Rattle.std.proofs.lemmas.List.{append-nil, append_assoc}
use mathlib.Core.Logic.{◌⊎◌, inl, inr}
use Rattle.machine_model.proofs.log.Counts.{no_last, one_sent, one_taken}
use Rattle.machine_model.proofs.log.Lists.{comes_out, goes_in, is_in, one_more, part, sent_on_sent, sent_on_taken, taken_on_sent, taken_on_taken}
use Rattle.machine_model.specs.LawfulLog.{IsBeginningOf, IsLawfulLog, IsLogInOrder, is_on, may_send, sent_on, taken_on}
use Rattle.lawful_log.proofs.Sends.{goes, goes_by}
use Rattle.lawful_log.specs.Laws.{EntriesDecide}
use Rattle.lawful_log.specs.Rules.{IsFront, IsLawfulBy, Obeys, KeepsGoing, MayComeBy}
use Rattle.lawful_log.specs.declared.profile.Profile.TheVariants.{Machine}
use Rattle.lawful_log.specs.declared.rule.LogRule.{LogRule}
use Rattle.lawful_log.specs.declared.rule.LogRule.TheVariants.{InOrder, Question, Permission, Data, AcquireOnce, ProbeOnce, GrantAlone, ReleaseAlone}
use Rattle.tl_types.specs.Message.{channel_of}
use Rattle.tl_types.specs.declared.message.Channel.{Channel}
use Rattle.tl_types.specs.declared.message.Channel.TheVariants.{A, B, C, D, E}
use Rattle.tl_types.specs.declared.message.Msg.{Msg}
use Rattle.trace_recorder.specs.declared.logged.Direction.{Direction}
use Rattle.trace_recorder.specs.declared.logged.Direction.TheVariants.{Sent, Taken}
use Rattle.trace_recorder.specs.declared.logged.Logged.{Logged}

-- ---- a beginning of a list, and what stands behind it

pub at_front : (t s rest : List Msg) (m : Msg) → (t ++ m ∷ []) ++ rest ≡ s → slice_get s (length t) ≡ Some m
at_front t s rest m e = subst (λ (l : List Msg). slice_get l (length t) ≡ Some m) e (go t)
  where
    go : (t : List Msg) → slice_get ((t ++ m ∷ []) ++ rest) (length t) ≡ Some m
    go [] = refl
    go (x ∷ t) = go t

pub from_front : (t s rest : List Msg) (m : Msg) → t ++ rest ≡ s → slice_get s (length t) ≡ Some m → IsBeginningOf (t ++ m ∷ []) s
from_front t s rest m e f = go rest e (subst (λ (l : List Msg). slice_get l (length t) ≡ Some m) (sym e) f)
  where
    there : (t rest : List Msg) → slice_get (t ++ rest) (length t) ≡ slice_get rest 0
    there [] rest = refl
    there (x ∷ t) rest = there t rest

    go : (rest : List Msg) → t ++ rest ≡ s → slice_get (t ++ rest) (length t) ≡ Some m → IsBeginningOf (t ++ m ∷ []) s
    go [] e f = let none : None ≡ Some m = sym (there t []) ∙ f in cc none
    go (x ∷ rest) e f =
        let same : Some x ≡ Some m = sym (there t (x ∷ rest)) ∙ f in
        let is : x ≡ m = cc same in
        (rest, append_assoc t (m ∷ []) rest ∙ (ap (λ (y : Msg). t ++ y ∷ rest) (sym is) ∙ e))

-- ---- channels

pub on_own : (c : Channel) → is_on c c ≡ true
on_own A = refl
on_own B = refl
on_own C = refl
on_own D = refl
on_own E = refl

-- a message stands in its own queue
pub in_own : (h : ℕ) (m : Msg) → is_in (channel_of m) h h m ≡ true
in_own h m = rw (eq-eqb h h refl, on_own (channel_of m)) refl

on_same : (c d : Channel) → is_on c d ≡ true → c ≡ d
on_same A A e = refl
on_same B B e = refl
on_same C C e = refl
on_same D D e = refl
on_same E E e = refl
on_same A B e = cc e
on_same A C e = cc e
on_same A D e = cc e
on_same A E e = cc e
on_same B A e = cc e
on_same B C e = cc e
on_same B D e = cc e
on_same B E e = cc e
on_same C A e = cc e
on_same C B e = cc e
on_same C D e = cc e
on_same C E e = cc e
on_same D A e = cc e
on_same D B e = cc e
on_same D C e = cc e
on_same D E e = cc e
on_same E A e = cc e
on_same E B e = cc e
on_same E C e = cc e
on_same E D e = cc e

-- the queue is the message's own, or another
pub is_own_or_other : (c : Channel) (k h : ℕ) (m : Msg) → ((is_in c k h m ≡ true) × ((h ≡ k) × (c ≡ channel_of m))) ⊎ (is_in c k h m ≡ false)
is_own_or_other c k h m = go (eqb_tells h k) (is_on c (channel_of m)) refl
  where
    go : (((h == k) ≡ true) × (h ≡ k)) ⊎ (((h == k) ≡ false) × (h ≡ k → ⊥)) → (b : Bool) → is_on c (channel_of m) ≡ b → ((is_in c k h m ≡ true) × ((h ≡ k) × (c ≡ channel_of m))) ⊎ (is_in c k h m ≡ false)
    go (inl e) true f = inl (rw (e.0, f) refl, (e.1, on_same c (channel_of m) f))
    go (inl e) false f = inr (rw (e.0, f) refl)
    go (inr e) b f = inr (rw e.0 refl)

-- ---- queues in order

pub none_in_order : IsLogInOrder []
none_in_order c h [] rest e = ([], refl)
none_in_order c h (x ∷ before) rest e = cc e

-- whatever goes in
pub order_with_sent : (log : List Logged) (h : ℕ) (m : Msg) → IsLogInOrder log → IsLogInOrder (log ++ goes_in h m ∷ [])
order_with_sent log h m order = λ c k. one_more (λ (l : List Logged). IsBeginningOf (taken_on c k l) (sent_on c k l)) log (goes_in h m) (order c k) (now c k)
  where
    now : (c : Channel) (k : ℕ) → IsBeginningOf (taken_on c k (log ++ goes_in h m ∷ [])) (sent_on c k (log ++ goes_in h m ∷ []))
    now c k =
        let old : IsBeginningOf (taken_on c k log) (sent_on c k log) = order c k log [] (append-nil log) in
        (old.0 ++ part (is_in c k h m) m, ap (λ (l : List Msg). l ++ (old.0 ++ part (is_in c k h m) m)) (taken_on_sent c k log h m) ∙ (sym (append_assoc (taken_on c k log) old.0 (part (is_in c k h m) m)) ∙ (ap (λ (l : List Msg). l ++ part (is_in c k h m) m) old.1 ∙ sym (sent_on_sent c k log h m))))

-- where the front comes out
pub order_with_taken : (log : List Logged) (h : ℕ) (m : Msg) → IsLogInOrder log → IsFront h m log → IsLogInOrder (log ++ comes_out h m ∷ [])
order_with_taken log h m order front = λ c k. one_more (λ (l : List Logged). IsBeginningOf (taken_on c k l) (sent_on c k l)) log (comes_out h m) (order c k) (now c k (is_own_or_other c k h m))
  where
    Start : Channel → ℕ → Type 0
    Start c k = IsBeginningOf (taken_on c k log ++ part (is_in c k h m) m) (sent_on c k log)

    from : (c : Channel) (k : ℕ) → Start c k → IsBeginningOf (taken_on c k (log ++ comes_out h m ∷ [])) (sent_on c k (log ++ comes_out h m ∷ []))
    from c k s = (s.0, ap (λ (l : List Msg). l ++ s.0) (taken_on_taken c k log h m) ∙ (s.1 ∙ sym (sent_on_taken c k log h m)))

    own : IsBeginningOf (taken_on (channel_of m) h log ++ m ∷ []) (sent_on (channel_of m) h log)
    own =
        let old : IsBeginningOf (taken_on (channel_of m) h log) (sent_on (channel_of m) h log) = order (channel_of m) h log [] (append-nil log) in
        from_front (taken_on (channel_of m) h log) (sent_on (channel_of m) h log) old.0 m old.1 front

    now : (c : Channel) (k : ℕ) → ((is_in c k h m ≡ true) × ((h ≡ k) × (c ≡ channel_of m))) ⊎ (is_in c k h m ≡ false) → IsBeginningOf (taken_on c k (log ++ comes_out h m ∷ [])) (sent_on c k (log ++ comes_out h m ∷ []))
    now c k (inl e) = from c k (subst (λ (b : Bool). IsBeginningOf (taken_on c k log ++ part b m) (sent_on c k log)) (sym e.0) (subst (λ (j : ℕ). IsBeginningOf (taken_on c j log ++ m ∷ []) (sent_on c j log)) e.1.0 (subst (λ (d : Channel). IsBeginningOf (taken_on d h log ++ m ∷ []) (sent_on d h log)) (sym e.1.1) own)))
    now c k (inr e) =
        let old : IsBeginningOf (taken_on c k log) (sent_on c k log) = order c k log [] (append-nil log) in
        from c k (subst (λ (b : Bool). IsBeginningOf (taken_on c k log ++ part b m) (sent_on c k log)) (sym e) (subst (λ (l : List Msg). IsBeginningOf l (sent_on c k log)) (sym (append-nil (taken_on c k log))) old))

-- ---- a lawful log and its parts

none_lawful : IsLawfulLog []
none_lawful = record {
  in_order = none_in_order;
  each_sent = λ h m before rest e. absurd (no_last before rest (goes_in h m) e);
}

-- each entry of a lawful log keeps each rule
keeps_each : (log rest : List Logged) (d : Direction) (h : ℕ) (m : Msg) → IsLawfulLog (log ++ (record { direction = d; hart = h; message = m }) ∷ rest) → (rule : LogRule) → KeepsGoing Machine d rule h m log
keeps_each log rest Sent h m all rule = goes_by h m.line log m.body (all.each_sent h m log rest refl) rule
keeps_each log rest Taken h m all rule = came rule
  where
    start : IsBeginningOf (taken_on (channel_of m) h (log ++ comes_out h m ∷ [])) (sent_on (channel_of m) h (log ++ comes_out h m ∷ []))
    start = all.in_order (channel_of m) h (log ++ comes_out h m ∷ []) rest (append_assoc log (comes_out h m ∷ []) rest)

    taken : taken_on (channel_of m) h (log ++ comes_out h m ∷ []) ≡ taken_on (channel_of m) h log ++ m ∷ []
    taken = taken_on_taken (channel_of m) h log h m ∙ ap (λ (b : Bool). taken_on (channel_of m) h log ++ part b m) (in_own h m)

    front : IsFront h m log
    front = at_front (taken_on (channel_of m) h log) (sent_on (channel_of m) h log) start.0 m (ap (λ (l : List Msg). l ++ start.0) (sym taken) ∙ (start.1 ∙ sent_on_taken (channel_of m) h log h m))

    came : (rule : LogRule) → MayComeBy rule h m log
    came InOrder = front
    came Question = refl
    came Permission = refl
    came Data = refl
    came AcquireOnce = refl
    came ProbeOnce = refl
    came GrantAlone = refl
    came ReleaseAlone = refl

lawful_keeps : (log rest : List Logged) (e : Logged) → IsLawfulLog (log ++ e ∷ rest) → (rule : LogRule) → Obeys Machine rule log e
lawful_keeps log rest e = keeps_each log rest e.direction e.hart e.message

-- a lawful log with one more entry that keeps each rule is lawful
one_sent_lawful : (log : List Logged) (h : ℕ) (m : Msg) → IsLawfulLog log → IsTrue (may_send m.body h m.line log) → IsLawfulLog (log ++ goes_in h m ∷ [])
one_sent_lawful log h m all goes_out = record {
  in_order = order_with_sent log h m all.in_order;
  each_sent = one_sent (λ k n l. IsTrue (may_send n.body k n.line l)) log h m all.each_sent goes_out;
}

one_taken_lawful : (log : List Logged) (h : ℕ) (m : Msg) → IsLawfulLog log → IsFront h m log → IsLawfulLog (log ++ comes_out h m ∷ [])
one_taken_lawful log h m all front = record {
  in_order = order_with_taken log h m all.in_order front;
  each_sent = one_taken (λ k n l. IsTrue (may_send n.body k n.line l)) log h m all.each_sent;
}

one_lawful : (log : List Logged) (d : Direction) (h : ℕ) (m : Msg) → IsLawfulLog log → ((rule : LogRule) → KeepsGoing Machine d rule h m log) → IsLawfulLog (log ++ (record { direction = d; hart = h; message = m }) ∷ [])
one_lawful log Sent h m all each = one_sent_lawful log h m all (goes h m.line log m.body each)
one_lawful log Taken h m all each = one_taken_lawful log h m all (each InOrder)

lawful_with : (log : List Logged) (e : Logged) → IsLawfulLog log → ((rule : LogRule) → Obeys Machine rule log e) → IsLawfulLog (log ++ e ∷ [])
lawful_with log e = one_lawful log e.direction e.hart e.message

-- ---- whole and by entries

by_entries : (done rest : List Logged) → IsLawfulLog done → IsLawfulBy Machine (done ++ rest) → IsLawfulLog (done ++ rest)
by_entries done [] so_far each = subst IsLawfulLog (sym (append-nil done)) so_far
by_entries done (e ∷ rest) so_far each =
    let seam : (done ++ e ∷ []) ++ rest ≡ done ++ e ∷ rest = append_assoc done (e ∷ []) rest in
    subst IsLawfulLog seam (by_entries (done ++ e ∷ []) rest (lawful_with done e so_far (λ rule. each rule done rest e refl)) (subst (IsLawfulBy Machine) (sym seam) each))

pub entries_decide_lem : EntriesDecide
entries_decide_lem log = (λ all rule before rest e q. lawful_keeps before rest e (subst IsLawfulLog (sym q) all) rule, λ each. by_entries [] log none_lawful each)
