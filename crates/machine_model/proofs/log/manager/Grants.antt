-- When a Grant may be sent.
use Rattle.std.proofs.Common.{ℕ, ◌+◌, ◌<◌, Bool, true, false, List, [], ◌∷◌, ◌++◌, ◌≡◌, Option, Some, refl, ap, sym, ◌∙◌, length}
use Rattle.std.specs.Prelude.{◌==◌, ◌||◌, if◌then◌else◌, not, nat_lt}
use Rattle.std.specs.FinSet as set
use Rattle.std.proofs.lemmas.Bool.{and_from}
use Rattle.std.proofs.lemmas.List.{append-nil}
use native.Mathlib.Omega.{arith}
use Rattle.client_cache.specs.AtLine.{at_line}
use Rattle.client_cache.specs.Held.{perm_of}
use Rattle.directory.specs.Lines.{Line, grant_for, known_at, needs_data}
use Rattle.machine_model.specs.Deliveries.{grant_body, is_trunk}
use Rattle.machine_model.specs.LawfulLog.{answers_acquire, asked_by_next, concerns, goes_without_data, is_acquire, is_for, is_grant, is_loss, lost_since_asking, may_grant, may_send, no_grant_open, no_hart_probed, sent_count, taken_count, taken_on}
use Rattle.machine_model.specs.Views.{State, no_node, node_at}
use Rattle.machine_model.proofs.coherence.LineViews.{of_line}
use Rattle.machine_model.proofs.log.manager.Losses.{IsLosing, less_not, losses}
use Rattle.machine_model.proofs.log.manager.Queues.{count_in}
use Rattle.machine_model.proofs.log.manager.Readings.{heard_next, last_asked, last_heard, last_of, reading}
use Rattle.machine_model.proofs.log.Queues.{IsInOrder}
use Rattle.tl_types.specs.Permission.{granted_for}
use Rattle.tl_types.specs.declared.line.LineData.{LineData}
use Rattle.tl_types.specs.declared.message.Body.TheVariants.{AcquireBlock, Grant, GrantData}
use Rattle.tl_types.specs.declared.message.Channel.TheVariants.{A}
use Rattle.tl_types.specs.declared.message.Msg.{Msg}
use Rattle.tl_types.specs.declared.permission.Grow.{Grow}
use Rattle.tl_types.specs.declared.permission.Grow.TheVariants.{NtoB, NtoT, BtoT}
use Rattle.tl_types.specs.declared.permission.Perm.{Perm}
use Rattle.trace_recorder.specs.declared.logged.Logged.{Logged}

gives : (grow : Grow) → is_for grow (granted_for grow) ≡ true
gives NtoB = refl
gives NtoT = refl
gives BtoT = refl

answers : (with_data : Bool) (grow : Grow) (h l : ℕ) (log : List Logged) → with_data ≡ not (goes_without_data h l log grow) → answers_acquire (Some grow) with_data (granted_for grow) h l log ≡ true
answers true grow h l log e = and_from _ _ (gives grow) (sym e)
answers false grow h l log e = and_from _ _ (gives grow) (flip (goes_without_data h l log grow) (sym e))
  where
    flip : (b : Bool) → not b ≡ false → b ≡ true
    flip true e = refl
    flip false e = cc e

-- the data that the record asks for
abbrev pub HasData : Grow → Perm → ℕ → ℕ → List Logged → Type 0
HasData grow perm h l log = needs_data grow perm ≡ not (goes_without_data h l log grow)

-- what has to hold of the log before a Grant goes out
pub record MayGrant (grow : Grow) (h l : ℕ) (log : List Logged) : Type 0 where
  pub one_more : taken_count is_acquire (concerns h l) log ≡ sent_count is_grant (concerns h l) log + 1
  pub heard : last_heard h l log ≡ Some (AcquireBlock grow)
  pub unprobed : no_hart_probed l log ≡ true
  pub ungranted : no_grant_open l log ≡ true

pub may_grant_now : (y : Line) (grow : Grow) (h l : ℕ) (log : List Logged) (bytes : LineData) → MayGrant grow h l log → HasData grow (known_at y h).perm h l log → may_send (grant_body (grant_for y h grow) bytes) h l log ≡ true
may_grant_now y grow h l log bytes may lacks = go (needs_data grow (known_at y h).perm) lacks
  where
    granted : (with_data : Bool) → with_data ≡ not (goes_without_data h l log grow) → may_grant with_data (granted_for grow) h l log ≡ true
    granted with_data e =
        let answered : answers_acquire (asked_by_next h l log) with_data (granted_for grow) h l log ≡ true =
        ap (λ (o : Option Grow). answers_acquire o with_data (granted_for grow) h l log) (heard_next h l log (sent_count is_grant (concerns h l) log) grow may.one_more may.heard) ∙ answers with_data grow h l log e in
        and_from _ _ (and_from _ _ answered may.unprobed) may.ungranted

    go : (with_data : Bool) → with_data ≡ not (goes_without_data h l log grow) → may_send (if with_data then GrantData (granted_for grow) bytes else Grant (granted_for grow)) h l log ≡ true
    go true e = granted true e
    go false e = granted false e

-- ---- data

of_line_append : (l : ℕ) (xs ys : List Msg) → of_line l (xs ++ ys) ≡ of_line l xs ++ of_line l ys
of_line_append l [] ys = refl
of_line_append l (x ∷ xs) ys = go (x.line == l) (of_line_append l xs ys)
  where
    go : (t : Bool) → of_line l (xs ++ ys) ≡ of_line l xs ++ of_line l ys → (if t then x.body ∷ of_line l (xs ++ ys) else of_line l (xs ++ ys)) ≡ (if t then x.body ∷ of_line l xs else of_line l xs) ++ of_line l ys
    go true e = ap (λ r. x.body ∷ r) e
    go false e = e

-- the Acquires that were sent are those that were taken, and those that wait
pub asked_are : (s : State) (k l : ℕ) → IsInOrder s → k < length s.views.nodes → last_asked k l s.trace.log ≡ last_of (of_line l (taken_on A k s.trace.log) ++ of_line l (node_at s k).queues.a)
asked_are s k l order in_k = ap (λ q. last_of (of_line l q)) (sym (order.waiting A k (no_node s) in_k)) ∙ ap last_of (of_line_append l (taken_on A k s.trace.log) (node_at s k).queues.a)

pub none_waits : (s : State) (k l : ℕ) → IsInOrder s → k < length s.views.nodes → of_line l (node_at s k).queues.a ≡ [] → last_asked k l s.trace.log ≡ last_heard k l s.trace.log
none_waits s k l order in_k none = asked_are s k l order in_k ∙ ap (λ q. last_of (of_line l (taken_on A k s.trace.log) ++ q)) none ∙ ap last_of (append-nil (of_line l (taken_on A k s.trace.log)))

-- the hart asks for what it lacks, and nothing that it lost is on its way
pub has_data : (s : State) (k l : ℕ) (grow : Grow) (perm : Perm) → IsInOrder s → IsLosing s → k < length s.views.nodes →
    set.contains (node_at s k).cache.acquiring l ≡ true → last_asked k l s.trace.log ≡ Some (AcquireBlock grow) → is_trunk (perm_of (at_line (node_at s k).cache l).copy) ≡ false → perm ≡ perm_of (at_line (node_at s k).cache l).copy → of_line l (node_at s k).queues.c ≡ [] →
    HasData grow perm k l s.trace.log
has_data s k l NtoB perm order i in_k on last reader same none = refl
has_data s k l NtoT perm order i in_k on last reader same none = refl
has_data s k l BtoT perm order i in_k on last reader same none = ap (needs_data BtoT) same ∙ i k l in_k on last reader ∙ settled ∙ sym (twice (lost_since_asking k l false s.trace.log))
  where
    twice : (b : Bool) → not (not b) ≡ b
    twice true = refl
    twice false = refl

    or_false : (b : Bool) → b || false ≡ b
    or_false true = refl
    or_false false = refl

    all : sent_count is_loss (concerns k l) s.trace.log ≡ taken_count is_loss (concerns k l) s.trace.log + 0
    all = losses s order k l in_k ∙ ap (λ q. taken_count is_loss (concerns k l) s.trace.log + count_in is_loss q) none

    settled : reading k l s.trace.log ≡ lost_since_asking k l false s.trace.log
    settled =
        let same : sent_count is_loss (concerns k l) s.trace.log ≡ taken_count is_loss (concerns k l) s.trace.log = omega (arith, all) in
        ap (λ n. lost_since_asking k l false s.trace.log || nat_lt (taken_count is_loss (concerns k l) s.trace.log) n) same
        ∙ ap (λ b. lost_since_asking k l false s.trace.log || b) (less_not (taken_count is_loss (concerns k l) s.trace.log)) ∙ or_false (lost_since_asking k l false s.trace.log)
