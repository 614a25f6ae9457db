-- The messages of a kind that were sent and not taken yet wait in their queue.
use Rattle.std.proofs.Common.{ℕ, suc, ◌+◌, ◌<◌, ◌≤◌, Bool, true, false, List, [], ◌∷◌, ◌++◌, ◌≡◌, Some, None, refl, ap, cond, sym, ◌∙◌, length, slice_index_or}
use Rattle.std.specs.Prelude.{◌==◌, ◌&&◌, not, filter}
use Rattle.std.specs.List.{cons_option}
use Rattle.std.proofs.lemmas.List.{length-append}
use Rattle.std.proofs.lemmas.List.Elements.{filter-append}
use native.Mathlib.Omega.{arith}
use Rattle.machine_model.specs.LawfulLog.{IsBeginningOf, concerns, is_on, is_sent, sent_count, sent_on, taken_count, taken_on}
use Rattle.machine_model.specs.Views.{Node, State}
use Rattle.machine_model.proofs.coherence.LineViews.{of_line}
use Rattle.machine_model.proofs.log.Queues.{IsInOrder}
use Rattle.tilelink_channels.specs.Queues.{queue_of}
use Rattle.tl_types.specs.Message.{channel_of, channel_of_body}
use Rattle.tl_types.specs.declared.message.Body.{Body}
use Rattle.tl_types.specs.declared.message.Channel.{Channel}
use Rattle.tl_types.specs.declared.message.Msg.{Msg}
use Rattle.trace_recorder.specs.declared.logged.Logged.{Logged}

-- how many messages of a kind stand in a list
abbrev pub count_in : (Body → Bool) → List Body → ℕ
count_in kind bodies = length (filter kind bodies)

-- those of a line, in a list of messages
abbrev waiting : (Body → Bool) → ℕ → List Msg → ℕ
waiting kind l ms = length (filter (λ (m : Msg). m.line == l && kind m.body) ms)

-- a kind of message that goes on one channel
abbrev pub GoesOn : (Body → Bool) → Channel → Type 0
GoesOn kind c = (body : Body) → is_on c (channel_of_body body) ≡ false → kind body ≡ false

waiting_of_line : (kind : Body → Bool) (l : ℕ) (ms : List Msg) → waiting kind l ms ≡ count_in kind (of_line l ms)
waiting_of_line kind l [] = refl
waiting_of_line kind l (m ∷ ms) = go (m.line == l) (kind m.body) refl (waiting_of_line kind l ms)
  where
    go : (t b : Bool) → kind m.body ≡ b → waiting kind l ms ≡ count_in kind (of_line l ms) →
        length (cond (t && b) (m ∷ filter (λ (m : Msg). m.line == l && kind m.body) ms) (filter (λ (m : Msg). m.line == l && kind m.body) ms)) ≡ count_in kind (cond t (m.body ∷ of_line l ms) (of_line l ms))
    go true true e same = rw e (ap suc same)
    go true false e same = rw e same
    go false b e same = same

waiting_append : (kind : Body → Bool) (l : ℕ) (xs ys : List Msg) → waiting kind l (xs ++ ys) ≡ waiting kind l xs + waiting kind l ys
waiting_append kind l xs ys =
    let p : Msg → Bool = λ m. m.line == l && kind m.body in
    ap length (filter-append p xs ys) ∙ length-append (filter p xs) (filter p ys)

module _ (kind : Body → Bool) (c : Channel) (on : GoesOn kind c) (k l : ℕ) where
  abbrev chosen : Msg → Bool
  chosen m = m.line == l && kind m.body

  both : (e : Logged) (F : List Logged) (S : List Msg) (z : Bool) → length F ≡ length S → length (cond z (e ∷ F) F) ≡ length (cond z (e.message ∷ S) S)
  both e F S true same = ap suc same
  both e F S false same = same

  none : (e : Logged) (F : List Logged) (t q : Bool) → q ≡ false → length (cond (t && q) (e ∷ F) F) ≡ length F
  none e F true q off = rw off refl
  none e F false q off = refl

  one : (e : Logged) (F : List Logged) (S : List Msg) (a b o : Bool) → is_on c (channel_of e.message) ≡ o → length F ≡ length (filter chosen S) →
      length (cond (a && (b && e.message.line == l) && kind e.message.body) (e ∷ F) F) ≡ length (filter chosen (cons_option (cond (a && b && o) (Some e.message) None) S))
  one e F S true true true f same = both e F (filter chosen S) (chosen e.message) same
  one e F S true true false f same = none e F (e.message.line == l) (kind e.message.body) (on e.message.body f) ∙ same
  one e F S true false o f same = same
  one e F S false b o f same = same

  sent_waits : (log : List Logged) → sent_count kind (concerns k l) log ≡ waiting kind l (sent_on c k log)
  sent_waits [] = refl
  sent_waits (e ∷ log) = one e _ (sent_on c k log) (is_sent e.direction) (e.hart == k) (is_on c (channel_of e.message)) refl (sent_waits log)

  taken_waits : (log : List Logged) → taken_count kind (concerns k l) log ≡ waiting kind l (taken_on c k log)
  taken_waits [] = refl
  taken_waits (e ∷ log) = one e _ (taken_on c k log) (not (is_sent e.direction)) (e.hart == k) (is_on c (channel_of e.message)) refl (taken_waits log)

  -- of what went into a queue no more came out
  pub few_taken : (log : List Logged) → IsBeginningOf (taken_on c k log) (sent_on c k log) → taken_count kind (concerns k l) log ≤ sent_count kind (concerns k l) log
  few_taken log begins =
      let out = taken_waits log in
      let in' = sent_waits log in
      let parts = waiting_append kind l (taken_on c k log) begins.0 in
      let whole = ap (waiting kind l) begins.1 in
      omega (arith, out, in', parts, whole)

  pub taken_in_line : (log : List Logged) → taken_count kind (concerns k l) log ≡ count_in kind (of_line l (taken_on c k log))
  taken_in_line log = taken_waits log ∙ waiting_of_line kind l (taken_on c k log)

  pub in_queue : (s : State) (d : Node) → IsInOrder s → k < length s.views.nodes → sent_count kind (concerns k l) s.trace.log ≡ taken_count kind (concerns k l) s.trace.log + count_in kind (of_line l (queue_of (slice_index_or s.views.nodes k d).queues c))
  in_queue s d i in_k =
      let q : List Msg = queue_of (slice_index_or s.views.nodes k d).queues c in
      sent_waits s.trace.log ∙ sym (ap (waiting kind l) (i.waiting c k d in_k)) ∙ waiting_append kind l (taken_on c k s.trace.log) q
      ∙ ap (λ n. n + waiting kind l q) (sym (taken_waits s.trace.log)) ∙ ap (λ n. taken_count kind (concerns k l) s.trace.log + n) (waiting_of_line kind l q)
