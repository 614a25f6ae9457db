-- What waits in a queue is what went into it without what came out, and so it comes out in order.
use Rattle.std.proofs.Common.{ℕ, zero, suc, ◌<◌, ◌≤◌, Bool, true, false, List, [], ◌∷◌, ◌++◌, ◌≡◌, Some, None, refl, ap, sym, ◌∙◌, subst, length, slice_index_or, slice_set}
use Rattle.std.specs.Prelude.{◌==◌, ◌&&◌, if◌then◌else◌}
use Rattle.std.specs.List.{cons_option}
use Rattle.std.proofs.lemmas.Bool.{cases_lt}
use Rattle.std.proofs.lemmas.Bool.Decides.{eqb_tells}
use Rattle.std.proofs.lemmas.List.{append-nil, get_or-set_same, get_or-set_other, length-set}
use mathlib.Core.Logic.{◌⊎◌, inl, inr}
use native.Mathlib.Omega.{arith}
use Rattle.machine_model.specs.Deliveries.{taken}
use Rattle.machine_model.specs.LawfulLog.{IsBeginningOf, is_on, is_sent, sent_on, taken_on}
use Rattle.machine_model.specs.Views.{Node, State, no_node, node_at, sent, with_node, with_trace}
use Rattle.machine_model.proofs.log.Lists.{EachMoment, comes_first, comes_out, goes_behind, goes_in, is_in, one_more, part, sent_on_sent, sent_on_taken, taken_on_sent, taken_on_taken}
use Rattle.tilelink_channels.specs.Queues.{Waiting, behind, queue_of, with_queue}
use Rattle.tl_types.specs.Message.{channel_of}
use Rattle.tl_types.specs.declared.message.Channel.{Channel}
use Rattle.tl_types.specs.declared.message.Channel.TheVariants.{A, B, C, D, E}
use Rattle.tl_types.specs.declared.message.Msg.{Msg}
use Rattle.trace_recorder.specs.History.{History}
use Rattle.trace_recorder.specs.declared.logged.Logged.{Logged}

-- ---- one queue changes

abbrev Same : Channel → Channel → Type 0
Same c d = (is_on c d ≡ true) × (c ≡ d) × ((w : Waiting) (ms : List Msg) → queue_of (with_queue w d ms) c ≡ ms)

abbrev Other : Channel → Channel → Type 0
Other c d = (is_on c d ≡ false) × ((w : Waiting) (ms : List Msg) → queue_of (with_queue w d ms) c ≡ queue_of w c)

compared : (c d : Channel) → Same c d ⊎ Other c d
compared A A = inl (refl, refl, λ w ms. refl)
compared A _ = inr (refl, λ w ms. refl)
compared B B = inl (refl, refl, λ w ms. refl)
compared B _ = inr (refl, λ w ms. refl)
compared C C = inl (refl, refl, λ w ms. refl)
compared C _ = inr (refl, λ w ms. refl)
compared D D = inl (refl, refl, λ w ms. refl)
compared D _ = inr (refl, λ w ms. refl)
compared E E = inl (refl, refl, λ w ms. refl)
compared E _ = inr (refl, λ w ms. refl)

-- what stands at a place doesn't depend on what would stand beyond the end
pub same_within : (nodes : List Node) (h : ℕ) (d e : Node) → h < length nodes → slice_index_or nodes h d ≡ slice_index_or nodes h e
same_within [] h d e l = absurd (omega arith)
same_within (x ∷ nodes) zero d e l = refl
same_within (x ∷ nodes) (suc h) d e l = same_within nodes h d e (omega arith)

module _ (nodes : List Node) (h : ℕ) (none : Node) (m : Msg) (ms : List Msg) where
  abbrev own : Node
  own = slice_index_or nodes h none

  abbrev put : Node
  put = record own { queues = with_queue own.queues (channel_of m) ms }

  abbrev waits : List Node → ℕ → Node → Channel → List Msg
  waits among k d c = queue_of (slice_index_or among k d).queues c

  abbrev IsOwn : ℕ → Node → Channel → Type 0
  IsOwn k d c = (is_in c k h m ≡ true) × (waits (slice_set nodes h put) k d c ≡ ms) × (waits nodes k d c ≡ queue_of own.queues (channel_of m))

  abbrev IsOther : ℕ → Node → Channel → Type 0
  IsOther k d c = (is_in c k h m ≡ false) × (waits (slice_set nodes h put) k d c ≡ waits nodes k d c)

  look : (k : ℕ) (d : Node) (c : Channel) → k < length nodes → IsOwn k d c ⊎ IsOther k d c
  look k d c l = go (eqb_tells h k) (compared c (channel_of m))
    where
      within : h ≡ k → h < length nodes
      within e = subst (λ j. j < length nodes) (sym e) l

      here : h ≡ k → slice_index_or (slice_set nodes h put) k d ≡ put
      here e = subst (λ j. slice_index_or (slice_set nodes h put) j d ≡ put) e (get_or-set_same nodes h put d (within e))

      before : h ≡ k → slice_index_or nodes k d ≡ own
      before e = subst (λ j. slice_index_or nodes j d ≡ own) e (same_within nodes h d none (within e))

      go : (((h == k) ≡ true) × (h ≡ k)) ⊎ (((h == k) ≡ false) × (h ≡ k → ⊥)) → Same c (channel_of m) ⊎ Other c (channel_of m) → IsOwn k d c ⊎ IsOther k d c
      go (inl e) (inl f) = inl (rw (e.0, f.0) refl, ap (λ (n : Node). queue_of n.queues c) (here e.1) ∙ f.2 own.queues ms, ap (λ (n : Node). queue_of n.queues c) (before e.1) ∙ ap (queue_of own.queues) f.1)
      go (inl e) (inr f) = inr (rw (e.0, f.0) refl, ap (λ (n : Node). queue_of n.queues c) (here e.1) ∙ f.1 own.queues ms ∙ sym (ap (λ (n : Node). queue_of n.queues c) (before e.1)))
      go (inr e) f = inr (rw e.0 refl, ap (λ (n : Node). queue_of n.queues c) (get_or-set_other nodes h k put d (λ q. e.1 (sym q))))

-- ---- what holds at every moment

-- what came out of each queue is a beginning of what went in
abbrev pub IsQueueOrder : List Logged → Type 0
IsQueueOrder log = (c : Channel) (h : ℕ) → IsBeginningOf (taken_on c h log) (sent_on c h log)

pub record IsInOrder (s : State) : Type 0 where
  pub waiting : (c : Channel) (k : ℕ) (d : Node) → k < length s.views.nodes → taken_on c k s.trace.log ++ queue_of (slice_index_or s.views.nodes k d).queues c ≡ sent_on c k s.trace.log
  pub moments : EachMoment IsQueueOrder s.trace.log

-- log and queues stay
pub record Quiet (s t : State) : Type 0 where
  pub log : t.trace.log ≡ s.trace.log
  pub count : length t.views.nodes ≡ length s.views.nodes
  pub queues : (k : ℕ) (d : Node) → (slice_index_or t.views.nodes k d).queues ≡ (slice_index_or s.views.nodes k d).queues

queues-set : (nodes : List Node) (h k : ℕ) (n d e : Node) → n.queues ≡ (slice_index_or nodes h e).queues → (slice_index_or (slice_set nodes h n) k d).queues ≡ (slice_index_or nodes k d).queues
queues-set [] h k n d e q = refl
queues-set (x ∷ xs) zero zero n d e q = q
queues-set (x ∷ xs) zero (suc k) n d e q = refl
queues-set (x ∷ xs) (suc h) zero n d e q = refl
queues-set (x ∷ xs) (suc h) (suc k) n d e q = queues-set xs h k n d e q

pub quiet_node : (h : ℕ) (n : Node) (s : State) → n.queues ≡ (node_at s h).queues → Quiet s (with_node h n s)
quiet_node h n s e = record { log = refl; count = length-set s.views.nodes h n; queues = λ k d. queues-set s.views.nodes h k n d (no_node s) e }

pub quiet_trace : (s : State) (t : History) → t.log ≡ s.trace.log → Quiet s (with_trace t s)
quiet_trace s t e = record { log = e; count = refl; queues = λ k d. refl }

pub quiet_order : (s t : State) → Quiet s t → IsInOrder s → IsInOrder t
quiet_order s t q i = record {
  waiting = λ c k d l. subst (λ log. taken_on c k log ++ queue_of (slice_index_or t.views.nodes k d).queues c ≡ sent_on c k log) (sym q.log)
      (subst (λ w. taken_on c k s.trace.log ++ queue_of w c ≡ sent_on c k s.trace.log) (sym (q.queues k d)) (i.waiting c k d (subst (λ n. k < n) q.count l)));
  moments = subst (EachMoment IsQueueOrder) (sym q.log) i.moments;
}

module _ (h : ℕ) (m : Msg) (s : State) (i : IsInOrder s) where
  abbrev n : Node
  n = node_at s h

  abbrev log : List Logged
  log = s.trace.log

  abbrev added : Channel → ℕ → List Msg
  added c k = part (is_in c k h m) m

  abbrev old : ℕ → Node → Channel → List Msg
  old k d c = queue_of (slice_index_or s.views.nodes k d).queues c

  now : IsQueueOrder log
  now = i.moments log [] (append-nil log)

  -- a message goes in
  pub sent_order : IsInOrder (sent h m s)
  sent_order = record { waiting = waiting; moments = one_more IsQueueOrder log (goes_in h m) i.moments (λ c k. ((now c k).0 ++ added c k, goes_behind (taken_on c k log) (now c k).0 (sent_on c k log) _ ((now c k).0 ++ added c k) _ (added c k) (now c k).1 (taken_on_sent c k log h m) refl (sent_on_sent c k log h m))) }
    where
      longer : List Msg
      longer = queue_of n.queues (channel_of m) ++ m ∷ []

      after : State
      after = sent h m s

      waiting : (c : Channel) (k : ℕ) (d : Node) → k < length after.views.nodes → taken_on c k after.trace.log ++ queue_of (slice_index_or after.views.nodes k d).queues c ≡ sent_on c k after.trace.log
      waiting c k d l = goes_behind (taken_on c k log) (old k d c) (sent_on c k log) _ _ _ (added c k) (i.waiting c k d within) (taken_on_sent c k log h m) (go (look s.views.nodes h (no_node s) m longer k d c within)) (sent_on_sent c k log h m)
        where
          within : k < length s.views.nodes
          within = subst (λ count. k < count) (length-set s.views.nodes h _) l

          go : IsOwn s.views.nodes h (no_node s) m longer k d c ⊎ IsOther s.views.nodes h (no_node s) m longer k d c → queue_of (slice_index_or after.views.nodes k d).queues c ≡ old k d c ++ added c k
          go (inl e) = e.1 ∙ ap (λ q. q ++ m ∷ []) (sym e.2) ∙ ap (λ b. old k d c ++ part b m) (sym e.0)
          go (inr e) = e.1 ∙ sym (append-nil (old k d c)) ∙ ap (λ b. old k d c ++ part b m) (sym e.0)

  -- the message in front comes out
  pub taken_order : (rest : List Msg) → h < length s.views.nodes → queue_of n.queues (channel_of m) ≡ m ∷ rest → IsInOrder (taken h m s)
  taken_order rest in_h front = record { waiting = waiting; moments = one_more IsQueueOrder log (comes_out h m) i.moments (λ c k. begins c k (cases_lt k (length s.views.nodes))) }
    where
      shorter : List Msg
      shorter = behind (queue_of n.queues (channel_of m))

      after : State
      after = taken h m s

      waiting : (c : Channel) (k : ℕ) (d : Node) → k < length after.views.nodes → taken_on c k after.trace.log ++ queue_of (slice_index_or after.views.nodes k d).queues c ≡ sent_on c k after.trace.log
      waiting c k d l = comes_first (taken_on c k log) (old k d c) (sent_on c k log) _ _ _ (added c k) (i.waiting c k d within) (taken_on_taken c k log h m) (go (look s.views.nodes h (no_node s) m shorter k d c within)) (sent_on_taken c k log h m)
        where
          within : k < length s.views.nodes
          within = subst (λ count. k < count) (length-set s.views.nodes h _) l

          go : IsOwn s.views.nodes h (no_node s) m shorter k d c ⊎ IsOther s.views.nodes h (no_node s) m shorter k d c → old k d c ≡ added c k ++ queue_of (slice_index_or after.views.nodes k d).queues c
          go (inl e) = e.2 ∙ front ∙ ap (λ q. m ∷ q) (sym (e.1 ∙ ap behind front)) ∙ ap (λ b. part b m ++ queue_of (slice_index_or after.views.nodes k d).queues c) (sym e.0)
          go (inr e) = sym e.1 ∙ ap (λ b. part b m ++ queue_of (slice_index_or after.views.nodes k d).queues c) (sym e.0)

      apart : (c : Channel) (k : ℕ) → length s.views.nodes ≤ k → is_in c k h m ≡ false
      apart c k past = go (eqb_tells h k)
        where
          go : (((h == k) ≡ true) × (h ≡ k)) ⊎ (((h == k) ≡ false) × (h ≡ k → ⊥)) → is_in c k h m ≡ false
          go (inl e) = let same : h ≡ k = e.1 in absurd (omega arith)
          go (inr e) = rw e.0 refl

      begins : (c : Channel) (k : ℕ) → (k < length s.views.nodes) ⊎ (length s.views.nodes ≤ k) → IsBeginningOf (taken_on c k after.trace.log) (sent_on c k after.trace.log)
      begins c k (inl l) = (_, waiting c k (no_node s) (subst (λ count. k < count) (sym (length-set s.views.nodes h _)) l))
      begins c k (inr past) = ((now c k).0, comes_first (taken_on c k log) (now c k).0 (sent_on c k log) _ (now c k).0 _ (added c k) (now c k).1 (taken_on_taken c k log h m) (ap (λ b. part b m ++ (now c k).0) (sym (apart c k past))) (sent_on_taken c k log h m))

-- ---- a message in a queue is on the queue's channel

abbrev AreOn : Channel → List Msg → Type 0
AreOn c [] = Unit {0}
AreOn c (m ∷ ms) = (is_on c (channel_of m) ≡ true) × AreOn c ms

sent_are_on : (c : Channel) (h : ℕ) (log : List Logged) → AreOn c (sent_on c h log)
sent_are_on c h [] = tt
sent_are_on c h (e ∷ log) = go (is_sent e.direction) (e.hart == h) (is_on c (channel_of e.message)) refl (sent_are_on c h log)
  where
    go : (a b d : Bool) → is_on c (channel_of e.message) ≡ d → AreOn c (sent_on c h log) → AreOn c (cons_option (if a && b && d then Some e.message else None) (sent_on c h log))
    go true true true f all = (f, all)
    go true true false f all = all
    go true false d f all = all
    go false b d f all = all

behind_are_on : (c : Channel) (xs ys : List Msg) → AreOn c (xs ++ ys) → AreOn c ys
behind_are_on c [] ys all = all
behind_are_on c (x ∷ xs) ys all = behind_are_on c xs ys all.1

pub front_channel : (s : State) → IsInOrder s → (c : Channel) (h : ℕ) (m : Msg) (rest : List Msg) → h < length s.views.nodes → queue_of (node_at s h).queues c ≡ m ∷ rest → c ≡ channel_of m
front_channel s i c h m rest in_h front = go (compared c (channel_of m))
  where
    on : is_on c (channel_of m) ≡ true
    on = (behind_are_on c (taken_on c h s.trace.log) (m ∷ rest) (subst (AreOn c) (sym (i.waiting c h (no_node s) in_h) ∙ ap (λ q. taken_on c h s.trace.log ++ q) front) (sent_are_on c h s.trace.log))).0

    go : Same c (channel_of m) ⊎ Other c (channel_of m) → c ≡ channel_of m
    go (inl f) = f.1
    go (inr f) = cc (f.0, on)
