-- What a cache has outstanding is what the log has unanswered.
use Rattle.std.proofs.Common.{ℕ, ◌+◌, ◌<◌, Bool, true, false, [], ◌∷◌, ◌++◌, ◌≡◌, refl, ap, sym, ◌∙◌, subst, length, slice_index_or}
use Rattle.std.specs.Prelude.{◌≢◌, ◌==◌, ◌&&◌}
use Rattle.std.specs.FinSet as set
use Rattle.std.specs.FinSet.{FinSet}
use Rattle.std.specs.Ordering.{nat_cmp}
use Rattle.std.proofs.lemmas.Bool.{eq-eqb}
use Rattle.std.proofs.lemmas.Bool.Decides.{eqb_tells}
use mathlib.Core.Logic.{◌⊎◌, inl, inr}
use native.Mathlib.Omega.{arith}
use Rattle.client_cache.specs.Cache.{Cache}
use Rattle.machine_model.specs.LawfulLog.{concerns, is_settled, sent_count, taken_count}
use Rattle.machine_model.specs.Views.{Node, State, no_node, node_at}
use Rattle.machine_model.proofs.log.Counts.{bit, sent_in, sent_out, taken_in, taken_out}
use Rattle.machine_model.proofs.log.Lists.{comes_out, goes_in}
use Rattle.machine_model.proofs.log.Queues.{same_within}
use Rattle.tl_types.specs.declared.message.Body.{Body}
use Rattle.tl_types.specs.declared.message.Msg.{Msg}

pub no_bit : (w b : Bool) → b ≡ false → bit (w && b) ≡ 0
no_bit true b e = ap bit e
no_bit false b e = refl

-- one hart's cache becomes this
pub record Turned (s t : State) (h : ℕ) (c : Cache) : Type 0 where
  pub in_h : h < length s.views.nodes
  pub count : length t.views.nodes ≡ length s.views.nodes
  pub here : (d : Node) → (slice_index_or t.views.nodes h d).cache ≡ c
  pub there : (k : ℕ) (d : Node) → k ≢ h → (slice_index_or t.views.nodes k d).cache ≡ (slice_index_or s.views.nodes k d).cache

module _ (f : Cache → FinSet nat_cmp) where
  abbrev pub flag : State → ℕ → Node → ℕ → Bool
  flag s k d l = set.contains (f (slice_index_or s.views.nodes k d).cache) l

  -- what the flag of the line loses and gains
  pub balance : (s t : State) (h : ℕ) (c : Cache) (line : ℕ) (lost gained : Bool) → Turned s t h c → ((l : ℕ) → l ≢ line → set.contains (f c) l ≡ set.contains (f (node_at s h).cache) l) →
      bit (set.contains (f c) line) + bit lost ≡ bit (set.contains (f (node_at s h).cache) line) + bit gained →
      (k l : ℕ) (d : Node) → bit (flag t k d l) + bit ((h == k && line == l) && lost) ≡ bit (flag s k d l) + bit ((h == k && line == l) && gained)
  balance s t h c line lost gained u others own k l d = go (eqb_tells h k) (eqb_tells line l)
    where
      after : (q : ℕ) → flag t h d q ≡ set.contains (f c) q
      after q = ap (λ (x : Cache). set.contains (f x) q) (u.here d)

      before : (q : ℕ) → flag s h d q ≡ set.contains (f (node_at s h).cache) q
      before q = ap (λ (n : Node). set.contains (f n.cache) q) (same_within s.views.nodes h d (no_node s) u.in_h)

      go : (((h == k) ≡ true) × (h ≡ k)) ⊎ (((h == k) ≡ false) × (h ≡ k → ⊥)) → (((line == l) ≡ true) × (line ≡ l)) ⊎ (((line == l) ≡ false) × (line ≡ l → ⊥)) → bit (flag t k d l) + bit ((h == k && line == l) && lost) ≡ bit (flag s k d l) + bit ((h == k && line == l) && gained)
      go (inl e) (inl g) = rw (e.0, g.0) (subst (λ j. bit (flag t j d l) + bit lost ≡ bit (flag s j d l) + bit gained) e.1 (subst (λ q. bit (flag t h d q) + bit lost ≡ bit (flag s h d q) + bit gained) g.1 (ap (λ b. bit b + bit lost) (after line) ∙ own ∙ ap (λ b. bit b + bit gained) (sym (before line)))))
      go (inl e) (inr g) = rw (e.0, g.0) (subst (λ j. bit (flag t j d l) + 0 ≡ bit (flag s j d l) + 0) e.1 (ap (λ b. bit b + 0) (after l ∙ others l (λ q. g.1 (sym q)) ∙ sym (before l))))
      go (inr e) g = rw e.0 (ap (λ (x : Cache). bit (set.contains (f x) l) + 0) (u.there k d (λ q. e.1 (sym q))))

module _ (question answer : Body → Bool) (f : Cache → FinSet nat_cmp) where
  -- the questions that were sent are those whose answers came, and the one that is outstanding
  abbrev pub Tells : State → Type 0
  Tells s = (k l : ℕ) (d : Node) → k < length s.views.nodes → sent_count question (concerns k l) s.trace.log ≡ taken_count answer (concerns k l) s.trace.log + bit (flag f s k d l)

  pub still_tells : (s t : State) → t.trace.log ≡ s.trace.log → length t.views.nodes ≡ length s.views.nodes → ((k : ℕ) (d : Node) → f (slice_index_or t.views.nodes k d).cache ≡ f (slice_index_or s.views.nodes k d).cache) → Tells s → Tells t
  still_tells s t log count same i k l d in_k =
      subst (λ entries. sent_count question (concerns k l) entries ≡ taken_count answer (concerns k l) entries + bit (flag f t k d l)) (sym log)
      (i k l d (subst (λ n. k < n) count in_k) ∙ ap (λ b. taken_count answer (concerns k l) s.trace.log + bit (set.contains b l)) (sym (same k d)))

  pub goes : (s t : State) (h : ℕ) (m : Msg) → t.trace.log ≡ s.trace.log ++ goes_in h m ∷ [] → length t.views.nodes ≡ length s.views.nodes →
      ((k l : ℕ) (d : Node) → bit (flag f t k d l) ≡ bit (flag f s k d l) + bit ((h == k && m.line == l) && question m.body)) → Tells s → Tells t
  goes s t h m log count turns i k l d in_k =
      let old : sent_count question (concerns k l) s.trace.log ≡ taken_count answer (concerns k l) s.trace.log + bit (flag f s k d l) = i k l d (subst (λ n. k < n) count in_k) in
      let more : sent_count question (concerns k l) (s.trace.log ++ goes_in h m ∷ []) ≡ sent_count question (concerns k l) s.trace.log + bit ((h == k && m.line == l) && question m.body) = sent_in question k l s.trace.log h m in
      let same : taken_count answer (concerns k l) (s.trace.log ++ goes_in h m ∷ []) ≡ taken_count answer (concerns k l) s.trace.log + 0 = taken_in answer k l s.trace.log h m in
      let turn : bit (flag f t k d l) ≡ bit (flag f s k d l) + bit ((h == k && m.line == l) && question m.body) = turns k l d in
      subst (λ entries. sent_count question (concerns k l) entries ≡ taken_count answer (concerns k l) entries + bit (flag f t k d l)) (sym log) (omega (arith, old, more, same, turn))

  pub comes : (s t : State) (h : ℕ) (m : Msg) → t.trace.log ≡ s.trace.log ++ comes_out h m ∷ [] → length t.views.nodes ≡ length s.views.nodes →
      ((k l : ℕ) (d : Node) → bit (flag f t k d l) + bit ((h == k && m.line == l) && answer m.body) ≡ bit (flag f s k d l)) → Tells s → Tells t
  comes s t h m log count turns i k l d in_k =
      let old : sent_count question (concerns k l) s.trace.log ≡ taken_count answer (concerns k l) s.trace.log + bit (flag f s k d l) = i k l d (subst (λ n. k < n) count in_k) in
      let same : sent_count question (concerns k l) (s.trace.log ++ comes_out h m ∷ []) ≡ sent_count question (concerns k l) s.trace.log + 0 = sent_out question k l s.trace.log h m in
      let more : taken_count answer (concerns k l) (s.trace.log ++ comes_out h m ∷ []) ≡ taken_count answer (concerns k l) s.trace.log + bit ((h == k && m.line == l) && answer m.body) = taken_out answer k l s.trace.log h m in
      let turn : bit (flag f t k d l) + bit ((h == k && m.line == l) && answer m.body) ≡ bit (flag f s k d l) = turns k l d in
      subst (λ entries. sent_count question (concerns k l) entries ≡ taken_count answer (concerns k l) entries + bit (flag f t k d l)) (sym log) (omega (arith, old, same, more, turn))

  -- nothing outstanding: all is answered
  pub settled : (s : State) (h l : ℕ) → Tells s → h < length s.views.nodes → set.contains (f (node_at s h).cache) l ≡ false → is_settled question answer (concerns h l) s.trace.log ≡ true
  settled s h l i in_h off =
      let all : sent_count question (concerns h l) s.trace.log ≡ taken_count answer (concerns h l) s.trace.log + 0 = i h l (no_node s) in_h ∙ ap (λ b. taken_count answer (concerns h l) s.trace.log + bit b) off in
      eq-eqb _ _ (omega (arith, all))
