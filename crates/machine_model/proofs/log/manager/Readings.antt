-- What a log says of a hart's last Acquire of a line and of what the hart lost since, and what one more entry makes of it.
use Rattle.std.proofs.Common.{ℕ, suc, ◌+◌, Bool, true, false, List, [], ◌∷◌, ◌++◌, ◌≡◌, Option, Some, None, refl, ap, cond, sym, ◌∙◌}
use Rattle.std.specs.Prelude.{◌==◌, ◌&&◌, ◌||◌, not, nat_lt, slice_get}
use Rattle.std.specs.List.{cons_option, filter_map}
use Rattle.std.proofs.lemmas.List.{append-nil}
use Rattle.std.proofs.lemmas.Bool.{eq-eqb}
use Rattle.std.proofs.lemmas.Bool.Decides.{eqb_tells}
use mathlib.Core.Logic.{◌⊎◌, inl, inr}
use native.Mathlib.Omega.{arith}
use Rattle.machine_model.specs.LawfulLog.{concerns, grow_in, grows_taken, is_acquire, is_loss, is_on, is_sent, lost_after, lost_since_asking, sent_count, sent_on, taken_count, taken_on}
use Rattle.machine_model.proofs.coherence.LineViews.{of_line, of_line_other, of_line_same}
use Rattle.machine_model.proofs.log.Counts.{bit, sent_in, sent_out, taken_in, taken_out}
use Rattle.machine_model.proofs.log.Lists.{comes_out, goes_in, is_in, part, sent_on_sent, sent_on_taken, taken_on_sent, taken_on_taken}
use Rattle.machine_model.proofs.log.manager.Queues.{GoesOn, count_in, taken_in_line}
use Rattle.tl_types.specs.Message.{channel_of, channel_of_body}
use Rattle.tl_types.specs.declared.message.Body.{Body}
use Rattle.tl_types.specs.declared.message.Body.TheVariants.{AcquireBlock, ProbeBlock, ProbeAck, ProbeAckData, Release, ReleaseData, Grant, GrantData, ReleaseAck, GrantAck}
use Rattle.tl_types.specs.declared.message.Channel.TheVariants.{A}
use Rattle.tl_types.specs.declared.message.Msg.{Msg}
use Rattle.tl_types.specs.declared.permission.Grow.{Grow}
use Rattle.trace_recorder.specs.declared.logged.Logged.{Logged}

-- the message is of this hart and this line
abbrev pub is_at : ℕ → ℕ → ℕ → Msg → Bool
is_at k l h m = h == k && m.line == l

pub and_off : (w b : Bool) → b ≡ false → w && b ≡ false
and_off true b e = e
and_off false b e = refl

-- ---- the last Acquire

abbrev pub last_of : List Body → Option Body
last_of [] = None
last_of (b ∷ []) = Some b
last_of (b ∷ c ∷ bodies) = last_of (c ∷ bodies)

pub last_behind : (bodies : List Body) (b : Body) → last_of (bodies ++ b ∷ []) ≡ Some b
last_behind [] b = refl
last_behind (x ∷ []) b = refl
last_behind (x ∷ y ∷ bodies) b = last_behind (y ∷ bodies) b

-- of those that were sent, and of those that were taken
abbrev pub last_asked : ℕ → ℕ → List Logged → Option Body
last_asked k l log = last_of (of_line l (sent_on A k log))

abbrev pub last_heard : ℕ → ℕ → List Logged → Option Body
last_heard k l log = last_of (of_line l (taken_on A k log))

acquires_only : (body : Body) → is_acquire body ≡ false → is_on A (channel_of_body body) ≡ false
acquires_only (AcquireBlock grow) e = cc e
acquires_only (ProbeBlock cap) e = refl
acquires_only (ProbeAck change) e = refl
acquires_only (ProbeAckData change bytes) e = refl
acquires_only (Release change) e = refl
acquires_only (ReleaseData change bytes) e = refl
acquires_only (Grant cap) e = refl
acquires_only (GrantData cap bytes) e = refl
acquires_only ReleaseAck e = refl
acquires_only GrantAck e = refl

module _ (k l : ℕ) (log : List Logged) (h : ℕ) (m : Msg) where
  -- behind a list of messages on channel A
  same_part : (q : List Msg) → is_at k l h m && is_acquire m.body ≡ false → of_line l (q ++ part (is_in A k h m) m) ≡ of_line l q
  same_part q off = go (eqb_tells h k) (eqb_tells m.line l) (is_acquire m.body) refl
    where
      nothing : (b : Bool) → b ≡ false → of_line l (q ++ part b m) ≡ of_line l q
      nothing b e = rw e (ap (of_line l) (append-nil q))

      one : (b : Bool) → (m.line ≡ l → ⊥) → of_line l (q ++ part b m) ≡ of_line l q
      one true ne = of_line_other l q m ne
      one false ne = ap (of_line l) (append-nil q)

      go : (((h == k) ≡ true) × (h ≡ k)) ⊎ (((h == k) ≡ false) × (h ≡ k → ⊥)) → (((m.line == l) ≡ true) × (m.line ≡ l)) ⊎ (((m.line == l) ≡ false) × (m.line ≡ l → ⊥)) → (b : Bool) → is_acquire m.body ≡ b → of_line l (q ++ part (is_in A k h m) m) ≡ of_line l q
      go (inl e) (inl f) true g = let on : is_at k l h m && is_acquire m.body ≡ true = rw (e.0, f.0, g) refl in cc (on, off)
      go (inl e) (inl f) false g = nothing (is_in A k h m) (and_off (h == k) _ (acquires_only m.body g))
      go (inl e) (inr f) b g = one (is_in A k h m) f.1
      go (inr e) f b g = nothing (is_in A k h m) (rw e.0 refl)

  pub asked_in : is_at k l h m && is_acquire m.body ≡ false → last_asked k l (log ++ goes_in h m ∷ []) ≡ last_asked k l log
  asked_in off = ap (λ q. last_of (of_line l q)) (sent_on_sent A k log h m) ∙ ap last_of (same_part (sent_on A k log) off)

  pub asked_out : last_asked k l (log ++ comes_out h m ∷ []) ≡ last_asked k l log
  asked_out = ap (λ q. last_of (of_line l q)) (sent_on_taken A k log h m)

  pub heard_in : last_heard k l (log ++ goes_in h m ∷ []) ≡ last_heard k l log
  heard_in = ap (λ q. last_of (of_line l q)) (taken_on_sent A k log h m)

  pub heard_out : is_at k l h m && is_acquire m.body ≡ false → last_heard k l (log ++ comes_out h m ∷ []) ≡ last_heard k l log
  heard_out off = ap (λ q. last_of (of_line l q)) (taken_on_taken A k log h m) ∙ ap last_of (same_part (taken_on A k log) off)

module _ (l : ℕ) (log : List Logged) (h : ℕ) (grow : Grow) where
  abbrev query : Msg
  query = record { line = l; body = AcquireBlock grow }

  pub asked_now : last_asked h l (log ++ goes_in h query ∷ []) ≡ Some (AcquireBlock grow)
  asked_now =
      let own : is_in A h h query ≡ true = rw (eq-eqb h h refl) refl in
      ap (λ q. last_of (of_line l q)) (sent_on_sent A h log h query) ∙ ap (λ b. last_of (of_line l (sent_on A h log ++ part b query))) own
      ∙ ap last_of (of_line_same l (sent_on A h log) (AcquireBlock grow)) ∙ last_behind (of_line l (sent_on A h log)) (AcquireBlock grow)

  pub heard_now : last_heard h l (log ++ comes_out h query ∷ []) ≡ Some (AcquireBlock grow)
  heard_now =
      let own : is_in A h h query ≡ true = rw (eq-eqb h h refl) refl in
      ap (λ q. last_of (of_line l q)) (taken_on_taken A h log h query) ∙ ap (λ b. last_of (of_line l (taken_on A h log ++ part b query))) own
      ∙ ap last_of (of_line_same l (taken_on A h log) (AcquireBlock grow)) ∙ last_behind (of_line l (taken_on A h log)) (AcquireBlock grow)

-- ---- the Acquire that the next Grant answers

grows_of : (k l : ℕ) (log : List Logged) → grows_taken k l log ≡ filter_map grow_in (of_line l (taken_on A k log))
grows_of k l [] = refl
grows_of k l (e ∷ log) = go (is_sent e.direction) (e.hart == k) (is_on A (channel_of e.message)) refl (grows_of k l log)
  where
    rest : List Msg
    rest = taken_on A k log

    line : (t : Bool) → grows_taken k l log ≡ filter_map grow_in (of_line l rest) → cons_option (cond t (grow_in e.message.body) None) (grows_taken k l log) ≡ filter_map grow_in (cond t (e.message.body ∷ of_line l rest) (of_line l rest))
    line true same = ap (cons_option (grow_in e.message.body)) same
    line false same = same

    no_grow : (body : Body) → is_on A (channel_of_body body) ≡ false → grow_in body ≡ None
    no_grow (AcquireBlock grow) f = cc f
    no_grow _ f = refl

    nothing : (t : Bool) → is_on A (channel_of e.message) ≡ false → cons_option (cond t (grow_in e.message.body) None) (grows_taken k l log) ≡ grows_taken k l log
    nothing true f = rw (no_grow e.message.body f) refl
    nothing false f = refl

    go : (a b o : Bool) → is_on A (channel_of e.message) ≡ o → grows_taken k l log ≡ filter_map grow_in (of_line l rest) →
        cons_option (cond (not a && (b && e.message.line == l)) (grow_in e.message.body) None) (grows_taken k l log) ≡ filter_map grow_in (of_line l (cons_option (cond (not a && b && o) (Some e.message) None) rest))
    go true b o f same = same
    go false false o f same = same
    go false true true f same = line (e.message.line == l) same
    go false true false f same = nothing (e.message.line == l) f ∙ same

ends_in_acquire : (bodies : List Body) (grow : Grow) → last_of bodies ≡ Some (AcquireBlock grow) → (n : ℕ) × (count_in is_acquire bodies ≡ n + 1)
ends_in_acquire [] grow last = cc last
ends_in_acquire (b ∷ []) grow last = let e : b ≡ AcquireBlock grow = cc last in rw e (0, refl)
ends_in_acquire (b ∷ c ∷ bodies) grow last = skip b (ends_in_acquire (c ∷ bodies) grow last)
  where
    skip : (b : Body) → (n : ℕ) × (count_in is_acquire (c ∷ bodies) ≡ n + 1) → (n : ℕ) × (count_in is_acquire (b ∷ c ∷ bodies) ≡ n + 1)
    skip (AcquireBlock g) p = (p.0 + 1, omega (arith, p.1))
    skip _ p = p

next_is_last : (bodies : List Body) (n : ℕ) (grow : Grow) → count_in is_acquire bodies ≡ n + 1 → last_of bodies ≡ Some (AcquireBlock grow) → slice_get (filter_map grow_in bodies) n ≡ Some grow
next_is_last [] n grow count last = cc last
next_is_last (b ∷ []) n grow count last = go (cc last) count
  where
    go : b ≡ AcquireBlock grow → count_in is_acquire (b ∷ []) ≡ n + 1 → slice_get (filter_map grow_in (b ∷ [])) n ≡ Some grow
    go e count =
        let one : count_in is_acquire (AcquireBlock grow ∷ []) ≡ n + 1 = ap (λ x. count_in is_acquire (x ∷ [])) (sym e) ∙ count in
        let z : n ≡ 0 = omega (arith, one) in
        rw (e, z) refl
next_is_last (b ∷ c ∷ bodies) n grow count last = go (ends_in_acquire (c ∷ bodies) grow last) (λ m. next_is_last (c ∷ bodies) m grow) b count
  where
    go : (m : ℕ) × (count_in is_acquire (c ∷ bodies) ≡ m + 1) → ((m : ℕ) → count_in is_acquire (c ∷ bodies) ≡ m + 1 → last_of (c ∷ bodies) ≡ Some (AcquireBlock grow) → slice_get (filter_map grow_in (c ∷ bodies)) m ≡ Some grow) →
        (b : Body) → count_in is_acquire (b ∷ c ∷ bodies) ≡ n + 1 → slice_get (filter_map grow_in (b ∷ c ∷ bodies)) n ≡ Some grow
    go m rest (AcquireBlock g) all = let e : n ≡ suc m.0 = omega (arith, m.1, all) in rw e (rest m.0 m.1 last)
    go m rest _ all = rest n all last

-- the manager has one Acquire more than it granted: the last one is next
pub heard_next : (k l : ℕ) (log : List Logged) (n : ℕ) (grow : Grow) → taken_count is_acquire (concerns k l) log ≡ n + 1 → last_heard k l log ≡ Some (AcquireBlock grow) → slice_get (grows_taken k l log) n ≡ Some grow
heard_next k l log n grow count last = ap (λ (gs : List Grow). slice_get gs n) (grows_of k l log) ∙ next_is_last (of_line l (taken_on A k log)) n grow (sym (taken_in_line is_acquire A acquires k l log) ∙ count) last
  where
    acquires : GoesOn is_acquire A
    acquires (AcquireBlock g) f = cc f
    acquires _ f = refl

-- ---- what the hart lost

-- it lost its Branch copy since it asked, or the ProbeAck that says so is on its way
abbrev pub reading : ℕ → ℕ → List Logged → Bool
reading k l log = lost_since_asking k l false log || nat_lt (taken_count is_loss (concerns k l) log) (sent_count is_loss (concerns k l) log)

lost_behind : (k l : ℕ) (lost : Bool) (log : List Logged) (e : Logged) → lost_since_asking k l lost (log ++ e ∷ []) ≡ lost_after k l (lost_since_asking k l lost log) e
lost_behind k l lost [] e = refl
lost_behind k l lost (x ∷ log) e = lost_behind k l (lost_after k l lost x) log e

pub same_count : (a b : ℕ) → a ≡ b + 0 → a ≡ b
same_count a b e = omega (arith, e)

module _ (k l : ℕ) (log : List Logged) (h : ℕ) (m : Msg) where
  pub lost_in : is_at k l h m && is_acquire m.body ≡ false → lost_since_asking k l false (log ++ goes_in h m ∷ []) ≡ lost_since_asking k l false log
  lost_in off = lost_behind k l false log (goes_in h m) ∙ go (is_at k l h m) off
    where
      go : (w : Bool) → w && is_acquire m.body ≡ false → cond w (not (is_acquire m.body) && lost_since_asking k l false log) (lost_since_asking k l false log) ≡ lost_since_asking k l false log
      go true f = rw f refl
      go false f = refl

  pub lost_out : is_at k l h m && is_loss m.body ≡ false → lost_since_asking k l false (log ++ comes_out h m ∷ []) ≡ lost_since_asking k l false log
  lost_out off = lost_behind k l false log (comes_out h m) ∙ go (is_at k l h m) off
    where
      go : (w : Bool) → w && is_loss m.body ≡ false → cond w (is_loss m.body || lost_since_asking k l false log) (lost_since_asking k l false log) ≡ lost_since_asking k l false log
      go true f = rw f refl
      go false f = refl

  pub reading_in : is_at k l h m && is_acquire m.body ≡ false → is_at k l h m && is_loss m.body ≡ false → reading k l (log ++ goes_in h m ∷ []) ≡ reading k l log
  reading_in asks loses =
      let a : taken_count is_loss (concerns k l) (log ++ goes_in h m ∷ []) ≡ taken_count is_loss (concerns k l) log = same_count _ _ (taken_in is_loss k l log h m) in
      let b : sent_count is_loss (concerns k l) (log ++ goes_in h m ∷ []) ≡ sent_count is_loss (concerns k l) log = same_count _ _ (sent_in is_loss k l log h m ∙ ap (λ b. sent_count is_loss (concerns k l) log + bit b) loses) in
      λ i. lost_in asks i || nat_lt (a i) (b i)

  pub reading_out : is_at k l h m && is_loss m.body ≡ false → reading k l (log ++ comes_out h m ∷ []) ≡ reading k l log
  reading_out loses =
      let a : taken_count is_loss (concerns k l) (log ++ comes_out h m ∷ []) ≡ taken_count is_loss (concerns k l) log = same_count _ _ (taken_out is_loss k l log h m ∙ ap (λ b. taken_count is_loss (concerns k l) log + bit b) loses) in
      let b : sent_count is_loss (concerns k l) (log ++ comes_out h m ∷ []) ≡ sent_count is_loss (concerns k l) log = same_count _ _ (sent_out is_loss k l log h m) in
      λ i. lost_out loses i || nat_lt (a i) (b i)

module _ (log : List Logged) (h : ℕ) (m : Msg) where
  own : is_at h m.line h m ≡ true
  own = rw (eq-eqb h h refl, eq-eqb m.line m.line refl) refl

  -- an Acquire that is sent starts anew
  pub lost_asking : is_acquire m.body ≡ true → lost_since_asking h m.line false (log ++ goes_in h m ∷ []) ≡ false
  lost_asking e = lost_behind h m.line false log (goes_in h m) ∙ ap (λ w. cond w (not (is_acquire m.body) && lost_since_asking h m.line false log) (lost_since_asking h m.line false log)) own ∙ ap (λ b. not b && lost_since_asking h m.line false log) e

  -- a loss that is taken is one
  pub lost_taken : is_loss m.body ≡ true → lost_since_asking h m.line false (log ++ comes_out h m ∷ []) ≡ true
  lost_taken e = lost_behind h m.line false log (comes_out h m) ∙ ap (λ w. cond w (is_loss m.body || lost_since_asking h m.line false log) (lost_since_asking h m.line false log)) own ∙ ap (λ b. b || lost_since_asking h m.line false log) e

  pub losses_in : is_loss m.body ≡ true → sent_count is_loss (concerns h m.line) (log ++ goes_in h m ∷ []) ≡ sent_count is_loss (concerns h m.line) log + 1
  losses_in e = sent_in is_loss h m.line log h m ∙ ap (λ b. sent_count is_loss (concerns h m.line) log + bit b) (λ i. own i && e i)
