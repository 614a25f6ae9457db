-- Which Acquires wait for their Grants: those that were taken, but for as many as Grants were sent.
use Rattle.std.proofs.Common.{ℕ, ◌+◌, ◌≤◌, Bool, true, false, List, [], ◌∷◌, ◌++◌, ◌≡◌, None, refl, ap, arith, cond, ◌∙◌, drop, length, suc, sym, zero}
use Rattle.std.specs.Prelude.{◌&&◌, filter, if◌then◌else◌, not, nat_lt, slice_get}
use Rattle.std.specs.List.{cons_option}
use Rattle.std.proofs.lemmas.Bool.{ltb-false, ltb-true}
use Rattle.std.proofs.lemmas.List.{append-nil, drop-append-le, drop-drop, drop_all, length-append}
use Rattle.std.proofs.lemmas.List.Elements.{filter_map-append}
use Rattle.machine_model.specs.LawfulLog.{concerns, grow_in, grows_taken, is_acquire, is_grant, is_of_line, is_sent, sent_count, taken_count}
use Rattle.lawful_log.proofs.Counted.{raised, tally_more}
use Rattle.lawful_log.specs.Facts.{Known, known_of, tallies_of, tally_of}
use Rattle.lawful_log.specs.Followed.{asked_after, hart_known_of, known_from}
use Rattle.lawful_log.specs.declared.tallies.Tallies.{Tallies}
use Rattle.lawful_log.specs.declared.tallies.Tally.{Tally}
use Rattle.tl_types.specs.declared.message.Body.{Body}
use Rattle.tl_types.specs.declared.message.Body.TheVariants.{AcquireBlock, ProbeBlock, ProbeAck, ProbeAckData, Release, ReleaseData, Grant, GrantData, ReleaseAck, GrantAck}
use Rattle.tl_types.specs.declared.permission.Grow.{Grow}
use Rattle.trace_recorder.specs.declared.logged.Direction.{Direction}
use Rattle.trace_recorder.specs.declared.logged.Direction.TheVariants.{Sent, Taken}
use Rattle.trace_recorder.specs.declared.logged.Logged.{Logged}

-- ---- the first that waits is what the next Grant answers

first_left : (n : ℕ) (gs : List Grow) → slice_get (drop n gs) 0 ≡ slice_get gs n
first_left zero gs = refl
first_left (suc n) [] = refl
first_left (suc n) (g ∷ gs) = first_left n gs

pub asks_next : (h line : ℕ) (log : List Logged) → known_from (hart_known_of h line log) (tallies_of (is_of_line line) log) ≡ known_of h line log
asks_next h line log = λ k. record (known_of h line log) { asked = first_left (sent_count is_grant (concerns h line) log) (grows_taken h line log) k }

-- ---- one more entry

-- what an Acquire that is taken asks for
abbrev grows_given : Direction → Body → List Grow
grows_given Taken (AcquireBlock grow) = grow ∷ []
grows_given _ _ = []

given : (d : Direction) (w : Bool) (body : Body) → cons_option (if not (is_sent d) && w then grow_in body else None) [] ≡ (if w then grows_given d body else [])
given Sent true body = refl
given Sent false body = refl
given Taken false body = refl
given Taken true (AcquireBlock g) = refl
given Taken true (ProbeBlock c) = refl
given Taken true (ProbeAck c) = refl
given Taken true (ProbeAckData c b) = refl
given Taken true (Release c) = refl
given Taken true (ReleaseData c b) = refl
given Taken true (Grant c) = refl
given Taken true (GrantData c b) = refl
given Taken true ReleaseAck = refl
given Taken true GrantAck = refl

grows_more : (h line : ℕ) (log : List Logged) (e : Logged) → grows_taken h line (log ++ e ∷ []) ≡ grows_taken h line log ++ (if concerns h line e then grows_given e.direction e.message.body else [])
grows_more h line log e = filter_map-append _ log (e ∷ []) ∙ ap (λ l. grows_taken h line log ++ l) (given e.direction (concerns h line e) e.message.body)

-- as many as Acquires were taken
grows_counted : (h line : ℕ) (log : List Logged) → length (grows_taken h line log) ≡ taken_count is_acquire (concerns h line) log
grows_counted h line [] = refl
grows_counted h line (e ∷ log) = go (grows_taken h line log) (filter (λ (x : Logged). not (is_sent x.direction) && concerns h line x && is_acquire x.message.body) log) (not (is_sent e.direction) && concerns h line e) e.message.body (grows_counted h line log)
  where
    go : (gs : List Grow) (l : List Logged) (b : Bool) (body : Body) → length gs ≡ length l → length (cons_option (if b then grow_in body else None) gs) ≡ length (cond (b && is_acquire body) (e ∷ l) l)
    go gs l false body same = same
    go gs l true (AcquireBlock g) same = ap suc same
    go gs l true (ProbeBlock c) same = same
    go gs l true (ProbeAck c) same = same
    go gs l true (ProbeAckData c b) same = same
    go gs l true (Release c) same = same
    go gs l true (ReleaseData c b) same = same
    go gs l true (Grant c) same = same
    go gs l true (GrantData c b) same = same
    go gs l true ReleaseAck same = same
    go gs l true GrantAck same = same

module _ (gs : List Grow) (t : Tallies) (counted : length gs ≡ t.acquires.taken) where
  abbrev waiting : List Grow
  waiting = drop t.grants.sent gs

  as_before : drop t.grants.sent (gs ++ []) ≡ waiting
  as_before = ap (drop t.grants.sent) (append-nil gs)

  one_answered : drop (t.grants.sent + 1) (gs ++ []) ≡ drop 1 waiting
  one_answered = ap (drop (t.grants.sent + 1)) (append-nil gs) ∙ sym (drop-drop 1 t.grants.sent gs)

  one_asked : (grow : Grow) (b : Bool) → nat_lt t.acquires.taken t.grants.sent ≡ b → drop t.grants.sent (gs ++ grow ∷ []) ≡ (if b then waiting else waiting ++ grow ∷ [])
  one_asked grow true few =
      let fewer = ltb-true _ _ few in
      let longer : length (gs ++ grow ∷ []) ≡ length gs + 1 = length-append gs (grow ∷ []) in
      drop_all t.grants.sent (gs ++ grow ∷ []) (omega (arith, fewer, longer, counted)) ∙ sym (drop_all t.grants.sent gs (omega (arith, fewer, counted)))
  one_asked grow false few = let no_fewer = ltb-false _ _ few in drop-append-le t.grants.sent gs (grow ∷ []) (omega (arith, no_fewer, counted))

  asked_by : (w : Bool) (d : Direction) (body : Body) → drop (raised (w && is_grant body) d t.grants).sent (gs ++ (if w then grows_given d body else [])) ≡ (if w then asked_after d body t waiting else waiting)
  asked_by false d body = as_before
  asked_by true Taken (AcquireBlock g) = one_asked g (nat_lt t.acquires.taken t.grants.sent) refl
  asked_by true Sent (AcquireBlock g) = as_before
  asked_by true Sent (Grant c) = one_answered
  asked_by true Taken (Grant c) = as_before
  asked_by true Sent (GrantData c b) = one_answered
  asked_by true Taken (GrantData c b) = as_before
  asked_by true Sent (ProbeBlock c) = as_before
  asked_by true Taken (ProbeBlock c) = as_before
  asked_by true Sent (ProbeAck c) = as_before
  asked_by true Taken (ProbeAck c) = as_before
  asked_by true Sent (ProbeAckData c b) = as_before
  asked_by true Taken (ProbeAckData c b) = as_before
  asked_by true Sent (Release c) = as_before
  asked_by true Taken (Release c) = as_before
  asked_by true Sent (ReleaseData c b) = as_before
  asked_by true Taken (ReleaseData c b) = as_before
  asked_by true Sent ReleaseAck = as_before
  asked_by true Taken ReleaseAck = as_before
  asked_by true Sent GrantAck = as_before
  asked_by true Taken GrantAck = as_before

pub asked_more : (h line : ℕ) (log : List Logged) (e : Logged) → (hart_known_of h line (log ++ e ∷ [])).asked
    ≡ (if concerns h line e then asked_after e.direction e.message.body (hart_known_of h line log).tallies (hart_known_of h line log).asked else (hart_known_of h line log).asked)
asked_more h line log e =
    let grants : sent_count is_grant (concerns h line) (log ++ e ∷ []) ≡ (raised (concerns h line e && is_grant e.message.body) e.direction (tally_of is_grant (concerns h line) log)).sent =
    ap (λ (t : Tally). t.sent) (tally_more (concerns h line) log e is_grant) in
    (λ k. drop (grants k) (grows_more h line log e k)) ∙ asked_by (grows_taken h line log) (tallies_of (concerns h line) log) (grows_counted h line log) (concerns h line e) e.direction e.message.body
