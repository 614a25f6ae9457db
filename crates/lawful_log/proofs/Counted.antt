-- What one more entry adds to what is counted of a log.
use Rattle.std.proofs.Common.{ℕ, ◌+◌, ◌<◌, ◌≤◌, ◌^◌, Bool, true, false, List, [], ◌∷◌, ◌++◌, ◌≡◌, None, refl, ap, cond, ◌∙◌, length, arith}
use Rattle.std.specs.Prelude.{◌&&◌, not, if◌then◌else◌, filter}
use Rattle.std.specs.List.{cons_option}
use Rattle.std.proofs.lemmas.List.{length-append}
use Rattle.std.proofs.lemmas.List.Elements.{filter-append, filter_map-append}
use Rattle.machine_model.proofs.log.Counts.{bit}
use Rattle.machine_model.specs.LawfulLog.{concerns, grow_in, grows_taken, is_acquire, is_grant, is_grant_ack, is_probe, is_probe_ack, is_release, is_release_ack, is_sent, lost_after, lost_since_asking, sent_count, taken_count}
use Rattle.lawful_log.specs.Facts.{CanCount, HaveRoom, counted, counted_as, goes_up, tallies_of, tally_of}
use Rattle.lawful_log.specs.declared.tallies.Tallies.{Tallies}
use Rattle.lawful_log.specs.declared.tallies.Tally.{Tally}
use Rattle.tl_types.specs.declared.message.Body.{Body}
use Rattle.tl_types.specs.declared.message.Body.TheVariants.{AcquireBlock, ProbeBlock, ProbeAck, ProbeAckData, Release, ReleaseData, Grant, GrantData, ReleaseAck, GrantAck}
use Rattle.trace_recorder.specs.declared.logged.Direction.{Direction}
use Rattle.trace_recorder.specs.declared.logged.Direction.TheVariants.{Sent, Taken}
use Rattle.trace_recorder.specs.declared.logged.Logged.{Logged}

-- ---- tallies

count : (p : Logged → Bool) (log : List Logged) (e : Logged) → length (filter p (log ++ e ∷ [])) ≡ length (filter p log) + bit (p e)
count p log e = ap length (filter-append p log (e ∷ [])) ∙ length-append (filter p log) (filter p (e ∷ [])) ∙ ap (λ n. length (filter p log) + n) (one (p e))
  where
    one : (b : Bool) → length (cond b (e ∷ []) []) ≡ bit b
    one true = refl
    one false = refl

abbrev pub raised : Bool → Direction → Tally → Tally
raised true d t = goes_up d t
raised false d t = t

tally_as : (d : Direction) (b : Bool) (s t s' t' : ℕ) → s' ≡ s + bit (is_sent d && b) → t' ≡ t + bit (not (is_sent d) && b) → record { sent = s'; taken = t' } ≡ raised b d (record { sent = s; taken = t })
tally_as Sent true s t s' t' e f = let g : t' ≡ t = omega (arith, f) in rw (e, g) refl
tally_as Sent false s t s' t' e f = let g : t' ≡ t = omega (arith, f) in let i : s' ≡ s = omega (arith, e) in rw (i, g) refl
tally_as Taken true s t s' t' e f = let i : s' ≡ s = omega (arith, e) in rw (i, f) refl
tally_as Taken false s t s' t' e f = let g : t' ≡ t = omega (arith, f) in let i : s' ≡ s = omega (arith, e) in rw (i, g) refl

and-assoc : (a b c : Bool) → (a && b && c) ≡ (a && (b && c))
and-assoc true b c = refl
and-assoc false b c = refl

module _ (who : Logged → Bool) (log : List Logged) (e : Logged) where
  pub tally_more : (kind : Body → Bool) → tally_of kind who (log ++ e ∷ []) ≡ raised (who e && kind e.message.body) e.direction (tally_of kind who log)
  tally_more kind = tally_as e.direction (who e && kind e.message.body) (sent_count kind who log) (taken_count kind who log) (sent_count kind who (log ++ e ∷ [])) (taken_count kind who (log ++ e ∷ []))
      (count (λ (e : Logged). is_sent e.direction && who e && kind e.message.body) log e ∙ ap (λ b. sent_count kind who log + bit b) (and-assoc (is_sent e.direction) (who e) (kind e.message.body)))
      (count (λ (e : Logged). not (is_sent e.direction) && who e && kind e.message.body) log e ∙ ap (λ b. taken_count kind who log + bit b) (and-assoc (not (is_sent e.direction)) (who e) (kind e.message.body)))

abbrev all_raised : Bool → Body → Direction → Tallies → Tallies
all_raised w body d t = record {
  acquires = raised (w && is_acquire body) d t.acquires;
  probes = raised (w && is_probe body) d t.probes;
  probe_acks = raised (w && is_probe_ack body) d t.probe_acks;
  releases = raised (w && is_release body) d t.releases;
  release_acks = raised (w && is_release_ack body) d t.release_acks;
  grants = raised (w && is_grant body) d t.grants;
  grant_acks = raised (w && is_grant_ack body) d t.grant_acks;
}

raised_known : (w : Bool) (body : Body) (d : Direction) (t : Tallies) → all_raised w body d t ≡ (if w then counted_as body d t else t)
raised_known false body d t = refl
raised_known true (AcquireBlock g) d t = refl
raised_known true (ProbeBlock c) d t = refl
raised_known true (ProbeAck c) d t = refl
raised_known true (ProbeAckData c b) d t = refl
raised_known true (Release c) d t = refl
raised_known true (ReleaseData c b) d t = refl
raised_known true (Grant c) d t = refl
raised_known true (GrantData c b) d t = refl
raised_known true ReleaseAck d t = refl
raised_known true GrantAck d t = refl

pub tallies_more : (who : Logged → Bool) (log : List Logged) (e : Logged) → tallies_of who (log ++ e ∷ []) ≡ (if who e then counted e (tallies_of who log) else tallies_of who log)
tallies_more who log e = (λ k. record {
  acquires = tally_more who log e is_acquire k;
  probes = tally_more who log e is_probe k;
  probe_acks = tally_more who log e is_probe_ack k;
  releases = tally_more who log e is_release k;
  release_acks = tally_more who log e is_release_ack k;
  grants = tally_more who log e is_grant k;
  grant_acks = tally_more who log e is_grant_ack k;
}) ∙ raised_known (who e) e.message.body e.direction (tallies_of who log)

-- ---- a log is no shorter than what is counted of it

few : (p : Logged → Bool) (log : List Logged) → length (filter p log) ≤ length log
few p [] = omega arith
few p (e ∷ log) = go (p e) (few p log)
  where
    go : (b : Bool) → length (filter p log) ≤ length log → length (cond b (e ∷ filter p log) (filter p log)) ≤ length (e ∷ log)
    go true h = omega (arith, h)
    go false h = omega (arith, h)

has_room : (kind : Body → Bool) (who : Logged → Bool) (log : List Logged) → length log + 1 < 2 ^ 64 → CanCount (tally_of kind who log)
has_room kind who log h = record {
  for_sent = (let f : sent_count kind who log ≤ length log = few _ log in omega (arith, f, h));
  for_taken = (let f : taken_count kind who log ≤ length log = few _ log in omega (arith, f, h));
}

pub have_room : (who : Logged → Bool) (log : List Logged) → length log + 1 < 2 ^ 64 → HaveRoom (tallies_of who log)
have_room who log h = record {
  acquires = has_room is_acquire who log h;
  probes = has_room is_probe who log h;
  probe_acks = has_room is_probe_ack who log h;
  releases = has_room is_release who log h;
  release_acks = has_room is_release_ack who log h;
  grants = has_room is_grant who log h;
  grant_acks = has_room is_grant_ack who log h;
}

-- ---- what was lost

pub lost_more : (h line : ℕ) (lost : Bool) (log : List Logged) (e : Logged) → lost_since_asking h line lost (log ++ e ∷ []) ≡ lost_after h line (lost_since_asking h line lost log) e
lost_more h line lost [] e = refl
lost_more h line lost (x ∷ log) e = lost_more h line (lost_after h line lost x) log e
