-- One line's part of a cache after a call.
use Rattle.std.proofs.Common.{◌≡◌, ◌≢◌, ℕ, Bool, true, false, cond, nat_eq, nat_le, Option, Some, None, refl, ap, ◌∙◌, arith}
use Rattle.std.specs.Ordering.{nat_cmp}
use Rattle.std.specs.FinMap.{FinMap, get}
use Rattle.std.specs.FinSet as set
use Rattle.std.specs.FinSet.{FinSet}
use Rattle.machine_types.specs.declared.limits.TheConstants.{TRACKERS}
use Rattle.tl_types.specs.declared.line.LineData.{LineData}
use Rattle.tl_types.specs.declared.permission.Cap.{Cap}
use Rattle.tl_types.specs.declared.permission.Change.{Change}
use Rattle.tl_types.specs.declared.permission.Grow.{Grow}
use Rattle.client_cache.specs.declared.held.Held.{Held}
use Rattle.client_cache.specs.declared.answers.Want.{Want}
use Rattle.client_cache.specs.declared.answers.Want.TheVariants.{WaitRelease, WaitGrant, NoTracker, SetFull, Missed}
use Rattle.client_cache.specs.declared.answers.Evict.{Evict}
use Rattle.client_cache.specs.declared.answers.Evict.TheVariants.{AcquirePending, ReleaseFull, Evicted}
use Rattle.client_cache.specs.declared.answers.Probed.{Probed}
use Rattle.client_cache.specs.declared.answers.Probed.TheVariants.{Releasing}
use Rattle.client_cache.specs.Held.{shrunk_copy, shrunk_at}
use Rattle.client_cache.specs.Cache.{Cache, put, copy_at, is_set_full, wanted, probed, probed_copy, evicted, evicted_copy}
use Rattle.client_cache.specs.AtLine.{at_line, KeepsOthers}
use Rattle.client_cache.proofs.Copies.{get-put}
use Rattle.client_cache.proofs.Rooms.{tells_insert, tells_remove}

own_test : (q : ℕ) → nat_eq q q ≡ true
own_test q = grind arith

other_test : (q line : ℕ) → q ≢ line → nat_eq q line ≡ false
other_test q line n = grind (arith, n)

-- a map or a set at the line, and at another
pub put_own : (m : FinMap nat_cmp Held) (line : ℕ) (o : Option Held) → get (put m line o) line ≡ o
put_own m line o = get-put m line o line ∙ ap (λ b. cond b o (get m line)) (own_test line)

pub put_other : (m : FinMap nat_cmp Held) (line : ℕ) (o : Option Held) (q : ℕ) → q ≢ line → get (put m line o) q ≡ get m q
put_other m line o q n = get-put m line o q ∙ ap (λ b. cond b o (get m q)) (other_test q line n)

pub insert_own : (s : FinSet nat_cmp) (line : ℕ) → set.contains (set.insert s line) line ≡ true
insert_own s line = tells_insert s line line ∙ ap (λ b. cond b true (set.contains s line)) (own_test line)

pub insert_other : (s : FinSet nat_cmp) (line q : ℕ) → q ≢ line → set.contains (set.insert s line) q ≡ set.contains s q
insert_other s line q n = tells_insert s line q ∙ ap (λ b. cond b true (set.contains s q)) (other_test q line n)

pub remove_own : (s : FinSet nat_cmp) (line : ℕ) → set.contains (set.remove s line) line ≡ false
remove_own s line = tells_remove s line line ∙ ap (λ b. cond b false (set.contains s line)) (own_test line)

pub remove_other : (s : FinSet nat_cmp) (line q : ℕ) → q ≢ line → set.contains (set.remove s line) q ≡ set.contains s q
remove_other s line q n = tells_remove s line q ∙ ap (λ b. cond b false (set.contains s q)) (other_test q line n)

-- a choice keeps what both sides keep
keeps : (A : Type 0) (line : ℕ) (c : Cache) (b : Bool) (x y : A × Cache) → KeepsOthers line c x.1 → KeepsOthers line c y.1 → KeepsOthers line c (cond b x y).1
keeps A line c true x y e f = e
keeps A line c false x y e f = f

same : (line : ℕ) (c : Cache) → KeepsOthers line c c
same line c q n = refl

pub wanted_other : (c : Cache) (line : ℕ) (grow : Grow) → KeepsOthers line c (wanted c line grow).1
wanted_other c line grow =
    keeps Want line c (set.contains c.releasing line) _ _ (same line c)
    (keeps Want line c (set.contains c.acquiring line) _ _ (same line c)
    (keeps Want line c (nat_le TRACKERS (set.len c.acquiring)) _ _ (same line c)
    (keeps Want line c (is_set_full c line) _ _ (same line c)
    (λ q n i. record { copy = copy_at c q; acquiring = insert_other c.acquiring line q n i; releasing = set.contains c.releasing q }))))

probed_copy_other : (c : Cache) (line : ℕ) (cap : Cap) (o : Option Held) → KeepsOthers line c (probed_copy c line cap o).1
probed_copy_other c line cap None q n = refl
probed_copy_other c line cap (Some h) q n = λ i. record { copy = put_other c.copies line (shrunk_copy cap h) q n i; acquiring = set.contains c.acquiring q; releasing = set.contains c.releasing q }

pub probed_other : (c : Cache) (line : ℕ) (cap : Cap) → KeepsOthers line c (probed c line cap).1
probed_other c line cap = keeps Probed line c (set.contains c.releasing line) _ _ (same line c) (probed_copy_other c line cap (copy_at c line))

evicted_copy_other : (c : Cache) (line : ℕ) (o : Option Held) → KeepsOthers line c (evicted_copy c line o).1
evicted_copy_other c line None = same line c
evicted_copy_other c line (Some h) =
    keeps Evict line c (set.contains c.acquiring line) _ _ (same line c)
    (keeps Evict line c (nat_le TRACKERS (set.len c.releasing)) _ _ (same line c)
    (λ q n i. record { copy = put_other c.copies line None q n i; acquiring = set.contains c.acquiring q; releasing = insert_other c.releasing line q n i }))

pub evicted_other : (c : Cache) (line : ℕ) → KeepsOthers line c (evicted c line).1
evicted_other c line = evicted_copy_other c line (copy_at c line)

-- the answers of a miss, with its tests as they come out
abbrev miss : Cache → Cache → Grow → Bool → Bool → Bool → Bool → Want × Cache
miss c after grow a b d f = cond a (WaitRelease, c) (cond b (WaitGrant, c) (cond d (NoTracker, c) (cond f (SetFull, c) (Missed grow, after))))

missed_after : (c after : Cache) (grow : Grow) (a b d f : Bool) → (miss c after grow a b d f).0 ≡ Missed grow → (miss c after grow a b d f).1 ≡ after
missed_after c after grow true b d f is = absurd (cc)
missed_after c after grow false true d f is = absurd (cc)
missed_after c after grow false false true f is = absurd (cc)
missed_after c after grow false false false true is = absurd (cc)
missed_after c after grow false false false false is = refl

stalled_same : (c after : Cache) (grow : Grow) (a b d f : Bool) → (miss c after grow a b d f).0 ≢ Missed grow → (miss c after grow a b d f).1 ≡ c
stalled_same c after grow true b d f n = refl
stalled_same c after grow false true d f n = refl
stalled_same c after grow false false true f n = refl
stalled_same c after grow false false false true n = refl
stalled_same c after grow false false false false n = absurd (n refl)

pub missed_own : (c : Cache) (line : ℕ) (grow : Grow) → (wanted c line grow).0 ≡ Missed grow → at_line (wanted c line grow).1 line ≡ record (at_line c line) { acquiring = true }
missed_own c line grow is =
    ap (λ (x : Cache). at_line x line) (missed_after c (record c { acquiring = set.insert c.acquiring line }) grow (set.contains c.releasing line) (set.contains c.acquiring line) (nat_le TRACKERS (set.len c.acquiring)) (is_set_full c line) is)
    ∙ (λ i. record { copy = copy_at c line; acquiring = insert_own c.acquiring line i; releasing = set.contains c.releasing line })

pub stalled_own : (c : Cache) (line : ℕ) (grow : Grow) → (wanted c line grow).0 ≢ Missed grow → (wanted c line grow).1 ≡ c
stalled_own c line grow n =
    stalled_same c (record c { acquiring = set.insert c.acquiring line }) grow (set.contains c.releasing line) (set.contains c.acquiring line) (nat_le TRACKERS (set.len c.acquiring)) (is_set_full c line) n

probed_copy_own : (c : Cache) (line : ℕ) (cap : Cap) (o : Option Held) → copy_at c line ≡ o → at_line (probed_copy c line cap o).1 line ≡ record (at_line c line) { copy = shrunk_at cap o }
probed_copy_own c line cap None is = λ i. record { copy = is i; acquiring = set.contains c.acquiring line; releasing = set.contains c.releasing line }
probed_copy_own c line cap (Some h) is = λ i. record { copy = put_own c.copies line (shrunk_copy cap h) i; acquiring = set.contains c.acquiring line; releasing = set.contains c.releasing line }

pub probed_own : (c : Cache) (line : ℕ) (cap : Cap) → set.contains c.releasing line ≡ false → at_line (probed c line cap).1 line ≡ record (at_line c line) { copy = shrunk_at cap (copy_at c line) }
probed_own c line cap released =
    ap (λ b. at_line (cond b (Releasing, c) (probed_copy c line cap (copy_at c line))).1 line) released
    ∙ probed_copy_own c line cap (copy_at c line) refl

abbrev leave : Cache → Cache → Evict → Bool → Bool → Evict × Cache
leave c after answer a f = cond a (AcquirePending, c) (cond f (ReleaseFull, c) (answer, after))

left_after : (c after : Cache) (answer : Evict) (a f : Bool) (change : Change) (bytes : Option LineData) → (leave c after answer a f).0 ≡ Evicted change bytes → (leave c after answer a f).1 ≡ after
left_after c after answer true f change bytes is = absurd (cc)
left_after c after answer false true change bytes is = absurd (cc)
left_after c after answer false false change bytes is = refl

evicted_copy_own : (c : Cache) (line : ℕ) (change : Change) (bytes : Option LineData) (o : Option Held) → (evicted_copy c line o).0 ≡ Evicted change bytes → at_line (evicted_copy c line o).1 line ≡ record (at_line c line) { copy = None; releasing = true }
evicted_copy_own c line change bytes None is = absurd (cc)
evicted_copy_own c line change bytes (Some h) is =
    ap (λ (x : Cache). at_line x line) (left_after c _ _ (set.contains c.acquiring line) (nat_le TRACKERS (set.len c.releasing)) change bytes is)
    ∙ (λ i. record { copy = put_own c.copies line None i; acquiring = set.contains c.acquiring line; releasing = insert_own c.releasing line i })

pub evicted_own : (c : Cache) (line : ℕ) (change : Change) (bytes : Option LineData) → (evicted c line).0 ≡ Evicted change bytes → at_line (evicted c line).1 line ≡ record (at_line c line) { copy = None; releasing = true }
evicted_own c line change bytes is = evicted_copy_own c line change bytes (copy_at c line) is
