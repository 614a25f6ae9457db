-- What a call of the cache comes to: it stalls and changes nothing, or it goes through. A stall of the cache is spoken of here, and nowhere else.
use Rattle.std.proofs.Common.{ℕ, Bool, true, false, List, ◌≡◌, Option, Some, None, refl}
use Rattle.std.specs.Prelude.{if◌then◌else◌, nat_le}
use Rattle.std.specs.FinMap as map
use Rattle.std.specs.FinSet as set
use Rattle.machine_types.specs.declared.limits.TheConstants.{TRACKERS}
use Rattle.client_cache.specs.Cache.{Cache, copy_at, evicted, evicted_copy, is_set_full, probed, probed_copy, wanted, word_written, word_written_in}
use Rattle.client_cache.specs.Held.{eviction_of}
use Rattle.client_cache.specs.declared.answers.Evict.{Evict}
use Rattle.client_cache.specs.declared.answers.Evict.TheVariants as evict
use Rattle.client_cache.specs.declared.answers.Probed.{Probed}
use Rattle.client_cache.specs.declared.answers.Probed.TheVariants as probe
use Rattle.client_cache.specs.declared.answers.Want.{Want}
use Rattle.client_cache.specs.declared.answers.Want.TheVariants as want
use Rattle.client_cache.specs.declared.held.Held.{Held}
use Rattle.tl_types.specs.declared.permission.Cap.{Cap}
use Rattle.tl_types.specs.declared.permission.Grow.{Grow}

-- a test decides, and what decides it is known
pub by_test : {X : Type 0} (P : X → Type 0) (t : Bool) (x y : X) → (t ≡ true → P x) → (t ≡ false → P y) → P (if t then x else y)
by_test P true x y p q = p refl
by_test P false x y p q = q refl

-- ---- a miss

-- no Acquire goes out
abbrev pub IsNoMiss : Want → Type 0
IsNoMiss (want.Missed grow) = ⊥
IsNoMiss _ = Unit {0}

pub record MayAsk (c : Cache) (l : ℕ) : Type 0 where
  pub not_releasing : set.contains c.releasing l ≡ false
  pub not_acquiring : set.contains c.acquiring l ≡ false
  pub tracked : nat_le TRACKERS (set.len c.acquiring) ≡ false
  pub placed : is_set_full c l ≡ false

abbrev pub asking : Cache → ℕ → Cache
asking c l = record c { acquiring = set.insert c.acquiring l }

pub by_wanted : (P : Want × Cache → Type 0) (c : Cache) (l : ℕ) (grow : Grow) → ((w : Want) → IsNoMiss w → P (w, c)) → (MayAsk c l → P (want.Missed grow, asking c l)) → P (wanted c l grow)
by_wanted P c l grow stalls asks =
    by_test P (set.contains c.releasing l) (want.WaitRelease, c) _ (λ e. stalls want.WaitRelease tt)
    (λ a. by_test P (set.contains c.acquiring l) (want.WaitGrant, c) _ (λ e. stalls want.WaitGrant tt)
    (λ b. by_test P (nat_le TRACKERS (set.len c.acquiring)) (want.NoTracker, c) _ (λ e. stalls want.NoTracker tt)
    (λ d. by_test P (is_set_full c l) (want.SetFull, c) (want.Missed grow, asking c l) (λ e. stalls want.SetFull tt)
    (λ f. asks (record { not_releasing = a; not_acquiring = b; tracked = d; placed = f })))))

-- ---- an eviction

-- no Release goes out
abbrev pub IsNoEviction : Evict → Type 0
IsNoEviction (evict.Evicted change bytes) = ⊥
IsNoEviction _ = Unit {0}

pub record MayLeave (c : Cache) (l : ℕ) : Type 0 where
  pub not_acquiring : set.contains c.acquiring l ≡ false
  pub tracked : nat_le TRACKERS (set.len c.releasing) ≡ false

abbrev pub leaving : Cache → ℕ → Cache
leaving c l = record c { copies = map.remove c.copies l; releasing = set.insert c.releasing l }

pub by_evicted : (P : Evict × Cache → Type 0) (c : Cache) (l : ℕ) → ((e : Evict) → IsNoEviction e → P (e, c)) → ((held : Held) → copy_at c l ≡ Some held → MayLeave c l → P (eviction_of held, leaving c l)) → P (evicted c l)
by_evicted P c l stalls leaves = by (copy_at c l) refl
  where
    by : (o : Option Held) → copy_at c l ≡ o → P (evicted_copy c l o)
    by None e = stalls evict.NotHeld tt
    by (Some held) e =
        by_test P (set.contains c.acquiring l) (evict.AcquirePending, c) _ (λ a. stalls evict.AcquirePending tt)
        (λ a. by_test P (nat_le TRACKERS (set.len c.releasing)) (evict.ReleaseFull, c) (eviction_of held, leaving c l) (λ b. stalls evict.ReleaseFull tt)
        (λ b. leaves held e (record { not_acquiring = a; tracked = b })))

-- ---- a Probe

pub by_probed : (P : Probed × Cache → Type 0) (c : Cache) (l : ℕ) (cap : Cap) → P (probe.Releasing, c) → (set.contains c.releasing l ≡ false → P (probed_copy c l cap (copy_at c l))) → P (probed c l cap)
by_probed P c l cap stalls answers = by_test P (set.contains c.releasing l) (probe.Releasing, c) (probed_copy c l cap (copy_at c l)) (λ e. stalls) answers

-- ---- what a call leaves of the shape and, of a miss, of the copies

pub wanted_keeps : (c : Cache) (l : ℕ) (grow : Grow) → ((wanted c l grow).1.shape ≡ c.shape) × ((wanted c l grow).1.copies ≡ c.copies)
wanted_keeps c l grow = by_wanted (λ a. (a.1.shape ≡ c.shape) × (a.1.copies ≡ c.copies)) c l grow (λ w is. (refl, refl)) (λ may. (refl, refl))

pub evicted_shape : (c : Cache) (l : ℕ) → (evicted c l).1.shape ≡ c.shape
evicted_shape c l = by_evicted (λ a. a.1.shape ≡ c.shape) c l (λ e is. refl) (λ held e may. refl)

pub probed_shape : (c : Cache) (l : ℕ) (cap : Cap) → (probed c l cap).1.shape ≡ c.shape
probed_shape c l cap = by_probed (λ a. a.1.shape ≡ c.shape) c l cap refl (λ e. go (copy_at c l))
  where
    go : (o : Option Held) → (probed_copy c l cap o).1.shape ≡ c.shape
    go None = refl
    go (Some held) = refl

pub written_shape : (c : Cache) (l word : ℕ) (marks : List Bool) (bytes : List ℕ) → (word_written c l word marks bytes).shape ≡ c.shape
written_shape c l word marks bytes = go (copy_at c l)
  where
    go : (o : Option Held) → (word_written_in c l word marks bytes o).shape ≡ c.shape
    go None = refl
    go (Some held) = refl
