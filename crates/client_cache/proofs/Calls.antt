-- The meaning of a call on each of its ways.
use Rattle.std.proofs.Common.{◌≡◌, ℕ, true, false, nat_le, Some, None, refl}
use Rattle.std.specs.FinMap as map
use Rattle.std.specs.FinSet as fset
use Rattle.machine_types.specs.declared.limits.TheConstants.{TRACKERS}
use Rattle.tl_types.specs.declared.permission.Cap.{Cap}
use Rattle.tl_types.specs.declared.permission.Perm.TheVariants.{Nothing}
use Rattle.tl_types.specs.Shrink.{shrunk_by}
use Rattle.client_cache.specs.declared.held.Held.{Held}
use Rattle.client_cache.specs.declared.answers.Evict.TheVariants.{NotHeld, AcquirePending, ReleaseFull}
use Rattle.client_cache.specs.declared.answers.Probed.TheVariants.{Answered, Releasing}
use Rattle.client_cache.specs.Held.{eviction_of, answer_of, shrunk_copy}
use Rattle.client_cache.specs.Cache.{Cache, copy_at, put, evicted, probed}

pub evicted_none : (c : Cache) (line : ℕ) → copy_at c line ≡ None → evicted c line ≡ (NotHeld, c)
evicted_none c line none = rw none refl

pub evicted_pending : (c : Cache) (line : ℕ) (h : Held) → copy_at c line ≡ Some h → fset.contains c.acquiring line ≡ true → evicted c line ≡ (AcquirePending, c)
evicted_pending c line h is a = rw (is, a) refl

pub evicted_full : (c : Cache) (line : ℕ) (h : Held) → copy_at c line ≡ Some h → fset.contains c.acquiring line ≡ false → nat_le TRACKERS (fset.len c.releasing) ≡ true → evicted c line ≡ (ReleaseFull, c)
evicted_full c line h is a t = rw (is, a, t) refl

pub evicted_held : (c : Cache) (line : ℕ) (h : Held) → copy_at c line ≡ Some h → fset.contains c.acquiring line ≡ false → nat_le TRACKERS (fset.len c.releasing) ≡ false
    → evicted c line ≡ (eviction_of h, record c { copies = map.remove c.copies line; releasing = fset.insert c.releasing line })
evicted_held c line h is a t = rw (is, a, t) refl

pub probed_none : (c : Cache) (line : ℕ) (cap : Cap) → fset.contains c.releasing line ≡ false → copy_at c line ≡ None → probed c line cap ≡ (Answered (shrunk_by Nothing cap).1 None, c)
probed_none c line cap l is = rw (l, is) refl

pub probed_held : (c : Cache) (line : ℕ) (cap : Cap) (h : Held) → fset.contains c.releasing line ≡ false → copy_at c line ≡ Some h
    → probed c line cap ≡ (answer_of cap h, record c { copies = put c.copies line (shrunk_copy cap h) })
probed_held c line cap h l is = rw (l, is) refl

pub probed_releasing : (c : Cache) (line : ℕ) (cap : Cap) → fset.contains c.releasing line ≡ true → probed c line cap ≡ (Releasing, c)
probed_releasing c line cap l = rw l refl
