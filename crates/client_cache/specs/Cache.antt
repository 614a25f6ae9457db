-- A private cache as its callers see it, and what each call does to it. Nothing here knows of slots.
-- TileLink 1.8.1 has the messages; that a Probe waits for a ReleaseAck is this machine's own rule.
use Rattle.std.specs.Prelude.{ℕ, Bool, not, ◌&&◌, List, Option, Some, None, true, is_some, if◌then◌else◌, nat_eq, nat_le, refl}
use Rattle.std.specs.Ordering.{nat_cmp}
use Rattle.std.specs.FinMap as map
use Rattle.std.specs.FinMap.{FinMap, get}
use Rattle.std.specs.FinSet as set
use Rattle.std.specs.FinSet.{FinSet}
use Rattle.std.specs.Coded.{Coded, code_by, coded×}
use Rattle.std.specs.Coded.{coded_ℕ}
use Rattle.machine_types.specs.declared.limits.TheConstants.{TRACKERS}
use Rattle.tl_types.specs.declared.line.LineData.{LineData}
use Rattle.tl_types.specs.declared.line.LineSize.{LineSize}
use Rattle.tl_types.specs.declared.permission.Perm.TheVariants.{Nothing}
use Rattle.tl_types.specs.declared.permission.Cap.{Cap}
use Rattle.tl_types.specs.declared.permission.Grow.{Grow}
use Rattle.tl_types.specs.Shrink.{shrunk_by}
use Rattle.client_cache.specs.declared.held.Held.{Held}
use Rattle.client_cache.specs.declared.held.Held.TheVariants.{Trunk}
use Rattle.client_cache.specs.declared.shape.Shape.{Shape}
use Rattle.client_cache.specs.declared.answers.Want.{Want}
use Rattle.client_cache.specs.declared.answers.Want.TheVariants.{WaitRelease, WaitGrant, NoTracker, SetFull, Missed}
use Rattle.client_cache.specs.declared.answers.Evict.{Evict}
use Rattle.client_cache.specs.declared.answers.Evict.TheVariants.{NotHeld, AcquirePending, ReleaseFull}
use Rattle.client_cache.specs.declared.answers.Probed.{Probed}
use Rattle.client_cache.specs.declared.answers.Probed.TheVariants.{Releasing, Answered}
use Rattle.client_cache.specs.Shape.{set_of}
use Rattle.client_cache.specs.Word.{with_word}
use Rattle.client_cache.specs.Held.{bytes_in, eviction_of, answer_of, shrunk_copy, granted_copy}

-- the copies by line, the lines of which an Acquire is outstanding, and those of which a Release is unanswered
pub record Cache : Type 0 where
  pub shape : Shape
  pub copies : FinMap nat_cmp Held
  pub acquiring : FinSet nat_cmp
  pub releasing : FinSet nat_cmp

abbrev pub opening : ℕ → ℕ → LineSize → Cache
opening sets ways size = record { shape = record { sets = sets; ways = ways; size = size }; copies = map.empty; acquiring = set.empty; releasing = set.empty }

-- a line's copy; with none the line is Nothing
abbrev pub copy_at : Cache → ℕ → Option Held
copy_at c line = get c.copies line

abbrev pub bytes_of_copy : Option Held → Option LineData
bytes_of_copy None = None
bytes_of_copy (Some h) = Some (bytes_in h)

-- a line's copy becomes this, or goes
abbrev pub put : FinMap nat_cmp Held → ℕ → Option Held → FinMap nat_cmp Held
put m line None = map.remove m line
put m line (Some h) = map.insert m line h

-- the lines of this line's set that are held or of which an Acquire is outstanding, each once
abbrev pub lines_in_set : Cache → ℕ → FinSet nat_cmp
lines_in_set c line = set.retain (set.union (set.from_list (map.keys c.copies)) c.acquiring) (λ k. nat_eq (set_of c.shape k) (set_of c.shape line))

-- the line isn't held, and each way of its set is taken
abbrev pub is_set_full : Cache → ℕ → Bool
is_set_full c line = not (is_some (copy_at c line)) && nat_le c.shape.ways (set.len (lines_in_set c line))

-- a miss on a line: what it waits for, or the Acquire
abbrev pub wanted : Cache → ℕ → Grow → Want × Cache
wanted c line grow =
    if set.contains c.releasing line then (WaitRelease, c)
    else if set.contains c.acquiring line then (WaitGrant, c)
    else if nat_le TRACKERS (set.len c.acquiring) then (NoTracker, c)
    else if is_set_full c line then (SetFull, c)
    else (Missed grow, record c { acquiring = set.insert c.acquiring line })

-- a Probe of what the cache has
abbrev pub probed_copy : Cache → ℕ → Cap → Option Held → Probed × Cache
probed_copy c line cap None = (Answered (shrunk_by Nothing cap).1 None, c)
probed_copy c line cap (Some h) = (answer_of cap h, record c { copies = put c.copies line (shrunk_copy cap h) })

-- a Probe waits for the answer of this cache's own Release of the line
abbrev pub probed : Cache → ℕ → Cap → Probed × Cache
probed c line cap = if set.contains c.releasing line then (Releasing, c) else probed_copy c line cap (copy_at c line)

-- a Grant answers the line's Acquire
abbrev pub granted : Cache → ℕ → Cap → Option LineData → Cache
granted c line cap bytes = record c { copies = put c.copies line (granted_copy cap bytes (copy_at c line)); acquiring = set.remove c.acquiring line }

-- a ReleaseAck answers the line's Release
abbrev pub answered : Cache → ℕ → Cache
answered c line = record c { releasing = set.remove c.releasing line }

abbrev pub evicted_copy : Cache → ℕ → Option Held → Evict × Cache
evicted_copy c line None = (NotHeld, c)
evicted_copy c line (Some h) =
    if set.contains c.acquiring line then (AcquirePending, c)
    else if nat_le TRACKERS (set.len c.releasing) then (ReleaseFull, c)
    else (eviction_of h, record c { copies = map.remove c.copies line; releasing = set.insert c.releasing line })

abbrev pub evicted : Cache → ℕ → Evict × Cache
evicted c line = evicted_copy c line (copy_at c line)

-- a write of the whole line marks the copy dirty, also where its bytes stay the same
abbrev pub written : Cache → ℕ → LineData → Cache
written c line bytes = record c { copies = put c.copies line (Some (Trunk true bytes)) }

-- a write of the marked bytes of a word of a held line, likewise
abbrev pub word_written_in : Cache → ℕ → ℕ → List Bool → List ℕ → Option Held → Cache
word_written_in c line word marks bytes None = c
word_written_in c line word marks bytes (Some h) = written c line (with_word (bytes_in h) word marks bytes)

abbrev pub word_written : Cache → ℕ → ℕ → List Bool → List ℕ → Cache
word_written c line word marks bytes = word_written_in c line word marks bytes (copy_at c line)

-- a cache is stored as its fields
abbrev pub cache_code : Coded Shape → Coded Held → Coded Cache
cache_code shape held =
    code_by (Shape × (FinMap nat_cmp Held × (FinSet nat_cmp × FinSet nat_cmp)))
    (coded× shape (coded× (map.code coded_ℕ held) (coded× (set.code coded_ℕ) (set.code coded_ℕ))))
    (λ c. (c.shape, (c.copies, (c.acquiring, c.releasing))))
    (λ p. record { shape = p.0; copies = p.1.0; acquiring = p.1.1.0; releasing = p.1.1.1 })
    (λ _. refl)
