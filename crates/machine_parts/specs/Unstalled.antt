-- That nothing which an act's plan tested stands in the way of its change.
use Rattle.std.specs.Prelude.{ℕ}
use Rattle.client_cache.specs.Cache.{evicted, probed}
use Rattle.client_cache.specs.declared.answers.Evict.{Evict}
use Rattle.client_cache.specs.declared.answers.Evict.TheVariants.{Evicted}
use Rattle.client_cache.specs.declared.answers.Probed.{Probed}
use Rattle.client_cache.specs.declared.answers.Probed.TheVariants.{Answered}
use Rattle.directory.specs.Directory.{acquired}
use Rattle.directory.specs.declared.answer.Acquired.{Acquired}
use Rattle.directory.specs.declared.answer.Acquired.TheVariants.{Handled}
use Rattle.machine_model.specs.declared.act.Act.{Act}
use Rattle.machine_model.specs.declared.act.Act.TheVariants as act
use Rattle.machine_model.specs.Views.{State, line_size, node_at, place_of}
use Rattle.tl_types.specs.declared.message.Body.{Body}
use Rattle.tl_types.specs.declared.message.Body.TheVariants.{AcquireBlock, ProbeBlock}

-- the cache gives the line up
abbrev pub IsGivenUp : Evict → Type 0
IsGivenUp (Evicted change bytes) = Unit {0}
IsGivenUp _ = ⊥

-- the cache answers the Probe
abbrev pub IsAnswered : Probed → Type 0
IsAnswered (Answered change bytes) = Unit {0}
IsAnswered _ = ⊥

-- the manager takes the Acquire
abbrev pub IsHandled : Acquired → Type 0
IsHandled (Handled sends) = Unit {0}
IsHandled _ = ⊥

abbrev pub IsUnstalledBody : ℕ → ℕ → Body → State → Type 0
IsUnstalledBody h line (AcquireBlock grow) s = IsHandled (acquired s.views.notes (place_of (line_size s) line) h grow).0
IsUnstalledBody h line (ProbeBlock cap) s = IsAnswered (probed (node_at s h).cache line cap).0
IsUnstalledBody h line _ s = Unit {0}

abbrev pub IsUnstalled : ℕ → Act → State → Type 0
IsUnstalled h (act.Evict line) s = IsGivenUp (evicted (node_at s h).cache line).0
IsUnstalled h (act.Deliver m) s = IsUnstalledBody h m.line m.body s
IsUnstalled h _ s = Unit {0}
