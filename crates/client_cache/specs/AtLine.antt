-- A cache seen at one line.
use Rattle.std.specs.Prelude.{◌≡◌, ◌≢◌, ℕ, Bool, Option}
use Rattle.std.specs.FinSet as set
use Rattle.client_cache.specs.declared.held.Held.{Held}
use Rattle.client_cache.specs.Cache.{Cache, copy_at}

pub record AtLine : Type 0 where
  pub copy : Option Held
  pub acquiring : Bool
  pub releasing : Bool

abbrev pub at_line : Cache → ℕ → AtLine
at_line c line = record { copy = copy_at c line; acquiring = set.contains c.acquiring line; releasing = set.contains c.releasing line }

-- every other line is to the cache what it was
abbrev pub KeepsOthers : ℕ → Cache → Cache → Type 0
KeepsOthers line old new = (q : ℕ) → q ≢ line → at_line new q ≡ at_line old q
