-- The lawful log, whole and by entries.
use Rattle.std.specs.Prelude.{ℕ, ◌≡◌, ◌<◌, ◌+◌, ◌↔◌, Bool, IsTrue, List, Some, slice_get, take}
use Rattle.machine_model.specs.LawfulLog.{IsLawfulLog}
use Rattle.lawful_log.specs.Rules.{IsLawfulBy, Obeys, rank}
use Rattle.lawful_log.specs.declared.profile.Profile.{Profile}
use Rattle.lawful_log.specs.declared.profile.Profile.TheVariants.{Machine, TileLink}
use Rattle.lawful_log.specs.declared.rule.LogRule.{LogRule}
use Rattle.lawful_log.specs.declared.rule.LogVerdict.{LogVerdict}
use Rattle.lawful_log.specs.declared.rule.LogVerdict.TheVariants.{Lawful, Unlawful}
use Rattle.trace_recorder.specs.declared.logged.Logged.{Logged}

-- a log is lawful exactly where no entry breaks a rule of this machine's
abbrev pub EntriesDecide : Type 0
EntriesDecide = (log : List Logged) → IsLawfulLog log ↔ IsLawfulBy Machine log

-- an entry that keeps a rule as this machine's asks it keeps it as TileLink's does, and so does a log
pub record ProfilesNest : Type 0 where
  pub entries : (rule : LogRule) (log : List Logged) (e : Logged) → Obeys Machine rule log e → Obeys TileLink rule log e
  pub logs : (log : List Logged) → IsLawfulBy Machine log → IsLawfulBy TileLink log

-- that an entry breaks a rule shows that it breaks this machine's alone, or TileLink's too
abbrev pub IsOwnRule : LogRule → Logged → (own : Bool) → Type 0
IsOwnRule rule e own = (log : List Logged) → ¬ Obeys Machine rule log e → IsTrue own ↔ Obeys TileLink rule log e

-- the entry at `index` is the first that breaks a rule, and `rule` the first of those that it breaks
pub record IsFirstBreach (profile : Profile) (log : List Logged) (rule : LogRule) (index : ℕ) : Type 0 where
  pub entry : Logged
  pub stands : slice_get log index ≡ Some entry
  pub lawful_before : IsLawfulBy profile (take index log)
  pub unlawful_with : ¬ IsLawfulBy profile (take (index + 1) log)
  pub broken : ¬ Obeys profile rule (take index log) entry
  pub first : (r : LogRule) → rank r < rank rule → Obeys profile r (take index log) entry

abbrev pub IfUnlawful : LogVerdict → (LogRule → ℕ → Type 0) → Type 0
IfUnlawful Lawful P = Unit {0}
IfUnlawful (Unlawful rule index) P = P rule index
