-- Where a reader stopped. The clauses of read_script don't rest on these words: they are what its parts answer.
use Rattle.std.specs.Prelude.{◌≡◌, ℕ, Bool, false, List, [], ◌∷◌, ◌++◌, Option, None, Some, length, take, suc, ◌-◌, ◌<◌}
use Rattle.std.specs.List.{flat_map, AllByRecursion}
use Rattle.machine_types.specs.declared.event.Event.{Event}
use Rattle.trace_text.specs.declared.fault.Stop.{Stop}
use Rattle.trace_text.specs.declared.fault.Stop.TheVariants.{Memory, Bytes}
use Rattle.trace_text.specs.Refusals.{EndsScript, is_blank, line_feeds}
use Rattle.trace_text.specs.ScriptReading.{event_at}
use Rattle.trace_text.specs.Scripts.{event, IsEvent}

abbrev pub left_of : Stop → ℕ
left_of (Memory left) = left
left_of (Bytes left) = left

-- the number of the line that begins where so many bytes are left
abbrev pub line_number : List ℕ → ℕ → ℕ
line_number bytes left = suc (line_feeds (take (length bytes - left) bytes))

-- a space or a line feed stands next
abbrev pub is_parted : Option (List ℕ) → Bool
is_parted None = false
is_parted (Some []) = false
is_parted (Some (b ∷ bytes)) = is_blank b

-- events, and then bytes that are none
pub record AreEventsBefore (bytes : List ℕ) (left : ℕ) : Type 0 where
  pub events : List Event
  pub rest : List ℕ
  pub parts : bytes ≡ flat_map event events ++ rest
  pub each : AllByRecursion IsEvent events
  pub some : 0 < length rest
  pub none : event_at rest ≡ None
  pub long : left ≡ length rest

abbrev pub IsEventStop : List ℕ → Stop → Type 0
IsEventStop bytes (Memory left) = Unit {0}
IsEventStop bytes (Bytes left) = AreEventsBefore bytes left

-- so many bytes are left from the line that ends the script
pub record StopsScript (bytes : List ℕ) (left : ℕ) : Type 0 where
  pub before : List ℕ
  pub rest : List ℕ
  pub parts : bytes ≡ before ++ rest
  pub ends : EndsScript before rest
  pub long : left ≡ length rest

abbrev pub IsScriptStop : List ℕ → Stop → Type 0
IsScriptStop bytes (Memory left) = Unit {0}
IsScriptStop bytes (Bytes left) = StopsScript bytes left
