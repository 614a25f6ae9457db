-- What the one pass keeps of a log.
use Rattle.std.specs.Prelude.{ℕ, ◌≡◌, List, Option, None, nat_eq, slice_get}
use Rattle.std.specs.HashMap.{HashMap, get}
use Rattle.std.specs.Option.{option_map_or}
use Rattle.tl_types.specs.declared.line.LineData.{LineData}
use Rattle.trace_recorder.specs.declared.logged.Logged.{Logged}
use Rattle.written_lines.specs.Written.{granted_of}
use Rattle.written_lines.specs.declared.granted.Granted.{Granted}
use Rattle.written_lines.specs.declared.granted.LineGrants.{LineGrants}

-- what stands of a hart; beyond the list's end nothing
abbrev pub granted_at : List (Option LineData) → ℕ → Option LineData
granted_at harts h = option_map_or (λ (o : Option LineData). o) (slice_get harts h) None

abbrev pub granted_in : {S : Type 0} → HashMap ℕ LineGrants S → ℕ → ℕ → Option LineData
granted_in m h line = option_map_or (λ (l : LineGrants). granted_at l.harts.items h) (get nat_eq m line) None

-- the map says of a log what each hart was granted last of each line
abbrev pub Follows : Granted → List Logged → Type 0
Follows g log = (h line : ℕ) → granted_in g.lines h line ≡ granted_of h line log
