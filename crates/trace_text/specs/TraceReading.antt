-- Reading a trace from left to right. The clauses of read_trace don't rest on these words: they are what its parts answer.
use Rattle.std.specs.Prelude.{ℕ, Bool, true, false, List, [], ◌∷◌, Option, Some, None, codes}
use Rattle.std.specs.Option.{option_or}
use Rattle.text_fields.specs.Reading.{◌>>=◌, pair_at, chain_at, seen_at, led_at, table_at, after, word_at, hex_at}
use Rattle.tl_types.specs.declared.line.LineSize.{LineSize}
use Rattle.tl_types.specs.declared.line.LineSize.TheVariants as sizes
use Rattle.tl_types.specs.declared.line.LineData.{LineData}
use Rattle.tl_types.specs.declared.line.LineData.TheVariants as lines
use Rattle.tl_types.specs.declared.message.Body.{Body}
use Rattle.tl_types.specs.declared.message.Body.TheVariants as bodies
use Rattle.tl_types.specs.declared.message.Msg.{Msg}
use Rattle.tl_types.specs.declared.permission.Cap.{Cap}
use Rattle.tl_types.specs.declared.permission.Cap.TheVariants.{ToT, ToB, ToN}
use Rattle.tl_types.specs.declared.permission.Change.{Change}
use Rattle.tl_types.specs.declared.permission.Change.TheVariants.{TtoB, TtoN, BtoN, TtoT, BtoB, NtoN}
use Rattle.tl_types.specs.declared.permission.Grow.{Grow}
use Rattle.tl_types.specs.declared.permission.Grow.TheVariants.{NtoB, NtoT, BtoT}
use Rattle.trace_recorder.specs.declared.logged.Direction.{Direction}
use Rattle.trace_recorder.specs.declared.logged.Direction.TheVariants.{Sent, Taken}
use Rattle.trace_text.specs.declared.message_reading.Name.{Name}
use Rattle.trace_text.specs.declared.message_reading.Name.TheVariants as names

-- ---- words

abbrev pub directions : List (List ℕ × Direction)
directions = (codes "s ", Sent) ∷ (codes "t ", Taken) ∷ []

unfoldable pub direction_at : List ℕ → Option (Direction × List ℕ)
direction_at bytes = table_at directions bytes

abbrev pub grows : List (List ℕ × Grow)
grows = (codes " NtoB", NtoB) ∷ (codes " NtoT", NtoT) ∷ (codes " BtoT", BtoT) ∷ []

unfoldable pub grow_at : List ℕ → Option (Grow × List ℕ)
grow_at bytes = table_at grows bytes

abbrev pub caps : List (List ℕ × Cap)
caps = (codes " toT", ToT) ∷ (codes " toB", ToB) ∷ (codes " toN", ToN) ∷ []

unfoldable pub cap_at : List ℕ → Option (Cap × List ℕ)
cap_at bytes = table_at caps bytes

abbrev pub changes : List (List ℕ × Change)
changes = (codes " TtoB", TtoB) ∷ (codes " TtoN", TtoN) ∷ (codes " BtoN", BtoN) ∷ (codes " TtoT", TtoT) ∷ (codes " BtoB", BtoB) ∷ (codes " NtoN", NtoN) ∷ []

unfoldable pub change_at : List ℕ → Option (Change × List ℕ)
change_at bytes = table_at changes bytes

abbrev pub answers : List (List ℕ × Option Bool)
answers = (codes "-", None) ∷ (codes "ok", Some true) ∷ (codes "fail", Some false) ∷ []

unfoldable pub answer_at : List ℕ → Option (Option Bool × List ℕ)
answer_at bytes = table_at answers bytes

unfoldable pub loaded_at : List ℕ → Option (Option ℕ × List ℕ)
loaded_at bytes = option_or (after (codes "-") bytes >>= λ rest. Some (None, rest)) (seen_at (λ n. Some n) word_at bytes)

unfoldable pub data_at : LineSize → List ℕ → Option (LineData × List ℕ)
data_at sizes.Bytes16 bytes = seen_at (λ d. lines.Bytes16 d) (hex_at 16) bytes
data_at sizes.Bytes64 bytes = seen_at (λ d. lines.Bytes64 d) (hex_at 64) bytes

-- ---- messages

abbrev pub all_names : List (List ℕ × Name)
all_names =
    (codes "AcquireBlock ", names.AcquireBlock) ∷ (codes "ProbeBlock ", names.ProbeBlock) ∷ (codes "ProbeAck ", names.ProbeAck)
    ∷ (codes "ProbeAckData ", names.ProbeAckData) ∷ (codes "Release ", names.Release) ∷ (codes "ReleaseData ", names.ReleaseData)
    ∷ (codes "Grant ", names.Grant) ∷ (codes "GrantData ", names.GrantData) ∷ (codes "ReleaseAck ", names.ReleaseAck) ∷ (codes "GrantAck ", names.GrantAck) ∷ []

-- what follows Probe, Release and Grant in a name
abbrev pub probe_endings : List (List ℕ × Name)
probe_endings = (codes "Block ", names.ProbeBlock) ∷ (codes "Ack ", names.ProbeAck) ∷ (codes "AckData ", names.ProbeAckData) ∷ []

abbrev pub release_endings : List (List ℕ × Name)
release_endings = (codes " ", names.Release) ∷ (codes "Data ", names.ReleaseData) ∷ (codes "Ack ", names.ReleaseAck) ∷ []

abbrev pub grant_endings : List (List ℕ × Name)
grant_endings = (codes " ", names.Grant) ∷ (codes "Data ", names.GrantData) ∷ (codes "Ack ", names.GrantAck) ∷ []

unfoldable pub name_at : List ℕ → Option (Name × List ℕ)
name_at bytes = table_at all_names bytes

unfoldable pub change_data_at : LineSize → List ℕ → Option ((Change × LineData) × List ℕ)
change_data_at size bytes = pair_at change_at (led_at (32 ∷ []) (data_at size)) bytes

unfoldable pub cap_data_at : LineSize → List ℕ → Option ((Cap × LineData) × List ℕ)
cap_data_at size bytes = pair_at cap_at (led_at (32 ∷ []) (data_at size)) bytes

unfoldable pub carried_at : LineSize → Name → List ℕ → Option (Body × List ℕ)
carried_at size names.AcquireBlock bytes = seen_at (λ g. bodies.AcquireBlock g) grow_at bytes
carried_at size names.ProbeBlock bytes = seen_at (λ c. bodies.ProbeBlock c) cap_at bytes
carried_at size names.ProbeAck bytes = seen_at (λ c. bodies.ProbeAck c) change_at bytes
carried_at size names.ProbeAckData bytes = seen_at (λ p. bodies.ProbeAckData p.0 p.1) (change_data_at size) bytes
carried_at size names.Release bytes = seen_at (λ c. bodies.Release c) change_at bytes
carried_at size names.ReleaseData bytes = seen_at (λ p. bodies.ReleaseData p.0 p.1) (change_data_at size) bytes
carried_at size names.Grant bytes = seen_at (λ c. bodies.Grant c) cap_at bytes
carried_at size names.GrantData bytes = seen_at (λ p. bodies.GrantData p.0 p.1) (cap_data_at size) bytes
carried_at size names.ReleaseAck bytes = Some (bodies.ReleaseAck, bytes)
carried_at size names.GrantAck bytes = Some (bodies.GrantAck, bytes)

unfoldable pub message_at : LineSize → List ℕ → Option (Msg × List ℕ)
message_at size bytes = seen_at (λ p. record { line = p.1.0; body = p.1.1 }) (chain_at name_at (λ name. pair_at word_at (carried_at size name))) bytes
