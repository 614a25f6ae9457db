-- On which line of a text a message stands, and by which name.
use Rattle.std.specs.Prelude.{ℕ, ◌≡◌, ◌+◌, ◌-◌, Bool, true, false, ◌&&◌, List, ◌∷◌, [], Option, Some, None, ◌==◌, codes, if◌then◌else◌, is_some, option_map}
use Rattle.log_text.specs.Meant.{source_line}
use Rattle.log_text.specs.Names.{name_at}
use Rattle.log_text.specs.declared.place.LogText.{LogText}
use Rattle.log_text.specs.declared.place.Place.{Place}
use Rattle.text_fields.specs.Reading.{after}

-- a line begins there, and it is a message's
abbrev pub is_message : Bool → List ℕ → Bool
is_message is_start bytes = is_start && is_some (after (codes "M ") bytes)

-- one line further where a line feed stands
abbrev pub lines_behind : ℕ → ℕ → ℕ
lines_behind byte lines = if byte == 10 then lines + 1 else lines

-- behind so many lines, the line of the message that has so many before it; `is_start` says whether a line begins there
abbrev pub message_line : (is_start : Bool) → (lines messages : ℕ) → List ℕ → Option ℕ
message_line is_start lines messages [] = None
message_line is_start lines messages (byte ∷ bytes) =
    if is_message is_start (byte ∷ bytes)
    then (if messages == 0 then Some (lines + 1) else message_line (byte == 10) (lines_behind byte lines) (messages - 1) bytes)
    else message_line (byte == 10) (lines_behind byte lines) messages bytes

-- the message stands there, and has this name, if it has one; or the text has no such message
abbrev pub IsPlace : ℕ → LogText → Option Place → Type 0
IsPlace index text None = message_line true 0 index text.meant.now ≡ None
IsPlace index text (Some place) =
    (option_map (source_line text.skip text.source.now) (message_line true 0 index text.meant.now) ≡ Some place.line)
    × (option_map (λ name. name.now) place.name ≡ name_at index text.meant.now)

-- that is where it stands, if there is one that is meant
abbrev pub IsPlaceOf : Option ℕ → LogText → Option Place → Type 0
IsPlaceOf None text place = place ≡ None
IsPlaceOf (Some index) text place = IsPlace index text place
