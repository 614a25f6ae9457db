-- Names behind the messages of a log: behind ` ; ` a text may say what it likes of a message, which changes no message.
use Rattle.std.specs.Prelude.{ℕ, ◌+◌, ◌==◌, ◌&&◌, Bool, false, List, [], ◌∷◌, Option, Some, None, codes, filter, if◌then◌else◌, is_some, length, map, nat_le, not, option_map, slice_get, take}
use Rattle.std.specs.List.{join_with_byte, list_all, slice_split}
use Rattle.std.specs.Option.{option_map_or}
use Rattle.text_fields.specs.Reading.{◌>>=◌, after, behind}

-- the lines of a text, without their line feeds; what stands behind the last line feed counts as one more
abbrev pub lines_of : List ℕ → List (List ℕ)
lines_of text = slice_split (λ byte. byte == 10) text

-- a message's
abbrev pub is_message_line : List ℕ → Bool
is_message_line line = is_some (after (codes "M ") line)

-- no control byte
abbrev pub is_shown : ℕ → Bool
is_shown byte = nat_le 32 byte && not (byte == 127)

-- at most 72 bytes, none of them a control byte
abbrev pub is_name : List ℕ → Bool
is_name bytes = nat_le (length bytes) 72 && list_all is_shown bytes

-- how many bytes stand before the first ` ; ` of these, before which so many stand, and what stands behind it
abbrev pub parted : ℕ → List ℕ → Option (ℕ × List ℕ)
parted before [] = None
parted before (byte ∷ bytes) = behind (after (codes " ; ") (byte ∷ bytes)) (λ rest. Some (before, rest)) (parted (before + 1) bytes)

-- the same of a message's line
abbrev pub message_parts : List ℕ → Option (ℕ × List ℕ)
message_parts line = after (codes "M ") line >>= parted 2

-- how many bytes stand before a message's name, and the name
abbrev pub if_name : ℕ × List ℕ → Option (ℕ × List ℕ)
if_name parts = if is_name parts.1 then Some parts else None

abbrev pub named : List ℕ → Option (ℕ × List ℕ)
named line = message_parts line >>= if_name

abbrev pub without_name : List ℕ → List ℕ
without_name line = option_map_or (λ parts. take parts.0 line) (named line) line

abbrev pub name_of : List ℕ → Option (List ℕ)
name_of line = option_map (λ parts. parts.1) (named line)

-- what stands behind a message's ` ; ` is no name
abbrev pub is_misnamed : List ℕ → Bool
is_misnamed line = option_map_or (λ parts. not (is_name parts.1)) (message_parts line) false

-- the text, each message without its name
abbrev pub without_names : List ℕ → List ℕ
without_names text = join_with_byte 10 (map without_name (lines_of text))

-- the name of the message that has so many before it
abbrev pub name_at : ℕ → List ℕ → Option (List ℕ)
name_at index text = slice_get (filter is_message_line (lines_of text)) index >>= name_of

-- the first line of a message with no such name, counted from 1, where so many lines stand before
abbrev pub misnamed_from : ℕ → List (List ℕ) → Option ℕ
misnamed_from before [] = None
misnamed_from before (line ∷ lines) = if is_misnamed line then Some (before + 1) else misnamed_from (before + 1) lines

abbrev pub misnamed_in : List ℕ → Option ℕ
misnamed_in text = misnamed_from 0 (lines_of text)

-- ---- one line at a time

-- the lines from here on, if any are left
abbrev pub lines_left : Option (List ℕ) → List (List ℕ)
lines_left None = []
lines_left (Some text) = lines_of text
