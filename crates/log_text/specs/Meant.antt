-- A log's text that begins in the middle of a run, or has messages of other protocols: the text that it stands for.
use Rattle.std.specs.Prelude.{ℕ, ◌+◌, ◌-◌, ◌==◌, ◌&&◌, ◌||◌, Bool, true, false, List, [], ◌∷◌, ◌++◌, Option, Some, None, codes, drop, filter, if◌then◌else◌, is_some, length, nat_eq, nat_le, option_map, position, take}
use Rattle.std.specs.Cmp.Lexicographic.{pointwise}
use Rattle.std.specs.Option.{option_map_or, option_or}
use Rattle.log_text.specs.Names.{is_message_line, lines_of}
use Rattle.log_text.specs.declared.meant.Kept.{Kept}
use Rattle.log_text.specs.declared.meant.Kept.TheVariants.{Branch, Trunk}
use Rattle.text_fields.specs.Reading.{◌>>=◌, after, behind}

-- what stands before the first blank, and what behind it
abbrev pub cut_word : List ℕ → Option (List ℕ × List ℕ)
cut_word bytes = option_map (λ at. (take at bytes, drop (at + 1) bytes)) (position (λ byte. byte == 32) bytes)

abbrev pub is_word : List ℕ → List ℕ → Bool
is_word bytes word = pointwise nat_eq bytes word

-- ---- what a hart holds at the start

-- how its Acquire asks, and how its Grant gives
abbrev pub asks_text : Kept → List ℕ
asks_text Branch = codes " NtoB"
asks_text Trunk = codes " NtoT"

abbrev pub gives_text : Kept → List ℕ
gives_text Branch = codes " toB "
gives_text Trunk = codes " toT "

-- what a line says that a hart holds
pub record Start : Type 0 where
  pub hart : List ℕ
  pub address : List ℕ
  pub kept : Kept
  pub bytes : List ℕ

-- a message's line of that hart and line
abbrev pub message_text : (lead kind more bytes : List ℕ) → Start → List ℕ
message_text lead kind more bytes s = lead ++ (s.hart ++ (kind ++ (s.address ++ (more ++ (bytes ++ 10 ∷ [])))))

-- the six messages by which it came to hold that: it asked, was granted the line with these bytes, and acknowledged
abbrev pub opening_text : Start → List ℕ
opening_text s =
    message_text (codes "M s A ") (codes " AcquireBlock ") (asks_text s.kept) [] s
    ++ (message_text (codes "M t A ") (codes " AcquireBlock ") (asks_text s.kept) [] s
    ++ (message_text (codes "M s D ") (codes " GrantData ") (gives_text s.kept) s.bytes s
    ++ (message_text (codes "M t D ") (codes " GrantData ") (gives_text s.kept) s.bytes s
    ++ (message_text (codes "M s E ") (codes " GrantAck ") [] [] s
    ++ message_text (codes "M t E ") (codes " GrantAck ") [] [] s))))

-- the bytes that an I line tells of a line of memory; I lines stand before messages
abbrev pub memory_in : (address line : List ℕ) → Option (List ℕ)
memory_in address line = after (codes "I ") line >>= cut_word >>= λ told. if is_word told.0 address then Some told.1 else None

abbrev pub memory_of : (address : List ℕ) → List (List ℕ) → Option (List ℕ)
memory_of address [] = None
memory_of address (line ∷ lines) = if is_message_line line then None else option_or (memory_in address line) (memory_of address lines)

-- the bytes that stand behind the permission, or those of memory
abbrev pub data_of : (text address told : List ℕ) → Option (List ℕ)
data_of text address [] = memory_of address (lines_of text)
data_of text address (byte ∷ told) = after (codes " ") (byte ∷ told)

-- `Branch` or `Trunk`, and those bytes
abbrev pub with_data : Kept → Option (List ℕ) → Option (Kept × List ℕ)
with_data kept found = found >>= λ bytes. Some (kept, bytes)

abbrev pub holding_of : (text address held : List ℕ) → Option (Kept × List ℕ)
holding_of text address held = behind (after (codes "Branch") held) (λ told. with_data Branch (data_of text address told))
    (after (codes "Trunk") held >>= λ told. with_data Trunk (data_of text address told))

-- `S`, the hart and the line, and that
abbrev pub start_in : (text line : List ℕ) → Option Start
start_in text line = after (codes "S ") line >>= cut_word >>= λ hart. cut_word hart.1 >>= λ address. holding_of text address.0 address.1
    >>= λ held. Some (record { hart = hart.0; address = address.0; kept = held.0; bytes = held.1 })

-- ---- messages of TL-UL and TL-UH

abbrev pub first_word : List ℕ → List ℕ
first_word bytes = option_map_or (λ parts. parts.0) (cut_word bytes) bytes

abbrev pub opcode_of : List ℕ → Option (List ℕ)
opcode_of line = after (codes "M ") line >>= cut_word >>= λ direction. cut_word direction.1 >>= λ channel. cut_word channel.1 >>= λ hart. Some (first_word hart.1)

-- their names (TileLink 1.8.1, "TL-UL" and "TL-UH"; a Put and a Hint are also told by these words)
abbrev pub is_other : List ℕ → Bool
is_other opcode =
    is_word opcode (codes "Get")
    || is_word opcode (codes "Put")
    || is_word opcode (codes "PutFullData")
    || is_word opcode (codes "PutPartialData")
    || is_word opcode (codes "ArithmeticData")
    || is_word opcode (codes "LogicalData")
    || is_word opcode (codes "Hint")
    || is_word opcode (codes "Intent")
    || is_word opcode (codes "AccessAck")
    || is_word opcode (codes "AccessAckData")
    || is_word opcode (codes "HintAck")

abbrev pub is_foreign : List ℕ → Bool
is_foreign line = option_map_or is_other (opcode_of line) false

-- ---- line by line

-- what a line stands for, and how many lines that is: `begun` says whether a message stands before it
abbrev pub start_of : (begun : Bool) → (text line : List ℕ) → Option Start
start_of begun text line = if begun then None else start_in text line

abbrev pub line_meant : (skip begun : Bool) → (text line : List ℕ) → List ℕ
line_meant skip begun text line = if skip && is_foreign line then [] else option_map_or opening_text (start_of begun text line) (line ++ 10 ∷ [])

abbrev pub lines_meant : (skip begun : Bool) → (text line : List ℕ) → ℕ
lines_meant skip begun text line = if skip && is_foreign line then 0 else (if is_some (start_of begun text line) then 6 else 1)

-- what stands behind the last line feed stays
abbrev pub meant_from : (skip begun : Bool) → (text : List ℕ) → List (List ℕ) → List ℕ
meant_from skip begun text [] = []
meant_from skip begun text (last ∷ []) = last
meant_from skip begun text (line ∷ next ∷ lines) = line_meant skip begun text line ++ meant_from skip (begun || is_message_line line) text (next ∷ lines)

abbrev pub meant : (skip : Bool) → List ℕ → List ℕ
meant skip text = meant_from skip false text (lines_of text)

-- the line of the text, counted from 1, for which the one of this number stands in what is meant
abbrev pub source_from : (skip begun : Bool) → (text : List ℕ) → (before number : ℕ) → List (List ℕ) → ℕ
source_from skip begun text before number [] = before
source_from skip begun text before number (line ∷ lines) =
    if nat_le number (lines_meant skip begun text line) then before + 1
    else source_from skip (begun || is_message_line line) text (before + 1) (number - lines_meant skip begun text line) lines

abbrev pub source_line : (skip : Bool) → (text : List ℕ) → (number : ℕ) → ℕ
source_line skip text number = source_from skip false text 0 number (lines_of text)

-- how many messages of the others there are
abbrev pub foreign_in : List ℕ → ℕ
foreign_in text = length (filter is_foreign (lines_of text))
