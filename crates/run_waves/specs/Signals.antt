-- The signals of waves: their letters, names and widths, and how values are spelled (IEEE Std 1364-2005, section 18.2).
use Rattle.std.specs.Prelude.{ℕ, ◌+◌, ◌/◌, ◌%◌, ◌==◌, if◌then◌else◌, List, [], ◌∷◌, ◌++◌, codes}
use Rattle.std.specs.Int.{w32, to_be_bytes}
use Rattle.std.specs.List.{flat_map}
use Rattle.run_waves.specs.declared.signals.Signal.{Signal}
use Rattle.run_waves.specs.declared.signals.Signal.TheVariants.{Pc, Instruction, Status, Code, Stores, OldestWord, OldestBytes, OldestMask, IsReserved, Reserved, Length, Front, FrontLine, Permission, IsDirty, IsAcquiring, IsReleasing, Known, IsAwaited, Transaction, Requester}
use Rattle.run_waves.specs.declared.signals.Width.{Width}
use Rattle.run_waves.specs.declared.signals.Width.TheVariants.{Bit, Byte, Word}

-- the letter that a signal's identifiers begin with: another one for each
abbrev pub letter : Signal → ℕ
letter Pc = 112  -- p
letter Instruction = 105  -- i
letter Status = 115  -- s
letter Code = 99  -- c
letter Stores = 110  -- n
letter OldestWord = 119  -- w
letter OldestBytes = 98  -- b
letter OldestMask = 109  -- m
letter IsReserved = 118  -- v
letter Reserved = 114  -- r
letter Length = 108  -- l
letter Front = 102  -- f
letter FrontLine = 103  -- g
letter Permission = 80  -- P
letter IsDirty = 68  -- D
letter IsAcquiring = 65  -- A
letter IsReleasing = 85  -- U
letter Known = 75  -- K
letter IsAwaited = 87  -- W
letter Transaction = 84  -- T
letter Requester = 82  -- R

abbrev pub name : Signal → List ℕ
name Pc = codes "pc"
name Instruction = codes "instruction"
name Status = codes "status"
name Code = codes "code"
name Stores = codes "stores"
name OldestWord = codes "oldest_word"
name OldestBytes = codes "oldest_bytes"
name OldestMask = codes "oldest_mask"
name IsReserved = codes "reserved"
name Reserved = codes "reserved_word"
name Length = codes "length"
name Front = codes "front"
name FrontLine = codes "front_line"
name Permission = codes "permission"
name IsDirty = codes "dirty"
name IsAcquiring = codes "acquiring"
name IsReleasing = codes "releasing"
name Known = codes "record"
name IsAwaited = codes "awaited"
name Transaction = codes "transaction"
name Requester = codes "requester"

abbrev pub width : Signal → Width
width Pc = Word
width Instruction = Word
width Status = Byte
width Code = Byte
width Stores = Byte
width OldestWord = Word
width OldestBytes = Word
width OldestMask = Byte
width IsReserved = Bit
width Reserved = Word
width Length = Byte
width Front = Byte
width FrontLine = Word
width Permission = Byte
width IsDirty = Bit
width IsAcquiring = Bit
width IsReleasing = Bit
width Known = Byte
width IsAwaited = Bit
width Transaction = Byte
width Requester = Byte

-- a signal's place among what is told of the same part of a machine
abbrev pub place : Signal → ℕ
place Pc = 0
place Instruction = 1
place Status = 2
place Code = 3
place Stores = 4
place OldestWord = 5
place OldestBytes = 6
place OldestMask = 7
place IsReserved = 8
place Reserved = 9
place Length = 0
place Front = 1
place FrontLine = 2
place Permission = 0
place IsDirty = 1
place IsAcquiring = 2
place IsReleasing = 3
place Known = 0
place IsAwaited = 1
place Transaction = 0
place Requester = 1

-- ---- which signals a part of a machine has

abbrev pub of_hart : List Signal
of_hart = Pc ∷ Instruction ∷ Status ∷ Code ∷ Stores ∷ OldestWord ∷ OldestBytes ∷ OldestMask ∷ IsReserved ∷ Reserved ∷ []

abbrev pub of_queue : List Signal
of_queue = Length ∷ Front ∷ FrontLine ∷ []

abbrev pub of_copy : List Signal
of_copy = Permission ∷ IsDirty ∷ IsAcquiring ∷ IsReleasing ∷ []

abbrev pub of_record : List Signal
of_record = Known ∷ IsAwaited ∷ []

abbrev pub of_transaction : List Signal
of_transaction = Transaction ∷ Requester ∷ []

-- ---- values

-- the eight binary digits of a byte, the highest first
abbrev pub byte_bits : ℕ → List ℕ
byte_bits b =
    (48 + b / 128) ∷ (48 + (b / 64) % 2) ∷ (48 + (b / 32) % 2) ∷ (48 + (b / 16) % 2)
    ∷ (48 + (b / 8) % 2) ∷ (48 + (b / 4) % 2) ∷ (48 + (b / 2) % 2) ∷ (48 + b % 2) ∷ []

abbrev pub word_bits : ℕ → List ℕ
word_bits n = flat_map byte_bits (to_be_bytes w32 n)

-- a scalar's value is a digit, and a vector's stands behind a b and before a space
abbrev pub value : Width → ℕ → List ℕ
value Bit n = (if n == 0 then 48 else 49) ∷ []
value Byte n = 98 ∷ (byte_bits (n % 256) ++ 32 ∷ [])
value Word n = 98 ∷ (word_bits n ++ 32 ∷ [])

-- ---- declarations

-- how a declaration begins: up to the identifier
abbrev pub width_text : Width → List ℕ
width_text Bit = codes "$var reg 1 "
width_text Byte = codes "$var reg 8 "
width_text Word = codes "$var reg 32 "

-- how it ends: the numbers of a vector's bits stand behind the name
abbrev pub range : Width → List ℕ
range Bit = codes " $end\n"
range Byte = codes " [7:0] $end\n"
range Word = codes " [31:0] $end\n"
