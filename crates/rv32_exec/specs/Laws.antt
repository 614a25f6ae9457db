-- Laws of the instruction meaning: which registers an instruction's parts are read from, which it writes, and what a stop leaves.
use Rattle.std.specs.Prelude.{ℕ, ◌≡◌, List, Option, Some, None, Contains, slice_index}
use Rattle.rv32_decode.specs.declared.instruction.Instr.{Instr}
use Rattle.rv32_exec.specs.Meaning.{Access, Private, Loads, Stores, DoesLr, DoesSc, DoesAmo, Fences, Calls, Meaning, Stops, Does, access_of, effect_of, meaning, meaning_of_word, value_written}
use Rattle.rv32_exec.specs.Registers.{AreRegisters, after_write}
use Rattle.rv32_exec.specs.Uses.{uses_of, read_by}

-- two harts' registers are the same at these
abbrev pub AgreeAt : List ℕ → List ℕ → List ℕ → Type 0
AgreeAt registers x y = (r : ℕ) → Contains registers r → slice_index x r ≡ slice_index y r

abbrev pub address_of : Access → Option ℕ
address_of Private = None
address_of (Loads address bytes) = Some address
address_of (Stores address bytes value) = Some address
address_of (DoesLr address) = Some address
address_of (DoesSc address value) = Some address
address_of (DoesAmo address op operand) = Some address
address_of Fences = None
address_of (Calls number argument) = None

-- the address rests on the registers that are read as address alone
abbrev pub AddressIsReadAsNamed : Type 0
AddressIsReadAsNamed =
    (i : Instr) (x y : List ℕ) → AreRegisters x → AreRegisters y → AgreeAt (uses_of i).address x y → address_of (access_of i x) ≡ address_of (access_of i y)

-- the number written to memory rests, beside the number read, on the registers that are read as data alone
abbrev pub DataIsReadAsNamed : Type 0
DataIsReadAsNamed =
    (i : Instr) (read : ℕ) (x y : List ℕ)
    → AreRegisters x
    → AreRegisters y
    → AgreeAt (uses_of i).stored x y
    → value_written (access_of i x) read ≡ value_written (access_of i y) read

-- the whole meaning rests on the registers that the instruction reads alone
abbrev pub MeaningIsReadAsNamed : Type 0
MeaningIsReadAsNamed =
    (i : Instr) (pc size read : ℕ) (x y : List ℕ) → AreRegisters x → AreRegisters y → AgreeAt (read_by i) x y → meaning i pc x size read ≡ meaning i pc y size read

-- an instruction leaves every register that it isn't said to write
abbrev pub OnlyNamedIsWritten : Type 0
OnlyNamedIsWritten =
    (i : Instr) (pc read r : ℕ) (x : List ℕ)
    → ¬ Contains (uses_of i).written r
    → slice_index (after_write x (effect_of i pc x read).written) r ≡ slice_index x r

-- the pc, the registers and the access of a hart after a meaning
pub record After : Type 0 where
  pub pc : ℕ
  pub registers : List ℕ
  pub access : Access

abbrev pub unchanged : ℕ → List ℕ → After
unchanged pc x = record { pc = pc; registers = x; access = Private }

abbrev pub after : Meaning → ℕ → List ℕ → After
after (Stops code) pc x = unchanged pc x
after (Does effect) pc x = record { pc = effect.next; registers = after_write x effect.written; access = effect.access }

-- whether a word stops its hart, and why, is decided before anything is read
abbrev pub StopIsDecidedFirst : Type 0
StopIsDecidedFirst =
    (word pc size read other code : ℕ) (x : List ℕ) → meaning_of_word word pc x size read ≡ Stops code → meaning_of_word word pc x size other ≡ Stops code
