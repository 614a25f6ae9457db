-- Liveness is closed: nothing that may be read is left out. And what isn't live may count as 0.
use Rattle.std.specs.Prelude.{ℕ, ◌≡◌, ◌<◌, true, false, List, Some}
use Rattle.rv32_exec.specs.Image.{Initial, HasWord, word_at}
use Rattle.rv32_decode.specs.Rows.{decoded}
use Rattle.rv32_decode.specs.declared.instruction.Instr.{Instr}
use Rattle.rv32_exec.specs.Meaning.{access_of, next_of, stop_of, written_of}
use Rattle.rv32_exec.specs.Registers.{after_write}
use Rattle.live_registers.specs.Live.{is_live, live_alone, live_at, reads, writes}

-- of a number in binary, the digits of 32 that are 1 are 1 in another
abbrev pub Within : ℕ → ℕ → Type 0
Within one other = (r : ℕ) → r < 32 → is_live one r ≡ true → is_live other r ≡ true

-- what is live at a pc before an instruction
pub record IsClosedAt (image : Initial) (pc : ℕ) (i : Instr) : Type 0 where
  pub read : Within (reads i) (live_at image pc)
  pub behind : (x : List ℕ) (r : ℕ) → r < 32 → is_live (live_at image (next_of i pc x)) r ≡ true → is_live (writes i) r ≡ false → is_live (live_at image pc) r ≡ true

abbrev pub LiveIsClosed : Type 0
LiveIsClosed = (image : Initial) (pc : ℕ) (i : Instr) → HasWord image pc → decoded (word_at image pc) ≡ Some i → IsClosedAt image pc i

-- an instruction does the same with these registers as with those
pub record IsDoneAlike (i : Instr) (pc size read : ℕ) (x y : List ℕ) : Type 0 where
  pub stop : stop_of i pc x size ≡ stop_of i pc y size
  pub access : access_of i x ≡ access_of i y
  pub next : next_of i pc x ≡ next_of i pc y
  pub written : written_of i pc x read ≡ written_of i pc y read

-- where all that it reads is among m, the other registers may be 0
abbrev pub OthersAreNotRead : Type 0
OthersAreNotRead = (i : Instr) (pc size read m : ℕ) (x : List ℕ) → Within (reads i) m → IsDoneAlike i pc size read (live_alone m x) x

-- where all of n that it doesn't set is among m, what it leaves of n is the same
abbrev pub OthersAreNotLeft : Type 0
OthersAreNotLeft =
    (i : Instr) (pc read m n : ℕ) (x : List ℕ)
    → ((r : ℕ) → r < 32 → is_live n r ≡ true → is_live (writes i) r ≡ false → is_live m r ≡ true)
    → live_alone n (after_write (live_alone m x) (written_of i pc x read)) ≡ live_alone n (after_write x (written_of i pc x read))
