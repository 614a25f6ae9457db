-- Rows of private instructions: those that touch no memory, fence nothing and call nothing, so that a hart does them alone.
use Rattle.std.specs.Prelude.{ℕ, ◌≡◌, ◌≤◌, zero, suc, Bool, true, false, ◌&&◌, ◌==◌, if◌then◌else◌, List, [], ◌∷◌, length, Option, Some, None, is_none, IsTrue}
use Rattle.rv32_exec.specs.Image.{Initial, word_at}
use Rattle.machine_types.specs.declared.limits.TheConstants.{MAX_ROW}
use Rattle.rv32_decode.specs.Rows.{decoded}
use Rattle.rv32_decode.specs.declared.instruction.Instr.{Instr}
use Rattle.rv32_exec.specs.Meaning.{Access, Private, Effect, access_of, stop_of}
use Rattle.rv32_exec.specs.Registers.{after_write}
use Rattle.hart.specs.declared.retired.Retired.{Retired}
use Rattle.hart.specs.declared.state.Hart.{Hart}
use Rattle.hart.specs.Run.{after, can_fetch, is_running, reached}

abbrev pub is_private : Access → Bool
is_private Private = true
is_private _ = false

-- the instruction is private and doesn't stop at this hart; memory's size, here 0, is of no matter to a private one
abbrev pub is_done_alone : Hart → Option Instr → Bool
is_done_alone hart None = false
is_done_alone hart (Some i) = is_private (access_of i hart.regs) && is_none (stop_of i hart.pc hart.regs 0)

-- ---- from an image

-- the hart runs, and its next instruction is there, is private and doesn't stop
abbrev pub can_go_alone : Initial → Hart → Bool
can_go_alone image hart = is_running hart.status && can_fetch image hart.pc && is_done_alone hart (decoded (word_at image hart.pc))

-- its entry, which has read nothing
abbrev pub next_entry : Initial → Hart → Retired
next_entry image hart = record { pc = hart.pc; word = word_at image hart.pc; loaded = None; sc_ok = None }

-- with the hart behind it
abbrev pub next_step : Initial → Hart → Retired × Hart
next_step image hart = (next_entry image hart, after hart (next_entry image hart))

-- the hart behind an effect that leaves it running
abbrev pub with_effect : Hart → Effect → Hart
with_effect hart effect = record hart { pc = effect.next; regs = after_write hart.regs effect.written }

-- the longest row of such entries, up to a number
abbrev pub private_row : Initial → Hart → ℕ → List Retired
private_row image hart zero = []
private_row image hart (suc n) = if can_go_alone image hart then (next_entry image hart ∷ private_row image (after hart (next_entry image hart)) n) else []

-- ---- without an image

-- a running hart can retire this entry alone, if its word stands at the hart's pc
abbrev pub is_private_step : Hart → Retired → Bool
is_private_step hart entry = is_running hart.status && entry.pc == hart.pc && is_done_alone hart (decoded entry.word) && is_none entry.loaded && is_none entry.sc_ok

abbrev pub are_private_steps : Hart → List Retired → Bool
are_private_steps hart [] = true
are_private_steps hart (entry ∷ rest) = is_private_step hart entry && are_private_steps (after hart entry) rest

-- a row with the hart before it and the hart after it
pub record PrivateRow : Type 0 where
  pub first : Hart
  pub last : Hart
  pub entries : List Retired

-- at most MAX_ROW entries, all of private instructions that don't stop, which lead from the first hart to the last; so the first hart is running where there are any
pub record IsPrivateRow (row : PrivateRow) : Type 0 where
  pub few : length row.entries ≤ MAX_ROW
  pub alone : IsTrue (are_private_steps row.first row.entries)
  pub leads : row.last ≡ reached row.first row.entries

-- the longest row of a hart, up to a number
abbrev pub private_row_from : Initial → Hart → ℕ → PrivateRow
private_row_from image hart most = record { first = hart; last = reached hart (private_row image hart most); entries = private_row image hart most }
