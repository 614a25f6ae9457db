-- Runs: which lists of retired instructions a hart can have, by the meaning of instructions alone (RISC-V Unprivileged ISA 20191213, chapters 2, 7 and 8; how a hart ends is this machine's own). No cache, buffer, message or other hart is spoken of.
use Rattle.std.specs.Prelude.{ℕ, ◌+◌, ◌%◌, ◌^◌, Bool, true, false, ◌&&◌, ◌==◌, nat_lt, nat_le, if◌then◌else◌, List, [], ◌∷◌, length, Option, Some, None, is_some, is_none, unwrap_or}
use Rattle.rv32_exec.specs.Image.{Initial, end_of, word_at}
use Rattle.rv32_exec.specs.Size.{base}
use Rattle.rv32_decode.specs.Rows.{decoded}
use Rattle.rv32_decode.specs.declared.instruction.Instr.{Instr}
use Rattle.rv32_exec.specs.Meaning.{Access, Private, Loads, Stores, DoesLr, DoesSc, DoesAmo, Fences, Calls, Effect, effect_of, access_of, stop_of}
use Rattle.rv32_exec.specs.Registers.{after_write, reset_registers}
use Rattle.hart.specs.declared.retired.Retired.{Retired}
use Rattle.hart.specs.declared.state.Hart.{Hart}
use Rattle.hart.specs.declared.status.Status.{Status}
use Rattle.hart.specs.declared.status.Status.TheVariants.{Running, Stopped, Exited}

-- ---- a step

-- the number that an entry's instruction read: the loaded value, for a store conditional 0 where it succeeded and 1 where it failed (chapter 8.2)
abbrev pub number_of : Option Bool → Option ℕ → ℕ
number_of None loaded = unwrap_or loaded 0
number_of (Some ok) loaded = if ok then 0 else 1

abbrev pub number_read : Retired → ℕ
number_read entry = number_of entry.sc_ok entry.loaded

-- a hart runs on after an access, but after an environment call of number 0, which ends it with its argument modulo 256
abbrev pub status_after : Access → Status
status_after (Calls number argument) = if number == 0 then Exited (argument % 256) else Running
status_after _ = Running

abbrev pub moved : Hart → Effect → Hart
moved hart effect = record { id = hart.id; pc = effect.next; regs = after_write hart.regs effect.written; status = status_after effect.access }

-- the hart after it retired an entry; a word that is no instruction changes nothing
abbrev pub after_instr : Hart → Retired → Option Instr → Hart
after_instr hart entry None = hart
after_instr hart entry (Some i) = moved hart (effect_of i hart.pc hart.regs (number_read entry))

abbrev pub after : Hart → Retired → Hart
after hart entry = after_instr hart entry (decoded entry.word)

abbrev pub is_below : ℕ → Option ℕ → Bool
is_below bound None = false
is_below bound (Some n) = nat_lt n bound

-- a loaded value is there exactly for a load, an LR and an AMO, and fits the access's bytes; whether it succeeded is there exactly for an SC
abbrev pub has_answers : Access → Retired → Bool
has_answers (Loads address bytes) entry = is_below (256 ^ bytes) entry.loaded && is_none entry.sc_ok
has_answers (DoesLr address) entry = is_below (256 ^ 4) entry.loaded && is_none entry.sc_ok
has_answers (DoesAmo address op operand) entry = is_below (256 ^ 4) entry.loaded && is_none entry.sc_ok
has_answers (DoesSc address value) entry = is_none entry.loaded && is_some entry.sc_ok
has_answers _ entry = is_none entry.loaded && is_none entry.sc_ok

abbrev pub is_running : Status → Bool
is_running Running = true
is_running _ = false

-- the word at the pc is in memory, from where it is fetched; stores never change it
abbrev pub can_fetch : Initial → ℕ → Bool
can_fetch image pc = nat_le base pc && nat_le (pc + 4) (end_of image)

-- the instruction doesn't stop at this hart, where memory has `size` bytes, and the entry has what it read
abbrev pub can_do : ℕ → Hart → Retired → Option Instr → Bool
can_do size hart entry None = false
can_do size hart entry (Some i) = is_none (stop_of i hart.pc hart.regs size) && has_answers (access_of i hart.regs) entry

-- a running hart can retire this entry: it stands at the hart's pc, has the image's word, and its instruction doesn't stop
abbrev pub is_step : Initial → Hart → Retired → Bool
is_step image hart entry =
    is_running hart.status && entry.pc == hart.pc && can_fetch image hart.pc && entry.word == word_at image hart.pc && can_do (length image.bytes) hart entry (decoded entry.word)

-- ---- a list

-- the hart after a list of entries
abbrev pub reached : Hart → List Retired → Hart
reached hart [] = hart
reached hart (entry ∷ rest) = reached (after hart entry) rest

-- each entry is a step of the hart that the entries before it lead to; so nothing follows an exit
abbrev pub are_steps : Initial → Hart → List Retired → Bool
are_steps image hart [] = true
are_steps image hart (entry ∷ rest) = is_step image hart entry && are_steps image (after hart entry) rest

-- ---- how it ends

-- the code that a running hart's next fetch or instruction stops with: 1 fetch outside memory, 2 no instruction, else the instruction's own
abbrev pub stop_with : ℕ → Hart → Option Instr → Option ℕ
stop_with size hart None = Some 2
stop_with size hart (Some i) = stop_of i hart.pc hart.regs size

abbrev pub next_stop : Initial → Hart → Option ℕ
next_stop image hart = if can_fetch image hart.pc then stop_with (length image.bytes) hart (decoded (word_at image hart.pc)) else Some 1

abbrev pub is_code : ℕ → Option ℕ → Bool
is_code code None = false
is_code code (Some n) = n == code

abbrev pub is_exit : ℕ → Status → Bool
is_exit code (Exited n) = n == code
is_exit code _ = false

-- what the status may be of a hart whose entries lead here: running where it runs, also where it would stop next; stopped with the code that it would stop with; exited where its last entry is that exit
abbrev pub status_fits : Initial → Hart → Status → Bool
status_fits image hart Running = is_running hart.status
status_fits image hart (Stopped code) = is_running hart.status && is_code code (next_stop image hart)
status_fits image hart (Exited code) = is_exit code hart.status

-- ---- the run

abbrev pub reset_at : ℕ → ℕ → ℕ → Hart
reset_at entry id harts = record { id = id; pc = entry; regs = reset_registers id harts; status = Running }

abbrev pub at_reset : Initial → ℕ → ℕ → Hart
at_reset image id harts = reset_at image.entry id harts

-- a hart's entries and status are those of a run of the image from reset
abbrev pub is_run : Initial → ℕ → ℕ → List Retired → Status → Bool
is_run image id harts entries status = are_steps image (at_reset image id harts) entries && status_fits image (reached (at_reset image id harts) entries) status
