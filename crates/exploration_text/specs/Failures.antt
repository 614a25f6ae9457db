-- The lines in which failures are told.
use Rattle.std.specs.Prelude.{ℕ, zero, suc, ◌+◌, ◌==◌, List, [], ◌∷◌, ◌++◌, codes, decimal, if◌then◌else◌}
use Rattle.elf_symbols.specs.Lookups.{nearest}
use Rattle.elf_symbols.specs.Named.{Named}
use Rattle.explorer.specs.declared.found.FoundFailure.{FoundFailure}
use Rattle.explorer.specs.Stop.{Stop}
use Rattle.hart.specs.declared.state.Hart.{Hart}
use Rattle.hart.specs.declared.status.Status.{Status}
use Rattle.hart.specs.declared.status.Status.TheVariants.{Exited, Running, Stopped}
use Rattle.order_text.specs.Naming.{place_behind}
use Rattle.text_fields.specs.Fields.{word}

abbrev pub hart_name : ℕ → List ℕ
hart_name h = codes "hart " ++ (decimal h ++ codes ": ")

-- an address, and the name that lies there or nearest before it, as in 0x80000010 <check+0x8>
abbrev pub address_text : List Named → ℕ → List ℕ
address_text symbols address = word address ++ place_behind (nearest symbols address)

-- why a hart stops with this code
abbrev pub cause_text : ℕ → List ℕ
cause_text code =
    if code == 0 then codes " (jump target misaligned)" else
    if code == 1 then codes " (fetch outside memory)" else
    if code == 2 then codes " (illegal instruction)" else
    if code == 3 then codes " (ebreak)" else
    if code == 4 then codes " (load misaligned)" else
    if code == 5 then codes " (load outside memory)" else
    if code == 6 then codes " (store misaligned)" else
    if code == 7 then codes " (store outside memory)" else
    if code == 8 then codes " (unknown call)" else []

-- `stop CODE at PC <NAME> (CAUSE)`
abbrev pub stop_text : List Named → Stop → List ℕ
stop_text symbols stop = codes "stop " ++ (decimal stop.code ++ (codes " at " ++ (address_text symbols stop.pc ++ cause_text stop.code)))

-- the hart that stopped, and where and why
abbrev pub stopped_text : List Named → (hart : ℕ) → Stop → List ℕ
stopped_text symbols hart stop = hart_name hart ++ stop_text symbols stop

-- how a hart stands, and where, unless it exited
abbrev pub place_by : List Named → Status → (pc : ℕ) → List ℕ
place_by symbols Running pc = codes "run at " ++ address_text symbols pc
place_by symbols (Stopped code) pc = stop_text symbols (record { code = code; pc = pc })
place_by symbols (Exited code) pc = codes "exit " ++ decimal code

abbrev pub place_field : List Named → Hart → List ℕ
place_field symbols k = codes "   " ++ (hart_name k.id ++ place_by symbols k.status k.pc)

-- the harts but this one
abbrev pub others_text : List Named → ℕ → List Hart → List ℕ
others_text symbols h [] = []
others_text symbols h (k ∷ ks) = (if k.id == h then [] else place_field symbols k) ++ others_text symbols h ks

-- the hart that stopped, and behind it how the others stood where that was met first
abbrev pub failure_line : List Named → ℕ → FoundFailure → List ℕ
failure_line symbols number f =
    codes "failure " ++ (decimal number ++ (codes "  " ++ (hart_name f.failure.hart ++ (stop_text symbols f.failure.stop ++ (others_text symbols f.failure.hart f.harts.items ++ codes "\n")))))

-- counted from a number on
abbrev pub failure_lines : List Named → ℕ → List FoundFailure → List ℕ
failure_lines symbols number [] = []
failure_lines symbols number (f ∷ fs) = failure_line symbols number f ++ failure_lines symbols (number + 1) fs

-- how many there are, where there are any
abbrev pub failures_part : ℕ → List ℕ
failures_part zero = []
failures_part (suc n) = decimal (suc n) ++ codes " failures, "
