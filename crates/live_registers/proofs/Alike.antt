-- With registers that aren't live set to 0, an instruction does the same.
use Rattle.std.proofs.Common.{◌≡◌, ℕ, List, Some, None, refl, ap}
use Rattle.std.specs.Prelude.{slice_index, if◌then◌else◌}
use Rattle.rv32_exec.specs.Arithmetic.{is_taken, sum32}
use Rattle.rv32_decode.specs.declared.instruction.Instr.TheVariants.{Upper, Jal, Jalr, Branch, Load, Store, Immediate, Shift, Register, Fence, FenceTso, System, Lr, Sc, Amo}
use Rattle.rv32_decode.specs.declared.instruction.UpperOp.TheVariants.{Lui, Auipc}
use Rattle.rv32_decode.specs.declared.instruction.SystemOp.TheVariants.{Ecall, Ebreak}
use Rattle.rv32_exec.specs.Meaning.{written_of}
use Rattle.live_registers.specs.Live.{live_alone, one, two}
use Rattle.live_registers.specs.Laws.{OthersAreNotLeft, OthersAreNotRead, Within}
use Rattle.live_registers.proofs.Alone.{alone_behind, named_stays, stays}
use Rattle.live_registers.proofs.Apart.{not_written}
use Rattle.live_registers.proofs.Digits.{first_within, second_within}

same : (m r : ℕ) (x : List ℕ) → Within (one r) m → slice_index (live_alone m x) r ≡ slice_index x r
same m r x w = stays m x r (named_stays m r w)

first : (m r s : ℕ) (x : List ℕ) → Within (two r s) m → slice_index (live_alone m x) r ≡ slice_index x r
first m r s x w = same m r x (first_within (one r) (one s) m w)

second : (m r s : ℕ) (x : List ℕ) → Within (two r s) m → slice_index (live_alone m x) s ≡ slice_index x s
second m r s x w = same m s x (second_within (one r) (one s) m w)

pub read_alike : OthersAreNotRead
read_alike (Upper Lui rd imm) pc size read m x w = record { stop = refl; access = refl; next = refl; written = refl }
read_alike (Upper Auipc rd imm) pc size read m x w = record { stop = refl; access = refl; next = refl; written = refl }
read_alike (Jal rd offset) pc size read m x w = record { stop = refl; access = refl; next = refl; written = refl }
read_alike (Jalr rd rs1 offset) pc size read m x w = let e = same m rs1 x w in record { stop = rw e; access = refl; next = rw e; written = refl }
read_alike (Branch op rs1 rs2 offset) pc size read m x w =
    let e = first m rs1 rs2 x w in
    let f = second m rs1 rs2 x w in
    let taken : is_taken op (slice_index (live_alone m x) rs1) (slice_index (live_alone m x) rs2) ≡ is_taken op (slice_index x rs1) (slice_index x rs2) = λ i. is_taken op (e i) (f i) in
    record { stop = rw (e, f); access = refl; next = ap (λ t. elim (if t then Some (sum32 pc offset) else None) [ Some target ↦ target | None ↦ sum32 pc 4 ]) taken; written = refl }
read_alike (Load op rd rs1 offset) pc size read m x w = let e = same m rs1 x w in record { stop = rw e; access = rw e; next = refl; written = refl }
read_alike (Store op rs1 rs2 offset) pc size read m x w =
    let e = first m rs1 rs2 x w in
    let f = second m rs1 rs2 x w in
    record { stop = rw e; access = rw (e, f); next = refl; written = refl }
read_alike (Immediate op rd rs1 imm) pc size read m x w = let e = same m rs1 x w in record { stop = refl; access = refl; next = refl; written = rw e }
read_alike (Shift op rd rs1 amount) pc size read m x w = let e = same m rs1 x w in record { stop = refl; access = refl; next = refl; written = rw e }
read_alike (Register op rd rs1 rs2) pc size read m x w =
    let e = first m rs1 rs2 x w in
    let f = second m rs1 rs2 x w in
    record { stop = refl; access = refl; next = refl; written = rw (e, f) }
read_alike (Fence sets) pc size read m x w = record { stop = refl; access = refl; next = refl; written = refl }
read_alike FenceTso pc size read m x w = record { stop = refl; access = refl; next = refl; written = refl }
read_alike (System Ecall) pc size read m x w =
    let e = second m 10 17 x w in
    let f = first m 10 17 x w in
    record { stop = rw e; access = rw (e, f); next = refl; written = refl }
read_alike (System Ebreak) pc size read m x w = record { stop = refl; access = refl; next = refl; written = refl }
read_alike (Lr rd rs1 bits) pc size read m x w = let e = same m rs1 x w in record { stop = rw e; access = rw e; next = refl; written = refl }
read_alike (Sc rd rs1 rs2 bits) pc size read m x w =
    let both : Within (two rs1 rs2) m = second_within 1 (two rs1 rs2) m w in
    let e = first m rs1 rs2 x both in
    let f = second m rs1 rs2 x both in
    record { stop = rw e; access = rw (e, f); next = refl; written = refl }
read_alike (Amo op rd rs1 rs2 bits) pc size read m x w =
    let e = first m rs1 rs2 x w in
    let f = second m rs1 rs2 x w in
    record { stop = rw e; access = rw (e, f); next = refl; written = refl }

pub left_alike : OthersAreNotLeft
left_alike i pc read m n x closed = alone_behind m n x (written_of i pc x read) (λ r l z e d. closed r l e (not_written i pc x read r l z d))
