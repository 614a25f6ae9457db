-- What an instruction sets are registers below 32 and the reservation.
use Rattle.std.proofs.Common.{ℕ, ◌*◌, ◌^◌, ◌%◌, ◌<◌, Bool, true, false, lit<}
use Rattle.std.specs.Prelude.{◌==◌, bit_or, if◌then◌else◌}
use Rattle.std.proofs.Math.Nat.{mod-lt}
use Rattle.std.proofs.lemmas.Nat.{or_lt}
use Rattle.rv32_decode.specs.declared.instruction.Instr.{Instr}
use Rattle.rv32_decode.specs.declared.instruction.Instr.TheVariants.{Upper, Jal, Jalr, Branch, Load, Store, Immediate, Shift, Register, Fence, FenceTso, System, Lr, Sc, Amo}
use Rattle.live_registers.specs.Live.{one, writes}

one_fits : (r : ℕ) → one r < 2 ^ 32
one_fits r = go (r == 0)
  where
    go : (t : Bool) → (if t then 0 else 1 * 2 ^ r % 2 ^ 32) < 2 ^ 32
    go true = lit< tt
    go false = mod-lt (1 * 2 ^ r) (lit< tt)

both_fit : (r : ℕ) → bit_or 1 (one r) < 2 ^ 32
both_fit r = or_lt 32 1 (one r) (lit< tt) (one_fits r)

pub writes_fit : (i : Instr) → writes i < 2 ^ 32
writes_fit (Upper op rd imm) = one_fits rd
writes_fit (Jal rd offset) = one_fits rd
writes_fit (Jalr rd rs1 offset) = one_fits rd
writes_fit (Branch op rs1 rs2 offset) = lit< tt
writes_fit (Load op rd rs1 offset) = one_fits rd
writes_fit (Store op rs1 rs2 offset) = lit< tt
writes_fit (Immediate op rd rs1 imm) = one_fits rd
writes_fit (Shift op rd rs1 amount) = one_fits rd
writes_fit (Register op rd rs1 rs2) = one_fits rd
writes_fit (Fence sets) = lit< tt
writes_fit FenceTso = lit< tt
writes_fit (System op) = lit< tt
writes_fit (Lr rd rs1 bits) = both_fit rd
writes_fit (Sc rd rs1 rs2 bits) = both_fit rd
writes_fit (Amo op rd rs1 rs2 bits) = one_fits rd
