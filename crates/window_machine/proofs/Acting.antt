-- What an instruction that doesn't stop does lies in memory.
use Rattle.std.proofs.Common.{◌≡◌, ℕ, ◌+◌, ◌%◌, ◌^◌, ◌≤◌, Bool, true, false, ◌||◌, List, Option, Some, None, refl, ap, ◌∙◌, arith}
use Rattle.std.specs.Prelude.{◌==◌, if◌then◌else◌, nat_lt, slice_index}
use Rattle.std.proofs.lemmas.Bool.{eqb-true, ltb-false}
use Rattle.machine_types.specs.declared.limits.TheConstants.{BASE}
use Rattle.rv32_decode.specs.declared.instruction.Instr.{Instr}
use Rattle.rv32_decode.specs.declared.instruction.Instr.TheVariants as instr
use Rattle.rv32_decode.specs.declared.instruction.LoadOp.{LoadOp}
use Rattle.rv32_decode.specs.declared.instruction.LoadOp.TheVariants.{Lb, Lh, Lw, Lbu, Lhu}
use Rattle.rv32_decode.specs.declared.instruction.StoreOp.{StoreOp}
use Rattle.rv32_decode.specs.declared.instruction.StoreOp.TheVariants.{Sb, Sh, Sw}
use Rattle.rv32_decode.specs.declared.instruction.SystemOp.TheVariants.{Ecall, Ebreak}
use Rattle.rv32_exec.specs.Actions.{action_of_access, width_of}
use Rattle.rv32_exec.specs.Arithmetic.{bytes_loaded, bytes_stored, sum32}
use Rattle.rv32_exec.specs.Meaning.{access_of, access_stop, is_outside, stop_of}
use Rattle.rv32_exec.specs.Width.{byte_count}
use Rattle.window_machine.specs.Acting.{is_placed}
use Rattle.window_machine.specs.Lanes.{are_placed}
use Rattle.window_machine.proofs.Numbers.{Lies, lies_so}

-- ---- an access that doesn't stop

or_none : (a b : Bool) → (a || b) ≡ false → (a ≡ false) × (b ≡ false)
or_none true b e = absurd (cc)
or_none false b e = (refl, e)

pub lies_inside : (misaligned outside size a count : ℕ) → access_stop misaligned outside size a count ≡ None → size ≤ 1048576 → are_placed a count ≡ true
lies_inside misaligned outside size a count e l = go (a % count == 0) refl (is_outside size a count) refl e
  where
    go : (b : Bool) → (a % count == 0) ≡ b → (d : Bool) → is_outside size a count ≡ d → (if b then (if d then Some outside else None) else Some misaligned) ≡ None → are_placed a count ≡ true
    go true f true g h = absurd (cc)
    go true f false g h =
        let parts = or_none (nat_lt a BASE) (nat_lt (BASE + size) (a + count)) g in
        let low = ltb-false a BASE parts.0 in
        let high = ltb-false (BASE + size) (a + count) parts.1 in
        lies_so a count (record { aligned = eqb-true (a % count) 0 f; above = low; below = omega (arith, l, high) })
    go false f d g h = absurd (cc)

-- ---- by instruction

pub loaded_width : (op : LoadOp) → byte_count (width_of (bytes_loaded op)) ≡ bytes_loaded op
loaded_width Lb = refl
loaded_width Lh = refl
loaded_width Lw = refl
loaded_width Lbu = refl
loaded_width Lhu = refl

pub stored_width : (op : StoreOp) → byte_count (width_of (bytes_stored op)) ≡ bytes_stored op
stored_width Sb = refl
stored_width Sh = refl
stored_width Sw = refl

pub is_placed_so : (i : Instr) (pc : ℕ) (x : List ℕ) (size : ℕ) → stop_of i pc x size ≡ None → size ≤ 1048576 → is_placed i (action_of_access (access_of i x)) ≡ true
is_placed_so (instr.Upper op rd imm) pc x size e l = refl
is_placed_so (instr.Jal rd offset) pc x size e l = refl
is_placed_so (instr.Jalr rd rs1 offset) pc x size e l = refl
is_placed_so (instr.Branch op rs1 rs2 offset) pc x size e l = refl
is_placed_so (instr.Load op rd rs1 offset) pc x size e l =
    let a = sum32 (slice_index x rs1) offset in ap (are_placed a) (loaded_width op) ∙ lies_inside 4 5 size a (bytes_loaded op) e l
is_placed_so (instr.Store op rs1 rs2 offset) pc x size e l =
    let a = sum32 (slice_index x rs1) offset in ap (are_placed a) (stored_width op) ∙ lies_inside 6 7 size a (bytes_stored op) e l
is_placed_so (instr.Immediate op rd rs1 imm) pc x size e l = refl
is_placed_so (instr.Shift op rd rs1 amount) pc x size e l = refl
is_placed_so (instr.Register op rd rs1 rs2) pc x size e l = refl
is_placed_so (instr.Fence sets) pc x size e l = refl
is_placed_so instr.FenceTso pc x size e l = refl
is_placed_so (instr.System Ecall) pc x size e l = refl
is_placed_so (instr.System Ebreak) pc x size e l = refl
is_placed_so (instr.Lr rd rs1 bits) pc x size e l = lies_inside 6 7 size (slice_index x rs1) 4 e l
is_placed_so (instr.Sc rd rs1 rs2 bits) pc x size e l = lies_inside 6 7 size (slice_index x rs1) 4 e l
is_placed_so (instr.Amo op rd rs1 rs2 bits) pc x size e l = lies_inside 6 7 size (slice_index x rs1) 4 e l
