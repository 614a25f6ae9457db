-- An instruction sets no other register than the one that it names.
use Rattle.std.proofs.Common.{◌≡◌, ◌≢◌, ℕ, zero, suc, ◌+◌, ◌-◌, ◌*◌, ◌^◌, ◌%◌, ◌<◌, ◌≤◌, List, Bool, true, false, Option, Some, None, refl, ap, ◌∙◌, arith, lit<, max, sym}
use Rattle.std.specs.Prelude.{◌==◌, nat_lt, bit_or, if◌then◌else◌}
use Rattle.std.specs.Int.{bit_at, w32}
use Rattle.std.proofs.lemmas.Bool.{false≢true, ltb-true, ltb-false}
use Rattle.std.proofs.lemmas.Bool.Decides.{Decides-eqb}
use Rattle.std.proofs.lemmas.Nat.Bits.{bit_at-lt, bit_at-pow_other, bit_at-zero, bit_at_or, bit_at_set_other}
use Rattle.std.proofs.Math.Nat.{mul-add-mod_self_left}
use Rattle.std.proofs.lemmas.Nat.{pow-add}
use Rattle.rv32_decode.specs.declared.instruction.Instr.{Instr}
use Rattle.rv32_decode.specs.declared.instruction.Instr.TheVariants.{Upper, Jal, Jalr, Branch, Load, Store, Immediate, Shift, Register, Fence, FenceTso, System, Lr, Sc, Amo}
use Rattle.rv32_decode.specs.declared.instruction.UpperOp.TheVariants.{Lui, Auipc}
use Rattle.rv32_exec.specs.Meaning.{written_of}
use Rattle.live_registers.specs.Live.{is_live, one, writes}

-- a write is to no register, or to another
abbrev pub IsNot : Option (ℕ × ℕ) → ℕ → Type 0
IsNot None r = Unit {0}
IsNot (Some w) r = r ≢ w.0

none_in : (m r : ℕ) → bit_at m r ≡ 0 → is_live m r ≡ false
none_in m r e = ap (λ n. n == 1) e

far : (rd : ℕ) → 32 ≤ rd → 1 * 2 ^ rd % 2 ^ 32 ≡ 0
far rd l =
    let rest : ℕ = rd - 32 in
    let is : rd ≡ 32 + rest = omega (arith, l) in
    let times : 2 ^ (32 + rest) ≡ 2 ^ 32 * 2 ^ rest = pow-add 2 32 rest in
    let whole : 1 * 2 ^ (32 + rest) ≡ 2 ^ 32 * 2 ^ rest + 0 = omega (arith, times) in
    ap (λ k. 1 * 2 ^ k % 2 ^ 32) is ∙ (ap (λ v. v % 2 ^ 32) whole ∙ mul-add-mod_self_left (2 ^ 32) (2 ^ rest) 0)

pub other_digit : (rd r : ℕ) → r < 32 → r ≢ rd → is_live (one rd) r ≡ false
other_digit rd r l n = go (rd == 0)
  where
    inside : (t : Bool) → nat_lt rd 32 ≡ t → bit_at (1 * 2 ^ rd % 2 ^ 32) r ≡ 0
    inside true b = bit_at_set_other w32 0 rd (ltb-true rd 32 b) r n ∙ bit_at-zero r
    inside false b = ap (λ m. bit_at m r) (far rd (ltb-false rd 32 b)) ∙ bit_at-zero r

    go : (t : Bool) → is_live (if t then 0 else 1 * 2 ^ rd % 2 ^ 32) r ≡ false
    go true = none_in 0 r (bit_at-zero r)
    go false = none_in (1 * 2 ^ rd % 2 ^ 32) r (inside (nat_lt rd 32) refl)

pub nothing : (r : ℕ) → is_live 0 r ≡ false
nothing r = none_in 0 r (bit_at-zero r)

over_zero : (n : ℕ) → n < 2 → max 0 n ≡ n
over_zero zero l = refl
over_zero (suc zero) l = refl
over_zero (suc (suc n)) l = absurd (omega (arith, l))

-- beside the reservation
beside : (m r : ℕ) → r ≢ 0 → is_live (bit_or 1 m) r ≡ is_live m r
beside m r n = ap (λ k. k == 1) (bit_at_or 1 m r ∙ (ap (λ k. max k (bit_at m r)) (bit_at-pow_other 0 r n) ∙ over_zero (bit_at m r) (bit_at-lt m r)))

both : (rd r : ℕ) → r < 32 → r ≢ 0 → r ≢ rd → is_live (bit_or 1 (one rd)) r ≡ false
both rd r l z n = beside (one rd) r z ∙ other_digit rd r l n

pub not_written : (i : Instr) (pc : ℕ) (x : List ℕ) (read r : ℕ) → r < 32 → r ≢ 0 → IsNot (written_of i pc x read) r → is_live (writes i) r ≡ false
not_written (Upper Lui rd imm) pc x read r l z n = other_digit rd r l n
not_written (Upper Auipc rd imm) pc x read r l z n = other_digit rd r l n
not_written (Jal rd offset) pc x read r l z n = other_digit rd r l n
not_written (Jalr rd rs1 offset) pc x read r l z n = other_digit rd r l n
not_written (Branch op rs1 rs2 offset) pc x read r l z n = nothing r
not_written (Load op rd rs1 offset) pc x read r l z n = other_digit rd r l n
not_written (Store op rs1 rs2 offset) pc x read r l z n = nothing r
not_written (Immediate op rd rs1 imm) pc x read r l z n = other_digit rd r l n
not_written (Shift op rd rs1 amount) pc x read r l z n = other_digit rd r l n
not_written (Register op rd rs1 rs2) pc x read r l z n = other_digit rd r l n
not_written (Fence sets) pc x read r l z n = nothing r
not_written FenceTso pc x read r l z n = nothing r
not_written (System op) pc x read r l z n = nothing r
not_written (Lr rd rs1 bits) pc x read r l z n = both rd r l z n
not_written (Sc rd rs1 rs2 bits) pc x read r l z n = both rd r l z n
not_written (Amo op rd rs1 rs2 bits) pc x read r l z n = other_digit rd r l n

-- no register's digit is the reservation's
pub reservation_apart : (rd : ℕ) → is_live (one rd) 0 ≡ false
reservation_apart rd = go (rd == 0) refl
  where
    go : (t : Bool) → (rd == 0) ≡ t → is_live (one rd) 0 ≡ false
    go true e = ap (λ t. is_live (if t then 0 else 1 * 2 ^ rd % 2 ^ 32) 0) e ∙ nothing 0
    go false e = other_digit rd 0 (lit< tt) (λ z. false≢true (sym e ∙ (Decides-eqb rd 0).1 (sym z)))
