-- The rows' masks, in terms of fields.
use Rattle.std.proofs.Common.{◌≡◌, ℕ, zero, suc, ◌+◌, ◌*◌, ◌/◌, ◌%◌, ◌^◌, ◌<◌, refl, ap, ◌∙◌, arith, bit_and}
use Rattle.std.specs.Prelude.{◌==◌}
use Rattle.std.proofs.lemmas.Nat.{and_shr, and_mod, and_mask}
use Rattle.std.proofs.lemmas.Nat.Bits.{and_pow}

pub mask_opcode : (w : ℕ) → bit_and w 0x7f ≡ w % 128
mask_opcode w = and_mask w 7

pub mask_funct3 : (w : ℕ) → bit_and w 0x707f ≡ w % 128 + w / 4096 % 8 * 4096
mask_funct3 w =
    let a : bit_and w 0x707f % 4096 ≡ bit_and (w % 4096) 127 = and_mod w 0x707f 12 in
    let b : bit_and w 0x707f / 4096 ≡ bit_and (w / 4096) 7 = and_shr w 0x707f 12 in
    let c : bit_and (w % 4096) 127 ≡ w % 4096 % 128 = and_mask (w % 4096) 7 in
    let d : bit_and (w / 4096) 7 ≡ w / 4096 % 8 = and_mask (w / 4096) 3 in
    omega arith

pub mask_funct7 : (w : ℕ) → bit_and w 0xfe00707f ≡ w % 128 + w / 4096 % 8 * 4096 + w / 33554432 % 128 * 33554432
mask_funct7 w =
    let a : bit_and w 0xfe00707f % 33554432 ≡ bit_and (w % 33554432) 0x707f = and_mod w 0xfe00707f 25 in
    let b : bit_and w 0xfe00707f / 33554432 ≡ bit_and (w / 33554432) 127 = and_shr w 0xfe00707f 25 in
    let c = mask_funct3 (w % 33554432) in
    let d : bit_and (w / 33554432) 127 ≡ w / 33554432 % 128 = and_mask (w / 33554432) 7 in
    omega arith

pub mask_funct5 : (w : ℕ) → bit_and w 0xf800707f ≡ w % 128 + w / 4096 % 8 * 4096 + w / 134217728 % 32 * 134217728
mask_funct5 w =
    let a : bit_and w 0xf800707f % 134217728 ≡ bit_and (w % 134217728) 0x707f = and_mod w 0xf800707f 27 in
    let b : bit_and w 0xf800707f / 134217728 ≡ bit_and (w / 134217728) 31 = and_shr w 0xf800707f 27 in
    let c = mask_funct3 (w % 134217728) in
    let d : bit_and (w / 134217728) 31 ≡ w / 134217728 % 32 = and_mask (w / 134217728) 5 in
    omega arith

pub mask_source : (w : ℕ) → bit_and w 0x1f0707f ≡ w % 128 + w / 4096 % 8 * 4096 + w / 1048576 % 32 * 1048576
mask_source w =
    let a : bit_and w 0x1f0707f % 1048576 ≡ bit_and (w % 1048576) 0x707f = and_mod w 0x1f0707f 20 in
    let b : bit_and w 0x1f0707f / 1048576 ≡ bit_and (w / 1048576) 31 = and_shr w 0x1f0707f 20 in
    let c = mask_funct3 (w % 1048576) in
    let d : bit_and (w / 1048576) 31 ≡ w / 1048576 % 32 = and_mask (w / 1048576) 5 in
    omega arith

pub mask_reserved : (w : ℕ) → bit_and w 0xf9f0707f ≡ w % 128 + w / 4096 % 8 * 4096 + w / 1048576 % 32 * 1048576 + w / 134217728 % 32 * 134217728
mask_reserved w =
    let a : bit_and w 0xf9f0707f % 134217728 ≡ bit_and (w % 134217728) 0x1f0707f = and_mod w 0xf9f0707f 27 in
    let b : bit_and w 0xf9f0707f / 134217728 ≡ bit_and (w / 134217728) 31 = and_shr w 0xf9f0707f 27 in
    let c = mask_source (w % 134217728) in
    let d : bit_and (w / 134217728) 31 ≡ w / 134217728 % 32 = and_mask (w / 134217728) 5 in
    omega arith

pub mask_whole : (w : ℕ) → w < 2 ^ 32 → bit_and w 0xffffffff ≡ w
mask_whole w h = let a : bit_and w 0xffffffff ≡ w % 4294967296 = and_mask w 32 in omega arith

-- ---- one bit

bit_counted : (m : ℕ) → m < 2 → (m * 2 == 2) ≡ (m == 1)
bit_counted zero l = refl
bit_counted (suc zero) l = refl
bit_counted (suc (suc m)) l = absurd (omega (arith, l))

pub has_second_bit : (n : ℕ) → (bit_and n 2 == 2) ≡ (n / 2 ^ 1 % 2 ^ 1 == 1)
has_second_bit n =
    let e : bit_and n 2 ≡ n / 2 % 2 * 2 = and_pow n 1 in
    ap (λ x. x == 2) e ∙ bit_counted (n / 2 % 2) (omega arith)
