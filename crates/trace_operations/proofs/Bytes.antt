-- Bytes of a word.
use Rattle.std.proofs.Common.{◌≡◌, ◌<◌, ◌≤◌, ◌/◌, ◌%◌, ◌^◌, ℕ, refl, arith}
use Rattle.std.proofs.Math.Nat.{div-eq_of_lt, pow-le-pow_right}

-- behind its fourth byte a word has zeros
pub far_byte : (word index : ℕ) → word < 2 ^ 32 → 4 ≤ index → word / 256 ^ index % 256 ≡ 0
far_byte word index small far =
    let large : 256 ^ 4 ≤ 256 ^ index = pow-le-pow_right (omega arith) far in
    let less : word < 256 ^ index = omega arith in
    rw (div-eq_of_lt less) refl
