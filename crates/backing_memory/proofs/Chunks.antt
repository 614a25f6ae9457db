-- Bytes cut into pieces one after the other, and each piece by its place.
use Rattle.std.proofs.Common.{◌≡◌, ℕ, zero, suc, ◌+◌, ◌*◌, ◌/◌, List, ◌∷◌, map, take, drop, length, refl, arith}
use Rattle.std.proofs.lemmas.List.{drop-drop}
use Rattle.std.specs.List.{range_with_len}
use Rattle.std.specs.Simd.{first_chunks}
use Rattle.backing_memory.specs.Memory.{pieces_of}

first_chunks-from : (n k j o : ℕ) (xs : List ℕ) → o ≡ j * n
    → first_chunks n k (drop o xs) ≡ map (λ i. take n (drop (i * n) xs)) (range_with_len j k)
first_chunks-from n zero j o xs at = refl
first_chunks-from n (suc k) j o xs at =
    let next : o + n ≡ (j + 1) * n = omega arith in
    rw (drop-drop n o xs, first_chunks-from n k (j + 1) (o + n) xs next, at) refl

pub first_chunks-pieces : (n : ℕ) (xs : List ℕ) → first_chunks n (length xs / n) xs ≡ pieces_of n xs
first_chunks-pieces n xs = first_chunks-from n (length xs / n) 0 0 xs (omega arith)

-- the same for tactics
pub ruleset pieces = first_chunks-pieces
