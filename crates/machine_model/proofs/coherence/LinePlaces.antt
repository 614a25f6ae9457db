-- Lines of memory by their address and by their place.
use Rattle.std.proofs.Common.{ℕ, ◌+◌, ◌-◌, ◌/◌, ◌%◌, Bool, true, false, ◌≡◌, ◌<◌, ◌≤◌, refl, length}
use Rattle.std.specs.Prelude.{◌==◌, ◌&&◌, nat_le}
use Rattle.std.proofs.lemmas.Bool.{eqb-true, leb-true}
use native.Mathlib.Omega.{arith}
use Rattle.elf_loader.specs.Image.{Initial, end_of}
use Rattle.elf_loader.specs.Size.{base}
use Rattle.machine_model.specs.Events.{is_piece}
use Rattle.machine_model.specs.Views.{place_of}
use Rattle.tl_types.specs.Line.{length_of}
use Rattle.tl_types.specs.declared.line.LineSize.{LineSize}
use Rattle.tl_types.specs.declared.line.LineSize.TheVariants.{Bytes16, Bytes64}

-- how many lines memory has
abbrev pub count_of : Initial → LineSize → ℕ
count_of image size = length image.bytes / length_of size

pub record IsPiece (image : Initial) (address bytes : ℕ) : Type 0 where
  pub aligned : address % bytes ≡ 0
  pub low : base ≤ address
  pub high : address + bytes ≤ end_of image

pub piece : (image : Initial) (address bytes : ℕ) → is_piece image address bytes ≡ true → IsPiece image address bytes
piece image address bytes e = go (address % bytes == 0) refl (nat_le base address) refl (nat_le (address + bytes) (end_of image)) refl e
  where
    go : (a : Bool) → (address % bytes == 0) ≡ a → (b : Bool) → nat_le base address ≡ b → (c : Bool) → nat_le (address + bytes) (end_of image) ≡ c → a && b && c ≡ true → IsPiece image address bytes
    go true e true f true g is = record { aligned = eqb-true _ _ e; low = leb-true _ _ f; high = leb-true _ _ g }
    go false e b f c g is = cc is
    go true e false f c g is = cc is
    go true e true f false g is = cc is

pub place_inside : (image : Initial) (size : LineSize) (l : ℕ) → is_piece image l (length_of size) ≡ true → place_of size l < count_of image size
place_inside image Bytes16 l e = let p : IsPiece image l 16 = piece image l 16 e in go (length image.bytes) p.aligned p.low p.high
  where
    go : (n : ℕ) → l % 16 ≡ 0 → 2147483648 ≤ l → l + 16 ≤ 2147483648 + n → (l - 2147483648) / 16 < n / 16
    go n aligned low high = omega arith
place_inside image Bytes64 l e = let p : IsPiece image l 64 = piece image l 64 e in go (length image.bytes) p.aligned p.low p.high
  where
    go : (n : ℕ) → l % 64 ≡ 0 → 2147483648 ≤ l → l + 64 ≤ 2147483648 + n → (l - 2147483648) / 64 < n / 64
    go n aligned low high = omega arith

-- two lines stand at two places
pub place_own : (image : Initial) (size : LineSize) (q l : ℕ) → is_piece image q (length_of size) ≡ true → is_piece image l (length_of size) ≡ true → place_of size q ≡ place_of size l → q ≡ l
place_own image Bytes16 q l e f same = let p : IsPiece image q 16 = piece image q 16 e in let r : IsPiece image l 16 = piece image l 16 f in go p.aligned p.low r.aligned r.low same
  where
    go : q % 16 ≡ 0 → 2147483648 ≤ q → l % 16 ≡ 0 → 2147483648 ≤ l → (q - 2147483648) / 16 ≡ (l - 2147483648) / 16 → q ≡ l
    go a b c d same = omega arith
place_own image Bytes64 q l e f same = let p : IsPiece image q 64 = piece image q 64 e in let r : IsPiece image l 64 = piece image l 64 f in go p.aligned p.low r.aligned r.low same
  where
    go : q % 64 ≡ 0 → 2147483648 ≤ q → l % 64 ≡ 0 → 2147483648 ≤ l → (q - 2147483648) / 64 ≡ (l - 2147483648) / 64 → q ≡ l
    go a b c d same = omega arith
