-- Memory's bytes, one segment more at a time.
use Rattle.std.proofs.Common.{◌≡◌, ℕ, zero, suc, ◌+◌, ◌-◌, ◌<◌, ◌≤◌, ◌⊎◌, min, max, Bool, true, false, cond, ◌||◌, List, [], ◌∷◌, ◌++◌, length, take, drop, get_or, slice_index, find, Option, None, Some, inl, inr, refl, sym, ◌∙◌, ap, arith}
use Rattle.std.proofs.lemmas.Bool.Decides.{leb_tells, nat_tests}
use Rattle.std.proofs.lemmas.List.Folds.{find-append, list_any_at}
use Rattle.std.proofs.Math.Seq.{drop-cons, take-suc}
use Rattle.std.proofs.lemmas.List.{take-append-drop}
use Rattle.std.specs.List.{list_any}
use Rattle.std.specs.Option.{option_or}
use Rattle.elf_loader.specs.Elf.{has_file_byte, lies_outside, share_address, some_overlap}
use Rattle.elf_loader.specs.Load.{loaded_byte}
use Rattle.elf_loader.specs.Placed.{byte_after}
use Rattle.elf_loader.specs.Size.{base}
use Rattle.elf_loader.specs.declared.segment.ProgramHeader.{ProgramHeader}
use Rattle.elf_loader.proofs.Overlap.{has_address-from_file, overlap-from_common}
use Rattle.elf_loader.proofs.Placing.{LiesInside, lies_inside}
use lib.Dec.{leb, ltb}

either_false : (a b : Bool) → (a || b) ≡ false → (a ≡ false) × (b ≡ false)
either_false true b h = absurd (search arith)
either_false false b h = (refl, h)

pub none_at : {X : Type 0} (p : X → Bool) (xs : List X) (i : ℕ) (d : X) → i < length xs → list_any p xs ≡ false → p (get_or xs i d) ≡ false
none_at {X} p xs i d h none = go (p (get_or xs i d)) refl
  where
    go : (b : Bool) → p (get_or xs i d) ≡ b → p (get_or xs i d) ≡ false
    go true e = let some = list_any_at p xs i d h e in absurd (search arith)
    go false e = e

-- an address in two segments' bytes of the file is an address that they share
shared : (one other : ProgramHeader) (address : ℕ) → one.p_filesz ≤ one.p_memsz → other.p_filesz ≤ other.p_memsz
    → has_file_byte address one ≡ true → has_file_byte address other ≡ true → share_address one other ≡ true
shared one other address h k at_one at_other =
    overlap-from_common one other address (has_address-from_file one address h at_one) (has_address-from_file other address k at_other)

module _ (file : List ℕ) (size address : ℕ) where
  -- no segment before the one that has a byte at an address has one there
  none_before : (segments : List ProgramHeader) (i : ℕ) (d : ProgramHeader) → i < length segments
      → list_any (lies_outside (length file) size) segments ≡ false → some_overlap segments ≡ false
      → has_file_byte address (get_or segments i d) ≡ true → find (has_file_byte address) (take i segments) ≡ None
  none_before [] i d h inside apart has = absurd (omega arith)
  none_before (x ∷ xs) zero d h inside apart has = refl
  none_before (x ∷ xs) (suc i) d h inside apart has =
      let insides = either_false _ _ inside in
      let aparts = either_false _ _ apart in
      let within : i < length xs = omega arith in
      let here = lies_inside (length file) size x insides.0 in
      let there = lies_inside (length file) size (get_or xs i d) (none_at _ xs i d within insides.1) in
      let clear = none_at (share_address x) xs i d within aparts.0 in
      let rest = none_before xs i d within insides.1 aparts.1 has in
      go (has_file_byte address x) refl here.no_more there.no_more clear rest
    where
      go : (b : Bool) → has_file_byte address x ≡ b → x.p_filesz ≤ x.p_memsz → (get_or xs i d).p_filesz ≤ (get_or xs i d).p_memsz
          → share_address x (get_or xs i d) ≡ false → find (has_file_byte address) (take i xs) ≡ None
          → find (has_file_byte address) (x ∷ take i xs) ≡ None
      go true e h k clear rest = let both = shared x (get_or xs i d) address h k e has in absurd (search arith)
      go false e h k clear rest = rw (e, rest) refl

or_none : {X : Type 0} (o : Option X) → option_or o None ≡ o
or_none None = refl
or_none (Some x) = refl

-- a byte after one segment more is what the segments so far have there
pub byte_after-loaded : (file memory : List ℕ) (size k : ℕ) (segments : List ProgramHeader) (i : ℕ) (d : ProgramHeader)
    → i < length segments → list_any (lies_outside (length file) size) segments ≡ false → some_overlap segments ≡ false
    → slice_index memory k ≡ loaded_byte file (take i segments) (base + k)
    → byte_after file memory (get_or segments i d) k ≡ loaded_byte file (take (suc i) segments) (base + k)
byte_after-loaded file memory size k segments i d h inside apart before = go (has (get_or segments i d)) refl
  where
    has : ProgramHeader → Bool
    has = has_file_byte (base + k)

    found : find has (take (suc i) segments) ≡ option_or (find has (take i segments)) (find has (get_or segments i d ∷ []))
    found = ap (find has) (take-suc segments i d h) ∙ find-append has (take i segments) (get_or segments i d ∷ [])

    go : (b : Bool) → has (get_or segments i d) ≡ b
        → byte_after file memory (get_or segments i d) k ≡ loaded_byte file (take (suc i) segments) (base + k)
    go true e = rw (found, none_before file size (base + k) segments i d h inside apart e, e) refl
    go false e = rw (found, e, or_none (find has (take i segments))) before

-- a segment's byte of the file is what memory has at its address
pub loaded_byte-segment : (file : List ℕ) (size address : ℕ) (segments : List ProgramHeader) (i : ℕ) (d : ProgramHeader)
    → i < length segments → list_any (lies_outside (length file) size) segments ≡ false → some_overlap segments ≡ false
    → has_file_byte address (get_or segments i d) ≡ true
    → loaded_byte file segments address ≡ slice_index file ((get_or segments i d).p_offset + (address - (get_or segments i d).p_vaddr))
loaded_byte-segment file size address segments i d h inside apart at =
    let has = has_file_byte address in
    let cut : segments ≡ take i segments ++ (get_or segments i d ∷ drop (suc i) segments) =
    sym (take-append-drop i segments) ∙ ap (λ (xs : List ProgramHeader). take i segments ++ xs) (drop-cons segments i d h) in
    let found = ap (find has) cut ∙ find-append has (take i segments) (get_or segments i d ∷ drop (suc i) segments) in
    rw (found, none_before file size address segments i d h inside apart at, at) refl
