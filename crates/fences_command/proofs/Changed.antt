-- An image with words replaced is one that a machine can start from.
use Rattle.std.proofs.Common.{◌≡◌, ◌∙◌, ◌+◌, ◌-◌, ◌<◌, ◌≤◌, ◌∷◌, ◌++◌, [], ℕ, All, List, arith, drop, length, refl, subst, suc, sym, take, zero}
use Rattle.std.specs.Int.{to_le_bytes, w32}
use Rattle.std.specs.Prelude.{slice_index}
use Rattle.std.proofs.lemmas.List.{length-append, length-drop, length-take}
use Rattle.std.proofs.lemmas.List.Elements.{All-head, All-tail, All-weaker}
use Rattle.elf_loader.specs.Image.{HasWord, Initial, IsImage}
use Rattle.elf_loader.specs.Size.{IsMemorySize, base}
use Rattle.image_orderings.specs.Replaced.{patched, replaced}
use Rattle.image_orderings.specs.declared.replacing.Patch.{Patch}

-- ---- bytes

abbrev Fit : List ℕ → Type 0
Fit bytes = (k : ℕ) → slice_index bytes k < 256

fit_append : (xs ys : List ℕ) → Fit xs → Fit ys → Fit (xs ++ ys)
fit_append [] ys left right k = right k
fit_append (x ∷ xs) ys left right zero = left 0
fit_append (x ∷ xs) ys left right (suc k) = fit_append xs ys (λ i. left (suc i)) right k

fit_take : (n : ℕ) (xs : List ℕ) → Fit xs → Fit (take n xs)
fit_take zero xs fit k = omega arith
fit_take (suc n) [] fit k = omega arith
fit_take (suc n) (x ∷ xs) fit zero = fit 0
fit_take (suc n) (x ∷ xs) fit (suc k) = fit_take n xs (λ i. fit (suc i)) k

fit_drop : (n : ℕ) (xs : List ℕ) → Fit xs → Fit (drop n xs)
fit_drop zero xs fit k = fit k
fit_drop (suc n) [] fit k = omega arith
fit_drop (suc n) (x ∷ xs) fit k = fit_drop n xs (λ i. fit (suc i)) k

fit_word : (word : ℕ) → Fit (to_le_bytes w32 word)
fit_word word zero = omega arith
fit_word word (suc zero) = omega arith
fit_word word (suc (suc zero)) = omega arith
fit_word word (suc (suc (suc zero))) = omega arith
fit_word word (suc (suc (suc (suc k)))) = omega arith

-- ---- one word

module _ (image : Initial) (address word : ℕ) (inside : HasWord image address) where
  pub same_size : length (replaced image address word).bytes ≡ length image.bytes
  same_size =
      let low = inside.0 in
      let high = inside.1 in
      let four : length (to_le_bytes w32 word) ≡ 4 = refl in
      let front = length-take (address - base) image.bytes in
      let back = length-drop (address - base + 4) image.bytes in
      let behind = length-append (to_le_bytes w32 word) (drop (address - base + 4) image.bytes) in
      let all = length-append (take (address - base) image.bytes) (to_le_bytes w32 word ++ drop (address - base + 4) image.bytes) in
      omega (arith, low, high, four, front, back, behind, all)

  pub still_inside : (other : ℕ) → HasWord image other → HasWord (replaced image address word) other
  still_inside other has = let same = same_size in let high = has.1 in (has.0, omega (arith, same, high))

  replaced_is : IsImage image → IsImage (replaced image address word)
  replaced_is is = record {
    legal_size = subst IsMemorySize (sym same_size) is.legal_size;
    aligned_entry = is.aligned_entry;
    entry_inside = still_inside image.entry is.entry_inside;
    bytes_fit = fit_append (take (address - base) image.bytes) (to_le_bytes w32 word ++ drop (address - base + 4) image.bytes) (fit_take (address - base) image.bytes is.bytes_fit)
        (fit_append (to_le_bytes w32 word) (drop (address - base + 4) image.bytes) (fit_word word) (fit_drop (address - base + 4) image.bytes is.bytes_fit));
  }

-- ---- one after another

all_inside : (image : Initial) (p : Patch) (inside : HasWord image p.address) (rest : List Patch) → All (λ (q : Patch). HasWord image q.address) rest → All (λ (q : Patch). HasWord (replaced image p.address p.word) q.address) rest
all_inside image p inside rest all = All-weaker _ _ (λ (q : Patch) has. still_inside image p.address p.word inside q.address has) rest all

pub patched_is : (image : Initial) (patches : List Patch) → All (λ (p : Patch). HasWord image p.address) patches → IsImage image → IsImage (patched image patches)
patched_is image [] all is = is
patched_is image (p ∷ rest) all is =
    let inside = All-head (λ (q : Patch). HasWord image q.address) p rest all in
    patched_is (replaced image p.address p.word) rest (all_inside image p inside rest (All-tail (λ (q : Patch). HasWord image q.address) p rest all)) (replaced_is image p.address p.word inside is)
