-- A segment's bytes in memory, place by place.
use Rattle.std.proofs.Common.{◌≡◌, ℕ, suc, ◌+◌, ◌-◌, ◌<◌, ◌≤◌, ◌⊎◌, Bool, true, false, List, ◌++◌, length, take, drop, get_or, slice_index, inl, inr, refl, sym, ◌∙◌, ap, arith}
use Rattle.std.proofs.lemmas.Bool.Decides.{leb_tells, nat_tests}
use Rattle.std.proofs.lemmas.List.{get_or-append_right, get_or-drop, get_or-take, get_or_append_left, length-drop, length-take-le}
use Rattle.elf_loader.specs.Elf.{lies_outside}
use Rattle.elf_loader.specs.Placed.{byte_after}
use Rattle.elf_loader.specs.Size.{base}
use Rattle.elf_loader.specs.declared.segment.ProgramHeader.{ProgramHeader}
use lib.Dec.{leb, ltb}

-- the bytes ys at place a, between what stood before and behind
module _ (xs ys : List ℕ) (a n : ℕ) (long : length ys ≡ n) (fits : a + n ≤ length xs) where
  abbrev pub pasted : List ℕ
  pasted = take a xs ++ (ys ++ drop n (drop a xs))

  front : length (take a xs) ≡ a
  front = length-take-le a xs (omega arith)

  pub pasted-below : (k : ℕ) → k < a → slice_index pasted k ≡ slice_index xs k
  pasted-below k h =
      let within : k < length (take a xs) = omega (arith, front) in
      get_or_append_left (take a xs) (ys ++ drop n (drop a xs)) 0 k within ∙ get_or-take a xs k 0 h

  pub pasted-at : (k : ℕ) → a ≤ k → k < a + n → slice_index pasted k ≡ slice_index ys (k - a)
  pasted-at k low high =
      let within : k - a < length ys = omega arith in
      get_or-append_right (take a xs) (ys ++ drop n (drop a xs)) a k 0 front low
      ∙ get_or_append_left ys (drop n (drop a xs)) 0 (k - a) within

  pub pasted-above : (k : ℕ) → a + n ≤ k → slice_index pasted k ≡ slice_index xs k
  pasted-above k h =
      let low : a ≤ k = omega arith in
      let past : n ≤ k - a = omega arith in
      let back : a + (n + (k - a - n)) ≡ k = omega arith in
      get_or-append_right (take a xs) (ys ++ drop n (drop a xs)) a k 0 front low
      ∙ get_or-append_right ys (drop n (drop a xs)) n (k - a) 0 long past
      ∙ get_or-drop n (drop a xs) (k - a - n) 0
      ∙ get_or-drop a xs (n + (k - a - n)) 0
      ∙ ap (λ (j : ℕ). get_or xs j 0) back

-- what a segment that does not lie outside has
pub record LiesInside (file_length size : ℕ) (segment : ProgramHeader) : Type 0 where
  pub no_more : segment.p_filesz ≤ segment.p_memsz
  pub in_file : segment.p_offset + segment.p_filesz ≤ file_length
  pub above : base ≤ segment.p_vaddr
  pub below : segment.p_vaddr + segment.p_memsz ≤ base + size

pub lies_inside : (file_length size : ℕ) (segment : ProgramHeader) → lies_outside file_length size segment ≡ false
    → LiesInside file_length size segment
lies_inside file_length size segment h = record {
  no_more = grind (arith, nat_tests);
  in_file = grind (arith, nat_tests);
  above = grind (arith, nat_tests);
  below = grind (arith, nat_tests);
}

pub pasted-segment : (file memory ys : List ℕ) (s : ProgramHeader) (a n m k : ℕ) → LiesInside (length file) (length memory) s
    → a ≡ s.p_vaddr - base → n ≡ s.p_filesz → m ≡ s.p_filesz → ys ≡ take m (drop s.p_offset file)
    → slice_index (take a memory ++ (ys ++ drop n (drop a memory))) k ≡ byte_after file memory s k
pasted-segment file memory ys s a n m k inside at count part are =
    go (leb_tells s.p_vaddr (base + k)) (leb_tells (suc (base + k)) (s.p_vaddr + s.p_filesz))
  where
    long : length ys ≡ n
    long = ap length are ∙ (length-take-le m (drop s.p_offset file) (simp length-drop (omega (arith, inside.in_file))) ∙ (part ∙ sym count))

    fits : a + n ≤ length memory
    fits = omega (arith, inside.no_more, inside.above, inside.below)

    go : ((leb s.p_vaddr (base + k) ≡ true) × (s.p_vaddr ≤ base + k)) ⊎ ((leb s.p_vaddr (base + k) ≡ false) × (base + k < s.p_vaddr))
        → ((leb (suc (base + k)) (s.p_vaddr + s.p_filesz) ≡ true) × (suc (base + k) ≤ s.p_vaddr + s.p_filesz))
        ⊎ ((leb (suc (base + k)) (s.p_vaddr + s.p_filesz) ≡ false) × (s.p_vaddr + s.p_filesz < suc (base + k)))
        → slice_index (take a memory ++ (ys ++ drop n (drop a memory))) k ≡ byte_after file memory s k
    go (inl low) (inl high) =
        let within : k - a < m = omega (arith, inside.above) in
        let place : s.p_offset + (k - a) ≡ s.p_offset + (base + k - s.p_vaddr) = omega (arith, inside.above) in
        rw (low.0, high.0)
        (pasted-at memory ys a n long fits k (omega (arith, inside.above)) (omega (arith, inside.above))
        ∙ ap (λ (zs : List ℕ). get_or zs (k - a) 0) are
        ∙ get_or-take m (drop s.p_offset file) (k - a) 0 within
        ∙ get_or-drop s.p_offset file (k - a) 0
        ∙ ap (λ (j : ℕ). get_or file j 0) place)
    go (inl low) (inr past) = rw (low.0, past.0) (pasted-above memory ys a n long fits k (omega (arith, inside.above)))
    go (inr under) high = rw under.0 (pasted-below memory ys a n long fits k (omega (arith, inside.above)))
