-- Marks of the four bytes of a word: the byte at place k is the one at the word's address and k more,
-- as a little-endian memory has it (RISC-V Unprivileged ISA 20191213, section 2.6, leaves the choice to the machine).
use Rattle.std.specs.Prelude.{ℕ, ◌+◌, Bool, false, ◌||◌, ◌&&◌, not, List, [], ◌∷◌, nat_le, nat_lt, slice_index, slice_index_or, if◌then◌else◌}

-- one of each place
abbrev pub each_place : {A : Type 0} → (ℕ → A) → List A
each_place f = f 0 ∷ f 1 ∷ f 2 ∷ f 3 ∷ []

abbrev pub is_marked : List Bool → ℕ → Bool
is_marked mask k = slice_index_or mask k false

abbrev pub no_marks : List Bool
no_marks = each_place (λ k. false)

-- the bytes of an access: so many, from this place on
abbrev pub marks_of_access : ℕ → ℕ → List Bool
marks_of_access offset size = each_place (λ k. nat_le offset k && nat_lt k (offset + size))

-- what either marks
abbrev pub united : List Bool → List Bool → List Bool
united one other = each_place (λ k. is_marked one k || is_marked other k)

-- it marks all that are needed
abbrev pub covers : List Bool → List Bool → Bool
covers mask needed =
    (not (is_marked needed 0) || is_marked mask 0)
    && (not (is_marked needed 1) || is_marked mask 1)
    && (not (is_marked needed 2) || is_marked mask 2)
    && (not (is_marked needed 3) || is_marked mask 3)

-- the marked bytes of the upper word, and the others of the lower
abbrev pub laid_over : List Bool → List ℕ → List ℕ → List ℕ
laid_over mask upper lower = each_place (λ k. if is_marked mask k then slice_index upper k else slice_index lower k)
