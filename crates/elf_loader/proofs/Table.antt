-- The program header table, one entry more at a time.
use Rattle.std.proofs.Common.{◌≡◌, ◌≢◌, ℕ, ◌+◌, ◌*◌, Bool, true, false, cond, List, [], ◌∷◌, ◌++◌, map, filter, refl, sym, ◌∙◌, ap, arith}
use Rattle.std.proofs.lemmas.Bool.Decides.{nat_tests}
use Rattle.std.proofs.lemmas.List.{append-nil}
use Rattle.std.proofs.lemmas.List.FromFn.{filter_of_map_range_with_len_more}
use Rattle.std.specs.List.{range_with_len}
use Rattle.elf_loader.specs.Elf.{e_phoff, is_load, program_header_at}
use Rattle.elf_loader.specs.declared.segment.ProgramHeader.{ProgramHeader}

-- the loadable ones of the first k entries
abbrev pub segments_below : List ℕ → ℕ → List ProgramHeader
segments_below file k = filter is_load (map (λ j. program_header_at file (e_phoff file + 32 * j)) (range_with_len 0 k))

tests_load : (header : ProgramHeader) → header.p_type ≡ 1 → is_load header ≡ true
tests_load header h = grind (arith, nat_tests)

tests_other : (header : ProgramHeader) → header.p_type ≢ 1 → is_load header ≡ false
tests_other header h = grind (arith, nat_tests)

module _ (file : List ℕ) (k at : ℕ) (header : ProgramHeader) (place : at ≡ e_phoff file) (read : header ≡ program_header_at file (at + 32 * k)) where
  more : segments_below file (k + 1) ≡ segments_below file k ++ cond (is_load header) (header ∷ []) []
  more =
      rw (read, place) (filter_of_map_range_with_len_more is_load (λ j. program_header_at file (e_phoff file + 32 * j)) 0 k k (omega arith))

  pub segments_below-load : header.p_type ≡ 1 → segments_below file (k + 1) ≡ segments_below file k ++ header ∷ []
  segments_below-load h = more ∙ rw (tests_load header h) refl

  pub segments_below-other : header.p_type ≢ 1 → segments_below file (k + 1) ≡ segments_below file k
  segments_below-other h = more ∙ rw (tests_other header h, append-nil) refl
