-- A segment that hasn't the byte is passed over.
use Rattle.std.proofs.Common.{◌≡◌, ◌∙◌, ◌+◌, ◌-◌, ◌*◌, ◌<◌, ◌&&◌, ℕ, suc, Bool, true, false, cond, List, None, Option, Some, ap, arith, refl, subst, sym}
use Rattle.elf_loader.specs.Elf.{e_phoff, has_file_byte, is_load, program_header_at}
use Rattle.elf_loader.specs.declared.segment.ProgramHeader.{ProgramHeader}
use Rattle.image_writing.specs.Places.{place_by, place_from}

skipped : (address : ℕ) (segment : ProgramHeader) (other : Option ℕ) → place_by address segment None ≡ None → place_by address segment other ≡ other
skipped address segment other none = go (is_load segment && has_file_byte address segment) none
  where
    go : (b : Bool) → cond b (Some (segment.p_offset + (address - segment.p_vaddr))) None ≡ None → cond b (Some (segment.p_offset + (address - segment.p_vaddr))) other ≡ other
    go true none = cc
    go false none = refl

pub passed_over : (file : List ℕ) (address entry count table : ℕ) → entry < count → table ≡ e_phoff file → place_by address (program_header_at file (table + 32 * entry)) None ≡ None
    → place_from file address (entry + 1) (count - (entry + 1)) ≡ place_from file address entry (count - entry)
passed_over file address entry count table below is none =
    let more : suc (count - (entry + 1)) ≡ count - entry = omega (arith, below) in
    sym (skipped address (program_header_at file (e_phoff file + 32 * entry)) (place_from file address (entry + 1) (count - (entry + 1))) (subst (λ t. place_by address (program_header_at file (t + 32 * entry)) None ≡ None) is none))
    ∙ ap (place_from file address entry) more
