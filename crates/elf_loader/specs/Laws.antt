-- What the definitions of segments and of the image come to.
use Rattle.std.specs.Prelude.{◌≡◌, ℕ, ◌+◌, ◌-◌, ◌<◌, ◌↔◌, Bool, true, false, List, length, slice_index, slice_index_or}
use Rattle.std.specs.List.{list_any}
use Rattle.elf_loader.specs.Elf.{HasCommonAddress, has_file_byte, lies_outside, share_address, some_overlap}
use Rattle.elf_loader.specs.Load.{loaded_byte}
use Rattle.elf_loader.specs.declared.segment.ProgramHeader.{ProgramHeader}

-- two segments overlap exactly where some address belongs to both
abbrev pub OverlapIsCommonAddress : Type 0
OverlapIsCommonAddress = (one other : ProgramHeader) → (share_address one other ≡ true) ↔ HasCommonAddress one other

-- where no segment lies outside and none overlap, memory has each segment's bytes of the file at its
-- addresses, whatever the order of the segments
abbrev pub EachSegmentIsLoaded : Type 0
EachSegmentIsLoaded =
    (file : List ℕ) (size address : ℕ) (segments : List ProgramHeader) (i : ℕ) (other : ProgramHeader)
    → list_any (lies_outside (length file) size) segments ≡ false → some_overlap segments ≡ false → i < length segments
    → let segment = slice_index_or segments i other in
    has_file_byte address segment ≡ true
    → loaded_byte file segments address ≡ slice_index file (segment.p_offset + (address - segment.p_vaddr))
