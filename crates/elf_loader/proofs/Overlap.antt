-- Two segments overlap exactly where an address belongs to both.
use Rattle.std.proofs.Common.{◌≡◌, ℕ, suc, ◌+◌, ◌<◌, ◌≤◌, min, max, true, arith}
use Rattle.std.proofs.lemmas.Bool.Decides.{leb_tells, nat_tests}
use Rattle.elf_loader.specs.Elf.{HasCommonAddress, has_address, has_file_byte, share_address}
use Rattle.elf_loader.specs.declared.segment.ProgramHeader.{ProgramHeader}
use lib.Dec.{ltb}

is_below : (a b : ℕ) → a < b → ltb a b ≡ true
is_below a b h = grind (arith, nat_tests)

below_is : (a b : ℕ) → ltb a b ≡ true → a < b
below_is a b h = grind (arith, nat_tests)

has_at : (segment : ProgramHeader) (address : ℕ) → segment.p_vaddr ≤ address → address < segment.p_vaddr + segment.p_memsz
    → has_address address segment ≡ true
has_at segment address low high = grind (arith, nat_tests)

pub common-from_overlap : (one other : ProgramHeader) → share_address one other ≡ true → HasCommonAddress one other
common-from_overlap one other h =
    let address = max one.p_vaddr other.p_vaddr in
    let below : max one.p_vaddr other.p_vaddr < min (one.p_vaddr + one.p_memsz) (other.p_vaddr + other.p_memsz) = below_is _ _ h in
    (address, has_at one address (omega arith) (omega arith), has_at other address (omega arith) (omega arith))

pub overlap-from_common : (one other : ProgramHeader) (address : ℕ) → has_address address one ≡ true → has_address address other ≡ true
    → share_address one other ≡ true
overlap-from_common one other address at_one at_other =
    let low : one.p_vaddr ≤ address = grind (arith, nat_tests) in
    let high : address < one.p_vaddr + one.p_memsz = grind (arith, nat_tests) in
    let low' : other.p_vaddr ≤ address = grind (arith, nat_tests) in
    let high' : address < other.p_vaddr + other.p_memsz = grind (arith, nat_tests) in
    is_below _ _ (omega arith)

-- what the file has of a segment is part of it
pub has_address-from_file : (segment : ProgramHeader) (address : ℕ) → segment.p_filesz ≤ segment.p_memsz
    → has_file_byte address segment ≡ true → has_address address segment ≡ true
has_address-from_file segment address h at =
    let low : segment.p_vaddr ≤ address = grind (arith, nat_tests) in
    let high : address < segment.p_vaddr + segment.p_filesz = grind (arith, nat_tests) in
    has_at segment address low (omega arith)
