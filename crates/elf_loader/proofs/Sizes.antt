-- What the test of a memory's size shows, and that it takes each size that memory may have.
use Rattle.std.proofs.Common.{◌≡◌, ℕ, true, arith, refl}
use Rattle.std.proofs.lemmas.Bool.{eq-eqb, le-leb}
use Rattle.std.proofs.lemmas.Bool.Decides.{nat_tests}
use Rattle.std.specs.Prelude.{◌%◌}
use Rattle.machine_types.specs.declared.limits.TheConstants.{KIB_STEP, MAX_KIB, MIN_KIB}
use Rattle.elf_loader.specs.Size.{IsMemoryKib, is_memory_kib}

pub memory_kib : (kib : ℕ) → is_memory_kib kib ≡ true → IsMemoryKib kib
memory_kib kib e = record { whole_pages = grind (arith, nat_tests); at_least = grind (arith, nat_tests); at_most = grind (arith, nat_tests) }

pub kib_passes : (kib : ℕ) → IsMemoryKib kib → is_memory_kib kib ≡ true
kib_passes kib is = rw (le-leb MIN_KIB kib is.at_least, le-leb kib MAX_KIB is.at_most, eq-eqb (kib % KIB_STEP) 0 is.whole_pages) refl
