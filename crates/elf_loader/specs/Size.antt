-- Which sizes main memory may have.
use Rattle.std.specs.Prelude.{◌≡◌, ℕ, ◌*◌, ◌%◌, ◌≤◌, Bool, ◌&&◌, ◌==◌, nat_le}
use Rattle.machine_types.specs.declared.limits.TheConstants.{BASE, KIB_STEP, MAX_KIB, MIN_KIB}

-- the first address of main memory, 0x80000000
abbrev pub base : ℕ
base = BASE

-- a multiple of 4 KiB from 4 KiB to 1 MiB
pub record IsMemorySize (size : ℕ) : Type 0 where
  pub whole_pages : size % (1024 * KIB_STEP) ≡ 0
  pub at_least : 1024 * MIN_KIB ≤ size
  pub at_most : size ≤ 1024 * MAX_KIB

-- the numbers of KiB that give such a size
pub record IsMemoryKib (kib : ℕ) : Type 0 where
  pub whole_pages : kib % KIB_STEP ≡ 0
  pub at_least : MIN_KIB ≤ kib
  pub at_most : kib ≤ MAX_KIB

-- the same as a test
abbrev pub is_memory_kib : ℕ → Bool
is_memory_kib kib = nat_le MIN_KIB kib && nat_le kib MAX_KIB && kib % KIB_STEP == 0
