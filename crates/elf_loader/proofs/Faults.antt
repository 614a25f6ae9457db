-- The first fault of the table, from the tests up to it.
use Rattle.std.proofs.Common.{◌≡◌, ◌≢◌, ℕ, ◌+◌, ◌%◌, ◌≤◌, ◌==◌, nat_lt, Bool, true, false, cond, not, List, [], ◌∷◌, length, find, None, Some, refl, arith}
use Rattle.std.proofs.lemmas.Bool.Decides.{nat_tests}
use Rattle.elf_loader.specs.Elf.{misplaced_entry}
use Rattle.elf_loader.specs.Size.{base}
use Rattle.elf_loader.specs.Load.{first_fault, segment_faults, shows}
use Rattle.elf_loader.specs.declared.error.LoadError.{LoadError}
use Rattle.elf_loader.specs.declared.error.LoadError.TheVariants.{Short, Magic, Class, FileType, Machine, Flags, HeaderTable, NoMemory}

pub not_short : (n : ℕ) → 52 ≤ n → nat_lt n 52 ≡ false
not_short n h = grind (arith, nat_tests)

pub is_not : (x k : ℕ) → x ≡ k → not (x == k) ≡ false
is_not x k h = grind (arith, nat_tests)

pub is_other : (x k : ℕ) → x ≢ k → not (x == k) ≡ true
is_other x k h = grind (arith, nat_tests)

module _ (file : List ℕ) (size : ℕ) where
  abbrev pub clears : LoadError → Type 0
  clears fault = shows file size fault ≡ false

  pub first_class : clears Short → clears Magic → shows file size Class ≡ true → first_fault file size ≡ Some Class
  first_class a b h = rw (a, b, h) refl

  pub first_type : clears Short → clears Magic → clears Class → shows file size FileType ≡ true → first_fault file size ≡ Some FileType
  first_type a b c h = rw (a, b, c, h) refl

  pub first_machine : clears Short → clears Magic → clears Class → clears FileType
      → shows file size Machine ≡ true → first_fault file size ≡ Some Machine
  first_machine a b c d h = rw (a, b, c, d, h) refl

  pub first_flags : clears Short → clears Magic → clears Class → clears FileType → clears Machine
      → shows file size Flags ≡ true → first_fault file size ≡ Some Flags
  first_flags a b c d e h = rw (a, b, c, d, e, h) refl

  pub first_table : clears Short → clears Magic → clears Class → clears FileType → clears Machine → clears Flags
      → shows file size HeaderTable ≡ true → first_fault file size ≡ Some HeaderTable
  first_table a b c d e f h = rw (a, b, c, d, e, f, h) refl

  pub past_header : clears Short → clears Magic → clears Class → clears FileType → clears Machine → clears Flags
      → clears HeaderTable → first_fault file size ≡ find (shows file size) segment_faults
  past_header a b c d e f g = rw (a, b, c, d, e, f, g) refl

-- what `find` gives passes the test
find_passes : {X : Type 0} (p : X → Bool) (xs : List X) (x : X) → find p xs ≡ Some x → p x ≡ true
find_passes p [] x h = absurd (cc)
find_passes {X} p (y ∷ ys) x h = go (p y) refl (find_passes p ys x) h
  where
    go : (b : Bool) → p y ≡ b → (find p ys ≡ Some x → p x ≡ true) → cond b (Some y) (find p ys) ≡ Some x → p x ≡ true
    go true e later h = let same : y ≡ x = cc in rw same at e
    go false e later h = later h

-- no file shows that memory was refused
pub no_memory_unshown : (file : List ℕ) (size : ℕ) (faults : List LoadError) → find (shows file size) faults ≡ Some NoMemory → ⊥
no_memory_unshown file size faults h = let shown = find_passes (shows file size) faults NoMemory h in absurd (search arith)

pub entry_aligned : (size entry : ℕ) → misplaced_entry size entry ≡ false → entry % 4 ≡ 0
entry_aligned size entry h = grind (arith, nat_tests)

pub entry_above : (size entry : ℕ) → misplaced_entry size entry ≡ false → base ≤ entry
entry_above size entry h = grind (arith, nat_tests)

pub entry_below : (size entry : ℕ) → misplaced_entry size entry ≡ false → entry + 4 ≤ base + size
entry_below size entry h = grind (arith, nat_tests)
