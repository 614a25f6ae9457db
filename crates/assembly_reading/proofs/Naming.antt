-- A register's name reads as that register, and a set's letters as that set.
use Rattle.std.proofs.Common.{◌≡◌, ℕ, ◌<◌, Bool, true, false, List, ◌++◌, refl, ap}
use Rattle.std.proofs.lemmas.Bool.{eqb-true}
use Rattle.std.specs.Prelude.{Option, Some, None, ◌==◌, if◌then◌else◌}
use Rattle.assembly.specs.Operands.{register}
use Rattle.assembly_reading.specs.Registers.{named, register_of}
use Rattle.assembly_reading.specs.Operands.{register_at}
use Rattle.assembly_reading.proofs.Splitting.{are_word, is_cut, starts, word_front, past_front, skip_front, all_below, below_passes, all_three}

abbrev pub is_number : ℕ → Option ℕ → Bool
is_number n (Some m) = m == n
is_number n None = false

-- a register's name is a word that reads as that register
reads : ℕ → Bool
reads r = if are_word (register r) then (if starts (register r) then is_number r (register_of (register r)) else false) else false

reads_all : all_below 32 reads ≡ true
unfolding register_of named reads
reads_all = refl

pub number_is : (n : ℕ) (found : Option ℕ) → is_number n found ≡ true → found ≡ Some n
number_is n (Some m) h = ap (λ (x : ℕ). Some x) (eqb-true m n h)
number_is n None h = absurd cc

pub names_read : (r : ℕ) → r < 32 → (are_word (register r) ≡ true) × ((starts (register r) ≡ true) × (register_of (register r) ≡ Some r))
unfolding reads
names_read r lt =
    let passes = below_passes reads 32 r reads_all lt in
    let parts = all_three (are_word (register r)) (starts (register r)) (is_number r (register_of (register r))) passes in
    (parts.0, (parts.1.0, number_is r (register_of (register r)) parts.1.1))

pub register_reads : (r : ℕ) (rest : List ℕ) → r < 32 → is_cut rest ≡ true → register_at (register r ++ rest) ≡ Some (r, rest)
unfolding register_at
register_reads r rest lt cut =
    let is = names_read r lt in
    rw (skip_front (register r) rest is.1.0, word_front (register r) rest is.0 cut, past_front (register r) rest is.0 cut, is.1.1) refl
