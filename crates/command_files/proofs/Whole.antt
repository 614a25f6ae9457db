-- A reading that takes one byte more than wanted at most, and came to less, took all.
use Rattle.std.proofs.Common.{◌≡◌, ◌∙◌, ℕ, ◌-◌, ◌<◌, List, ◌++◌, IfSome, None, Option, Some, ap, arith, length, subst, sym, take}
use Rattle.std.proofs.lemmas.List.{length-append, length-take, take_all}
use Rattle.std.specs.Prelude.{option_map}
use Rattle.std.specs.Io.KnownBytes.{Consumes}

pub all_taken : (room : ℕ) (first rest : List ℕ) → length (first ++ take (room - length first) rest) < room → take (room - length first) rest ≡ rest
all_taken room first rest below =
    take_all (room - length first) rest (omega (arith, length-append first (take (room - length first) rest), length-take (room - length first) rest))

-- of a file of which the first bytes were taken before
pub all_read : (held left : Option (List ℕ)) (room : ℕ) (first bytes : List ℕ) → Consumes held left first
    → IfSome (option_map (take (room - length first)) left) (λ xs. bytes ≡ first ++ xs) → length bytes < room → IfSome held (λ known. known ≡ bytes)
all_read None left room first bytes consumed read below = tt
all_read (Some known) None room first bytes consumed read below = absurd consumed
all_read (Some known) (Some rest) room first bytes consumed read below =
    consumed ∙ sym (read ∙ ap (λ part. first ++ part) (all_taken room first rest (subst (λ (all : List ℕ). length all < room) read below)))

-- by a reader of so many bytes at most over the one that is left
pub all_read_by : {R : Type 0} (remaining : R → Option (List ℕ)) (reader inner : R) (held : Option (List ℕ)) (room limit : ℕ) (first bytes : List ℕ) → inner ≡ reader → limit ≡ room - length first → Consumes held (remaining reader) first
    → IfSome (option_map (take limit) (remaining inner)) (λ xs. bytes ≡ first ++ xs) → length bytes < room → IfSome held (λ known. known ≡ bytes)
all_read_by {R} remaining reader inner held room limit first bytes same most consumed read below =
    all_read held (remaining reader) room first bytes consumed
    (subst (λ (r : R). IfSome (option_map (take (room - length first)) (remaining r)) (λ xs. bytes ≡ first ++ xs)) same
    (subst (λ (n : ℕ). IfSome (option_map (take n) (remaining inner)) (λ xs. bytes ≡ first ++ xs)) most read))
    below
