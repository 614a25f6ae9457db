use Rattle.std.proofs.Common.{◌≡◌, ◌<◌, ◌≤◌, ℕ, zero, suc, List, [], ◌∷◌, Bor, get_or, length, map, sym, ap, subst, arith}
use Rattle.std.proofs.lemmas.List.{get_or-map}
use Rattle.std.specs.List.{AllByRecursion}
use Rattle.assembly.specs.Operands.{register, registers}
use Rattle.assembly.proofs.operands.register.Goals as goal

-- a name of a table of names
name_at : (names : List (Bor (List ℕ))) (i : ℕ) (other : Bor (List ℕ)) → i < length names → (get_or names i other).now ≡ get_or (map (λ (x : Bor (List ℕ)). x.now) names) i []
name_at names i other lt = sym (get_or-map (λ (x : Bor (List ℕ)). x.now) names i other [] lt)

pub returns-clause-value : goal.returns-clause-value
returns-clause-value c = let lt : c.number.result < 32 = c.number.ensures.in_range in rw name_at (ap register c.number.ensures.value)

short : (names : List (List ℕ)) → AllByRecursion (λ name. length name ≤ 4) names → (n : ℕ) → length (get_or names n []) ≤ 4
short [] all n = omega arith
short (name ∷ names) all zero = all.0
short (name ∷ names) all (suc n) = short names all.1 n

all_short : AllByRecursion (λ name. length name ≤ 4) registers
all_short = grind arith

pub returns-clause-len : goal.returns-clause-len
returns-clause-len c = subst (λ (name : List ℕ). length name ≤ 4) (sym (returns-clause-value c)) (short registers all_short c.args.register)
