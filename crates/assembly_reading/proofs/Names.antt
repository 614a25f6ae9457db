-- What a table of names has is in its range.
use Rattle.std.proofs.Common.{◌≡◌, ◌<◌, ◌≤◌, ℕ, Bool, true, false, cond, List, [], ◌∷◌, length, get_or, refl, sym, subst, arith}
use Rattle.std.proofs.lemmas.Bool.{ne_eqb}
use Rattle.std.specs.Prelude.{Option, Some, None, IfSome}
use Rattle.std.specs.List.{AllByRecursion}
use Rattle.std.specs.Str.{bytes_eq}
use Rattle.assembly_reading.specs.Tables.{found}
use Rattle.assembly_reading.specs.Registers.{names, named, register_of}
use Rattle.assembly_reading.specs.Sets.{letters, set_of}

-- what holds of each meaning holds of the one that is found
pub found_one : {T : Type 0} (P : T → Type 0) (table : List (List ℕ × T)) (word : List ℕ) → AllByRecursion (λ e. P e.1) table → IfSome (found table word) P
found_one P [] word all = tt
found_one {T} P (e ∷ es) word all = go (bytes_eq e.0 word) (found es word) all.0 (found_one P es word all.1)
  where
    go : (test : Bool) (rest : Option T) → P e.1 → IfSome rest P → IfSome (cond test (Some e.1) rest) P
    go true rest here there = here
    go false rest here there = there

pub named_below : (word : List ℕ) (result : Option ℕ) → result ≡ named word → IfSome result (λ n. n < 32)
unfolding named
named_below word result is = subst (λ (r : Option ℕ). IfSome r (λ n. n < 32)) (sym is) (found_one (λ n. n < 32) names word (grind arith))

pub set_below : (word : List ℕ) (result : Option ℕ) → result ≡ set_of word → IfSome result (λ n. n < 16)
unfolding set_of
set_below word result is = subst (λ (r : Option ℕ). IfSome r (λ n. n < 16)) (sym is) (found_one (λ n. n < 16) letters word (grind arith))

-- no name begins with a digit
pub digit_unnamed : (word : List ℕ) → 1 ≤ length word → 48 ≤ get_or word 0 0 → get_or word 0 0 ≤ 57 → None ≡ register_of word
unfolding register_of named
digit_unnamed [] some low high = absurd (omega arith)
digit_unnamed (b ∷ bytes) some low high =
    rw (ne_eqb b 120 (λ e. omega arith), ne_eqb 122 b (λ e. omega arith), ne_eqb 114 b (λ e. omega arith), ne_eqb 115 b (λ e. omega arith), ne_eqb 103 b (λ e. omega arith), ne_eqb 116 b (λ e. omega arith), ne_eqb 97 b (λ e. omega arith), ne_eqb 102 b (λ e. omega arith)) refl
