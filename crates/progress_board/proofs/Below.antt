-- How many of the numbers that seats drew are below a limit.
use Rattle.std.proofs.Common.{◌≡◌, ℕ, zero, suc, ◌+◌, ◌<◌, ◌≤◌, List, [], ◌∷◌, ◌++◌, refl, ap, arith, cond, eqb, ltb}
use Rattle.std.specs.List.{sum_by}
use Rattle.std.proofs.lemmas.Bool.Decides.{eqb_tells, leb_tells}
use Rattle.std.proofs.lemmas.List.Sums.{sum_by-cons, sum_by_push}
use Rattle.progress_board.specs.declared.view.View.{View}
use Rattle.progress_board.specs.Rule.{DrewBelow, below, once_below, times}
use Rattle.progress_board.proofs.Sums.{times-cons}

-- one number more
pub below-push : (n x : ℕ) (xs : List ℕ) → below n (xs ++ x ∷ []) ≡ below n xs + once_below n x
below-push n x xs = sum_by_push (λ y. cond (ltb y n) 1 0) xs x

pub below-more : (n x : ℕ) (xs : List ℕ) → x < n → below n (xs ++ x ∷ []) ≡ below n xs + 1
below-more n x xs lt = let push = below-push n x xs in grind (arith, leb_tells)

pub below-less : (n x : ℕ) (xs : List ℕ) → below n xs ≤ below n (xs ++ x ∷ [])
below-less n x xs = let push = below-push n x xs in omega (arith, push)

once_at_most : (n x : ℕ) → once_below n x ≤ 1
once_at_most n x = grind (arith, leb_tells)

one_further : (n x : ℕ) → once_below (n + 1) x ≡ once_below n x + cond (eqb x n) 1 0
one_further n x = grind (arith, eqb_tells, leb_tells)

below-cons : (n x : ℕ) (xs : List ℕ) → below n (x ∷ xs) ≡ once_below n x + below n xs
below-cons n x xs = sum_by-cons (λ y. cond (ltb y n) 1 0) x xs

none_below_0 : (xs : List ℕ) → below 0 xs ≡ 0
none_below_0 [] = refl
none_below_0 (x ∷ xs) = let none : once_below 0 x ≡ 0 = grind (arith, leb_tells) in omega (arith, below-cons 0 x xs, none, none_below_0 xs)

below-suc : (n : ℕ) (xs : List ℕ) → below (n + 1) xs ≡ below n xs + times n xs
below-suc n [] = refl
below-suc n (x ∷ xs) = omega (arith, below-cons (n + 1) x xs, below-cons n x xs, times-cons n x xs, one_further n x, below-suc n xs)

-- what all seats drew below a limit
abbrev pub all_below_limit : ℕ → List View → ℕ
all_below_limit limit views = sum_by (λ (v : View). below limit v.drawn) views

nothing_below_0 : (views : List View) → all_below_limit 0 views ≡ 0
nothing_below_0 [] = refl
nothing_below_0 (v ∷ views) = omega (arith, sum_by-cons (λ (u : View). below 0 u.drawn) v views, none_below_0 v.drawn, nothing_below_0 views)

all_below-suc : (n : ℕ) (views : List View) → all_below_limit (n + 1) views ≡ all_below_limit n views + sum_by (λ (v : View). times n v.drawn) views
all_below-suc n [] = refl
all_below-suc n (v ∷ views) =
    omega (arith, sum_by-cons (λ (u : View). below (n + 1) u.drawn) v views, sum_by-cons (λ (u : View). below n u.drawn) v views, sum_by-cons (λ (u : View). times n u.drawn) v views, below-suc n v.drawn, all_below-suc n views)

-- where each number was drawn once at most, at most so many of them are below a limit
pub few_below : (limit n : ℕ) (views : List View) → DrewBelow views n → all_below_limit limit views ≤ limit
few_below zero n views drew = omega (arith, nothing_below_0 views)
few_below (suc limit) n views drew =
    let next : limit + 1 ≡ suc limit = omega arith in
    omega (arith, ap (λ k. all_below_limit k views) next, all_below-suc limit views, drew limit, once_at_most n limit, few_below limit n views drew)
