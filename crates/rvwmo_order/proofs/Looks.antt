-- The looks of a walk that finds the sources of an order's loads: of a byte no more than the order has stores to it.
use Rattle.std.proofs.Common.{◌≡◌, ℕ, zero, suc, ◌+◌, ◌-◌, ◌<◌, ◌≤◌, List, [], ◌∷◌, Bool, true, false, Some, None, cond, refl, sym, ap, ◌∙◌, ⊎_elim, arith, get_or, length, take}
use Rattle.std.specs.Prelude.{filter, nat_lt, slice_get, slice_index_or, sum_by}
use Rattle.std.proofs.lemmas.Bool.{cases_eq, eq-eqb, ne_eqb}
use Rattle.std.proofs.lemmas.List.Sums.{sum_by-take-le, sum_by_more}
use Rattle.std.proofs.lemmas.Option.{none-some, same_Some}
use Rattle.memory_model.specs.declared.operation.Operation.{Operation}
use Rattle.memory_model.specs.Operations.{stores_to}
use Rattle.rvwmo_order.specs.Looks.{looked, looks_at, most_looks, stores_at, stores_read}
use Rattle.rvwmo_order.specs.Sourcing.{GivesOwn, IsLast, Stands, all_come, is_known}

-- ---- stores of an order

count_head : (x : ℕ) (s : Operation) (rest : List Operation) → stores_to x s ≡ true → stores_at (s ∷ rest) x ≡ suc (stores_at rest x)
count_head x s rest e = ap (λ (b : Bool). length (cond b (s ∷ filter (stores_to x) rest) (filter (stores_to x) rest))) e

count_tail : (x : ℕ) (s : Operation) (rest : List Operation) → stores_at rest x ≤ stores_at (s ∷ rest) x
count_tail x s rest = go (stores_to x s) refl
  where
    go : (b : Bool) → stores_to x s ≡ b → stores_at rest x ≤ stores_at (s ∷ rest) x
    go true e = let c = count_head x s rest e in omega (arith, c)
    go false e = let c = ap (λ (b : Bool). length (cond b (s ∷ filter (stores_to x) rest) (filter (stores_to x) rest))) e in omega (arith, c)

one_store : (order : List Operation) (x j : ℕ) (s : Operation) → slice_get order j ≡ Some s → stores_to x s ≡ true → 1 ≤ stores_at order x
one_store [] x j s e f = absurd (none-some s e)
one_store (a ∷ rest) x zero s e f = let c = count_head x a rest (ap (stores_to x) (same_Some a s e) ∙ f) in omega (arith, c)
one_store (a ∷ rest) x (suc j) s e f = let more = one_store rest x j s e f in let t = count_tail x a rest in omega (arith, more, t)

two_stores : (order : List Operation) (x i j : ℕ) (s t : Operation) → slice_get order i ≡ Some s → stores_to x s ≡ true → slice_get order j ≡ Some t → stores_to x t ≡ true → (i ≡ j → ⊥) → 2 ≤ stores_at order x
two_stores [] x i j s t e f g h apart = absurd (none-some s e)
two_stores (a ∷ rest) x zero zero s t e f g h apart = absurd (apart refl)
two_stores (a ∷ rest) x zero (suc j) s t e f g h apart = let c = count_head x a rest (ap (stores_to x) (same_Some a s e) ∙ f) in let more = one_store rest x j t g h in omega (arith, c, more)
two_stores (a ∷ rest) x (suc i) zero s t e f g h apart = let c = count_head x a rest (ap (stores_to x) (same_Some a t g) ∙ h) in let more = one_store rest x i s e f in omega (arith, c, more)
two_stores (a ∷ rest) x (suc i) (suc j) s t e f g h apart = let more = two_stores rest x i j s t e f g h (λ k. apart (ap suc k)) in let t = count_tail x a rest in omega (arith, more, t)

-- ---- the looks of a byte

looked_zero : (r : ℕ) → r ≡ 0 → looked r ≡ 0
looked_zero r e = ap (λ (b : Bool). cond b 0 1) (eq-eqb r 0 e)

looked_one : (r : ℕ) → (r ≡ 0 → ⊥) → looked r ≡ 1
looked_one r e = ap (λ (b : Bool). cond b 0 1) (ne_eqb r 0 e)

-- no more than the order has stores to it
pub few_looks : (order : List Operation) (x b o : ℕ) (one two : ℕ → Operation → Bool) → IsLast order x one b → IsLast order x two o → looks_at b o ≤ stores_at order x
few_looks order x b o one two l m = ⊎_elim same apart (cases_eq o b)
  where
    of_one : looked b ≤ stores_at order x
    of_one = ⊎_elim (λ z. let n = looked_zero b z in omega (arith, n)) some (cases_eq b 0)
      where
        some : (b ≡ 0 → ⊥) → looked b ≤ stores_at order x
        some ne = let w = l.there (omega (arith, ne)) in let n = looked_one b ne in let c = one_store order x (b - 1) w.store w.there w.stores in omega (arith, n, c)

    of_two : looked o ≤ stores_at order x
    of_two = ⊎_elim (λ z. let n = looked_zero o z in omega (arith, n)) some (cases_eq o 0)
      where
        some : (o ≡ 0 → ⊥) → looked o ≤ stores_at order x
        some ne = let w = m.there (omega (arith, ne)) in let n = looked_one o ne in let c = one_store order x (o - 1) w.store w.there w.stores in omega (arith, n, c)

    same : o ≡ b → looks_at b o ≤ stores_at order x
    same e = let n = ap (λ (c : Bool). looked b + cond c 0 (looked o)) (eq-eqb o b e) in let c = of_one in omega (arith, n, c)

    apart : (o ≡ b → ⊥) → looks_at b o ≤ stores_at order x
    apart ne = ⊎_elim none_before some_before (cases_eq b 0)
      where
        all : looks_at b o ≡ looked b + looked o
        all = ap (λ (c : Bool). looked b + cond c 0 (looked o)) (ne_eqb o b ne)

        none_before : b ≡ 0 → looks_at b o ≤ stores_at order x
        none_before z = let n = looked_zero b z in let c = of_two in let a = all in omega (arith, n, c, a)

        some_before : (b ≡ 0 → ⊥) → looks_at b o ≤ stores_at order x
        some_before nb = ⊎_elim none_own both (cases_eq o 0)
          where
            none_own : o ≡ 0 → looks_at b o ≤ stores_at order x
            none_own z = let n = looked_zero o z in let c = of_one in let a = all in omega (arith, n, c, a)

            both : (o ≡ 0 → ⊥) → looks_at b o ≤ stores_at order x
            both lone =
                let w = l.there (omega (arith, nb)) in
                let v = m.there (omega (arith, lone)) in
                let c = two_stores order x (b - 1) (o - 1) w.store v.store w.there w.stores v.there v.stores (λ k. ne (omega (arith, k, nb, lone))) in
                let n = looked_one b nb in
                let k = looked_one o lone in
                let a = all in
                omega (arith, c, n, k, a)

-- of each byte of an operation that a walk along the order has come to
pub bytes_few : (order : List Operation) (all : List (List ℕ)) (p : ℕ) (a : Operation) (own : List ℕ) (latest : ℕ → ℕ) → a.size ≤ 4 → slice_get order p ≡ Some a → slice_get all p ≡ Some own → GivesOwn order all all_come → ((x : ℕ) → IsLast order x (λ j s. nat_lt j p) (latest x))
    → (i : ℕ) → i < a.size → looks_at (latest (a.address + i)) (slice_index_or own i 0) ≤ stores_at order (a.address + i)
bytes_few order all p a own latest small e f g l i within =
    few_looks order (a.address + i) (latest (a.address + i)) (slice_index_or own i 0) (λ j s. nat_lt j p) (is_known all_come a) (l (a.address + i)) (g.each p i a own e f (omega (arith, within, small)) within)

-- ---- the looks of a walk along the order

-- of one operation more
pub walked : (order : List Operation) (p : ℕ) (d : Operation) (start now next : ℕ) → p < length order → now ≤ start + sum_by (stores_read order) (take p order) → next ≤ now + stores_read order (get_or order p d) → next ≤ start + sum_by (stores_read order) (take (p + 1) order)
walked order p d start now next inside before this = let more = sum_by_more (stores_read order) order p d inside in omega (arith, before, this, more)

-- and no more than of all
pub walked_all : (order : List Operation) (p : ℕ) (d : Operation) (start now next : ℕ) → p < length order → now ≤ start + sum_by (stores_read order) (take p order) → next ≤ now + stores_read order (get_or order p d) → next ≤ start + most_looks order
walked_all order p d start now next inside before this = let far = walked order p d start now next inside before this in let all = sum_by-take-le (stores_read order) order (p + 1) in omega (arith, far, all)
