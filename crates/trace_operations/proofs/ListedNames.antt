-- The names of a trace's operations are of instructions that it has.
use Rattle.std.proofs.Common.{◌≡◌, ℕ, suc, ◌+◌, List, [], ◌∷◌, ◌++◌, Bool, true, false, refl, cond, ap, ◌∙◌, ◌&&◌, arith, length}
use Rattle.std.specs.Prelude.{nat_eq, nat_lt, slice_index_or}
use Rattle.std.specs.List.{list_all}
use Rattle.std.proofs.lemmas.Bool.{and_parts, eqb-true, lt-ltb}
use Rattle.hart.specs.declared.retired.Retired.{Retired}
use Rattle.memory_model.specs.Items.{has_operation}
use Rattle.memory_model.specs.Traces.{is_named, names_from, names_in, names_of_harts}
use Rattle.trace_recorder.specs.History.{History, entries_of}
use Rattle.trace_recorder.specs.declared.operation.OpId.{OpId}
use Rattle.trace_operations.specs.Indexed.{is_listed}

pub listed_alike : (t : History) (m n : OpId) → is_named m n ≡ true → is_listed t m ≡ is_listed t n
listed_alike t m n e =
    let p = and_parts (nat_eq m.hart n.hart) (nat_eq m.place n.place) e in
    ap (λ (h : ℕ). nat_lt m.place (length (entries_of t h))) (eqb-true m.hart n.hart p.0) ∙ ap (λ (k : ℕ). nat_lt k (length (entries_of t n.hart))) (eqb-true m.place n.place p.1)

all_joined : {X : Type 0} (p : X → Bool) (xs ys : List X) → list_all p xs ≡ true → list_all p ys ≡ true → list_all p (xs ++ ys) ≡ true
all_joined p [] ys e f = f
all_joined p (x ∷ xs) ys e f =
    let both = and_parts (p x) (list_all p xs) e in
    ap (λ (b : Bool). b && list_all p (xs ++ ys)) both.0 ∙ all_joined p xs ys both.1 f

from_listed : (t : History) (hart place : ℕ) (entries : List Retired) → place + length entries ≡ length (entries_of t hart) → list_all (is_listed t) (names_from hart place entries) ≡ true
from_listed t hart place [] e = refl
from_listed t hart place (entry ∷ rest) e = go (has_operation entry) (from_listed t hart (place + 1) rest (omega (arith, e)))
  where
    go : (b : Bool) → list_all (is_listed t) (names_from hart (place + 1) rest) ≡ true → list_all (is_listed t) (cond b (record { hart = hart; place = place } ∷ names_from hart (place + 1) rest) (names_from hart (place + 1) rest)) ≡ true
    go true ih = ap (λ (b : Bool). b && list_all (is_listed t) (names_from hart (place + 1) rest)) (lt-ltb place (length (entries_of t hart)) (omega (arith, e))) ∙ ih
    go false ih = ih

harts_listed : (t : History) (id : ℕ) (lists : List (List Retired)) → ((k : ℕ) → slice_index_or lists k [] ≡ entries_of t (id + k)) → list_all (is_listed t) (names_of_harts id lists) ≡ true
harts_listed t id [] all = refl
harts_listed t id (entries ∷ rest) all =
    let at : id + 0 ≡ id = omega arith in
    all_joined (is_listed t) (names_from id 0 entries) (names_of_harts (id + 1) rest) (from_listed t id 0 entries (let long = ap length (all 0 ∙ ap (entries_of t) at) in omega (arith, long))) (harts_listed t (id + 1) rest (λ k. let next : id + suc k ≡ id + 1 + k = omega arith in all (suc k) ∙ ap (entries_of t) next))

pub names_listed : (t : History) → list_all (is_listed t) (names_in t) ≡ true
names_listed t = harts_listed t 0 t.entries (λ k. let at : k ≡ 0 + k = omega arith in ap (entries_of t) at)
