-- What a stronger test asks, a weaker one asks too; and what a legal order says of a load.
use Rattle.std.proofs.Common.{◌≡◌, ℕ, List, [], ◌∷◌, Bool, true, false, refl, cond, ap, ◌∙◌, not, ◌&&◌, ◌||◌}
use Rattle.std.specs.List.{AllByRecursion as Each, filter, list_any, list_all}
use Rattle.std.proofs.lemmas.Bool.{false≢true, true≢false, and_parts, and_from, or_left, eqb-true}
use Rattle.std.proofs.lemmas.List.Elements.{recursion_from_All}
use Rattle.std.specs.Prelude.{IsFalse, nat_eq}
use Rattle.hart.specs.TheVariants.{Rvwmo, Ztso}
use Rattle.memory_model.specs.declared.operation.Operation.{Operation}
use Rattle.memory_model.specs.Operations.{same, precedes, reads, addresses_of, read_at, stores_to, is_amo, writes}
use Rattle.memory_model.specs.Order.{in_order, none_must_precede, candidates, source, last_of, byte_from}
use Rattle.memory_model.specs.Items.{Item}
use Rattle.memory_model.specs.Rules.{Rule, rules, preserved, items_of}
use Rattle.memory_model.specs.Legal.{IsLegal, returns_sources}
use Rattle.memory_model.specs.Laws.{ZtsoIsStronger, ProgramOrderSuffices, UnwrittenByteIsImages}
use Rattle.memory_model.proofs.Lists.{Each-at, Each-from_list_all, list_any-weaker, filter_none, Member-from_Contains}

not_weaker : (a b : Bool) → (b ≡ true → a ≡ true) → not a ≡ true → not b ≡ true
not_weaker a false f e = refl
not_weaker true true f e = e
not_weaker false true f e = absurd (false≢true (f refl))

none-weaker : (m n : Operation → Operation → Bool) → ((a b : Operation) → n a b ≡ true → m a b ≡ true) → (a : Operation) (rest : List Operation) → none_must_precede m a rest ≡ true → none_must_precede n a rest ≡ true
none-weaker m n f a [] e = refl
none-weaker m n f a (b ∷ rest) e = let s = and_parts (not (m b a)) (none_must_precede m a rest) e in and_from _ _ (not_weaker (m b a) (n b a) (f b a) s.0) (none-weaker m n f a rest s.1)

-- what keeps the order that a test asks for keeps that of a test that asks less
pub in_order-weaker : (m n : Operation → Operation → Bool) → ((a b : Operation) → n a b ≡ true → m a b ≡ true) → (order : List Operation) → in_order m order ≡ true → in_order n order ≡ true
in_order-weaker m n f [] e = refl
in_order-weaker m n f (a ∷ rest) e = let s = and_parts (none_must_precede m a rest) (in_order m rest) e in and_from _ _ (none-weaker m n f a rest s.0) (in_order-weaker m n f rest s.1)

pub program_order_suffices : ProgramOrderSuffices
program_order_suffices model harts order e =
    in_order-weaker precedes (preserved model harts order) (λ a b h. (and_parts (precedes a b) (list_any (λ (r : Rule). r.asks model (items_of harts a.hart) order a b) rules) h).0) order e

asked_more : (harts : List (List Item)) (order : List Operation) (a b : Operation) → Each (λ (r : Rule). r.asks Rvwmo (items_of harts a.hart) order a b ≡ true → r.asks Ztso (items_of harts a.hart) order a b ≡ true) rules
asked_more harts order a b = (
  λ e. e,
  (
    λ e. e,
    (
      λ e. e,
      (
        λ e. e,
        (
          λ e. or_left a.aq (reads a.kind) e,
          (
            λ e. or_left b.rl (writes b.kind) e,
            (
              λ e. let s = and_parts (a.aq || a.rl) (b.aq || b.rl) e in and_from _ _ (or_left (a.aq || a.rl) (is_amo a.kind) s.0) (or_left (b.aq || b.rl) (is_amo b.kind) s.1),
              (
                λ e. e,
                (
                  λ e. e,
                  (
                    λ e. e,
                    (
                      λ e. e,
                      (
                        λ e. e,
                        (
                          λ e. e,
                          tt,
                        ),
                      ),
                    ),
                  ),
                ),
              ),
            ),
          ),
        ),
      ),
    ),
  ),
)

preserved_more : (harts : List (List Item)) (order : List Operation) (a b : Operation) → preserved Rvwmo harts order a b ≡ true → preserved Ztso harts order a b ≡ true
preserved_more harts order a b e =
    let s = and_parts (precedes a b) (list_any (λ (r : Rule). r.asks Rvwmo (items_of harts a.hart) order a b) rules) e in
    and_from _ _ s.0 (list_any-weaker (λ (r : Rule). r.asks Rvwmo (items_of harts a.hart) order a b) (λ (r : Rule). r.asks Ztso (items_of harts a.hart) order a b) rules (asked_more harts order a b) s.1)

legal_under_both : (image : ℕ → ℕ) (harts : List (List Item)) (order : List Operation) → IsLegal Ztso image harts order → IsLegal Rvwmo image harts order
legal_under_both image harts order h = record {
  preserved_order = in_order-weaker (preserved Ztso harts order) (preserved Rvwmo harts order) (preserved_more harts order) order h.preserved_order;
  load_values = h.load_values;
  atomicity = h.atomicity;
}

pub ztso_is_stronger : ZtsoIsStronger
ztso_is_stronger t order h = legal_under_both _ _ _ h

-- ---- a byte that nothing stores to

and_off : (a b : Bool) → a ≡ false → (a && b) ≡ false
and_off a b e = ap (λ v. v && b) e

no_candidates : (order : List Operation) (load : Operation) (x : ℕ) → Each (λ s. stores_to x s ≡ false) order → candidates order load x ≡ []
no_candidates [] load x h = refl
no_candidates (s ∷ rest) load x h = go (same s load) (stores_to x s) h.0 (no_candidates rest load x h.1) (filter_none (λ t. stores_to x t && precedes t load) rest (free rest h.1))
  where
    free : (rest : List Operation) → Each (λ s. stores_to x s ≡ false) rest → Each (λ t. (stores_to x t && precedes t load) ≡ false) rest
    free [] h = tt
    free (t ∷ rest) h = (and_off (stores_to x t) (precedes t load) h.0, free rest h.1)

    go : (b c : Bool) → c ≡ false → candidates rest load x ≡ [] → filter (λ t. stores_to x t && precedes t load) rest ≡ [] → cond b (filter (λ t. stores_to x t && precedes t load) rest) (cond c (s ∷ candidates rest load x) (candidates rest load x)) ≡ []
    go true c e v f = f
    go false true e v f = absurd (true≢false e)
    go false false e v f = v

read_right : (a b : Bool) → (not a || b) ≡ true → a ≡ true → b ≡ true
read_right true b e h = e
read_right false b e h = absurd (false≢true h)

pub unwritten_byte_is_images : UnwrittenByteIsImages
unwritten_byte_is_images model image harts order load x legal there reading byte none =
    let right : returns_sources image order load ≡ true = Each-at (λ a. returns_sources image order a ≡ true) load order (Each-from_list_all (returns_sources image order) order legal.load_values) (Member-from_Contains order load there) in
    let bytes = Each-from_list_all (λ y. nat_eq (read_at load y) (byte_from image y (source order load y))) (addresses_of load) (read_right (reads load.kind) (list_all (λ y. nat_eq (read_at load y) (byte_from image y (source order load y))) (addresses_of load)) right reading) in
    let here : nat_eq (read_at load x) (byte_from image x (source order load x)) ≡ true = Each-at (λ y. nat_eq (read_at load y) (byte_from image y (source order load y)) ≡ true) x (addresses_of load) bytes (Member-from_Contains (addresses_of load) x byte) in
    let empty : candidates order load x ≡ [] = no_candidates order load x (recursion_from_All (λ s. IsFalse (stores_to x s)) order none) in
    eqb-true _ _ here ∙ ap (λ v. byte_from image x (last_of v)) empty
