-- What the scans find is what a legal order hasn't.
use Rattle.std.proofs.Common.{◌≡◌, ℕ, List, [], ◌∷◌, Bool, true, false, Option, Some, None, refl, cond, sym, ap, ◌∙◌, subst, not, ◌&&◌, ◌||◌, inl, inr, arith, find}
use Rattle.std.specs.List.{list_any, list_all}
use Rattle.std.proofs.lemmas.Bool.{and_from, and_parts, and_right, false≢true, le-ltb, ltb-false}
use Rattle.std.proofs.lemmas.Option.{same_Some}
use Rattle.machine_types.specs.declared.model.MemoryModel.{MemoryModel}
use Rattle.memory_model.specs.declared.operation.Operation.{Operation}
use Rattle.memory_model.specs.Items.{Item}
use Rattle.memory_model.specs.Legal.{IsLegal, is_atomic, returns_sources}
use Rattle.memory_model.specs.Operations.{precedes, same}
use Rattle.memory_model.proofs.Named.{EachOnce}
use Rattle.memory_model.specs.Order.{before, in_order, none_must_precede, position_in}
use Rattle.memory_model.specs.Rules.{asked_by, items_of, paired}
use Rattle.memory_model.proofs.Forms.{place_head, place_tail, same-self, same-swap}
use Rattle.memory_model.proofs.Legality.{in_order-weaker}
use Rattle.memory_model.proofs.Lists.{Each-at, Member}
use Rattle.rvwmo_order.specs.Rules.{rule_of}
use Rattle.rvwmo_order.specs.Scans.{all_rules, first_broken_pair, first_broken_rule, first_out_of_order, found_or, is_broken_pair, judged, ruled_or, verdict_by, wrong_load}
use Rattle.rvwmo_order.specs.declared.rule.Rule.{Rule}
use Rattle.rvwmo_order.specs.declared.verdict.Verdict.TheVariants.{Legal}

-- ---- searching

some_is_not : {X : Type 0} (a : X) → Some a ≡ None → ⊥
some_is_not a e = cc

abbrev pub pair : Operation → Operation → Operation × Operation
pair a b = (a, b)

pub all-from_none : {X : Type 0} (p q : X → Bool) → ((x : X) → q x ≡ not (p x)) → (xs : List X) → find p xs ≡ None → list_all q xs ≡ true
all-from_none p q f [] e = refl
all-from_none p q f (x ∷ xs) e = go (p x) (f x) (all-from_none p q f xs) e
  where
    go : (b : Bool) → q x ≡ not b → (find p xs ≡ None → list_all q xs ≡ true) → cond b (Some x) (find p xs) ≡ None → (q x && list_all q xs) ≡ true
    go true g ih e = absurd (some_is_not x e)
    go false g ih e = and_from _ _ g (ih e)

pub none-from_all : {X : Type 0} (p q : X → Bool) → ((x : X) → q x ≡ not (p x)) → (xs : List X) → list_all q xs ≡ true → find p xs ≡ None
none-from_all p q f [] e = refl
none-from_all p q f (x ∷ xs) e = let s = and_parts (q x) (list_all q xs) e in go (p x) (sym (f x) ∙ s.0) (none-from_all p q f xs s.1)
  where
    go : (b : Bool) → not b ≡ true → find p xs ≡ None → cond b (Some x) (find p xs) ≡ None
    go true g ih = absurd (false≢true g)
    go false g ih = ih

pub found : {X : Type 0} (p : X → Bool) (xs : List X) (y : X) → find p xs ≡ Some y → (p y ≡ true) × Member y xs
found p [] y e = absurd (some_is_not y (sym e))
found p (x ∷ xs) y e = go (p x) refl (found p xs y) e
  where
    go : (b : Bool) → p x ≡ b → (find p xs ≡ Some y → (p y ≡ true) × Member y xs) → cond b (Some x) (find p xs) ≡ Some y → (p y ≡ true) × Member y (x ∷ xs)
    go true g ih e = let s : y ≡ x = cc in (ap p s ∙ g, inl s)
    go false g ih e = let r = ih e in (r.0, inr r.1)

-- ---- out of order

pub ordered-from_none : (must : Operation → Operation → Bool) (xs : List Operation) → first_out_of_order must xs ≡ None → in_order must xs ≡ true
ordered-from_none must [] e = refl
ordered-from_none must (b ∷ xs) e = go (find (λ a. must a b) xs) refl e (ordered-from_none must xs)
  where
    go : (o : Option Operation) → find (λ a. must a b) xs ≡ o → found_or o b (first_out_of_order must xs) ≡ None → (first_out_of_order must xs ≡ None → in_order must xs ≡ true) → in_order must (b ∷ xs) ≡ true
    go None f e ih = and_from _ _ (all-from_none (λ a. must a b) (λ a. not (must a b)) (λ a. refl) xs f) (ih e)
    go (Some a) f e ih = absurd (some_is_not _ e)

pub none-from_ordered : (must : Operation → Operation → Bool) (xs : List Operation) → in_order must xs ≡ true → first_out_of_order must xs ≡ None
none-from_ordered must [] e = refl
none-from_ordered must (b ∷ xs) e =
    let s = and_parts (none_must_precede must b xs) (in_order must xs) e in
    ap (λ (o : Option Operation). found_or o b (first_out_of_order must xs)) (none-from_all (λ a. must a b) (λ a. not (must a b)) (λ a. refl) xs s.0) ∙ none-from_ordered must xs s.1

-- two operations of which the one behind must come first
pub record OutOfOrder (must : Operation → Operation → Bool) (xs : List Operation) (a b : Operation) : Type 0 where
  pub has_a : Member a xs
  pub has_b : Member b xs
  pub asked : must a b ≡ true
  pub behind : before xs a b ≡ false

pub out_of_order : (must : Operation → Operation → Bool) (xs : List Operation) (a b : Operation) → EachOnce xs → first_out_of_order must xs ≡ Some (a, b) → OutOfOrder must xs a b
out_of_order must [] a b d e = absurd (some_is_not (a, b) (sym e))
out_of_order must (x ∷ xs) a b d e = go (find (λ c. must c x) xs) refl e (out_of_order must xs a b d.1)
  where
    go : (o : Option Operation) → find (λ c. must c x) xs ≡ o → found_or o x (first_out_of_order must xs) ≡ Some (a, b) → (first_out_of_order must xs ≡ Some (a, b) → OutOfOrder must xs a b) → OutOfOrder must (x ∷ xs) a b
    go (Some c) f e ih =
        let pairs = same_Some (pair c x) (pair a b) e in
        let ea : c ≡ a = ap (λ (v : Operation × Operation). v.0) pairs in
        let eb : x ≡ b = ap (λ (v : Operation × Operation). v.1) pairs in
        let s = found (λ c. must c x) xs c f in
        let zero : position_in (x ∷ xs) b ≡ 0 = place_head b x xs (subst (λ (y : Operation). same b y ≡ true) (sym eb) (same-self b)) in
        record { has_a = inr (subst (λ (y : Operation). Member y xs) ea s.1); has_b = inl (sym eb); asked = subst (λ (y : Operation). must y b ≡ true) ea (subst (λ (y : Operation). must c y ≡ true) eb s.0); behind = le-ltb _ _ (rw zero (omega arith)) }
    go None f e ih =
        let r = ih e in
        let fa : same a x ≡ false = same-swap x a (Each-at (λ c. same x c ≡ false) a xs d.0 r.has_a) in
        let fb : same b x ≡ false = same-swap x b (Each-at (λ c. same x c ≡ false) b xs d.0 r.has_b) in
        let l = ltb-false (position_in xs a) (position_in xs b) r.behind in
        record { has_a = inr r.has_a; has_b = inr r.has_b; asked = r.asked; behind = le-ltb _ _ (rw (place_tail a x xs fa, place_tail b x xs fb) (omega arith)) }

-- ---- the rules together

-- one of these rules asks that a comes before b
abbrev pub any_asks : MemoryModel → List (List Item) → List Operation → List Rule → Operation → Operation → Bool
any_asks model harts order rs a b = precedes a b && list_any (λ (r : Rule). (rule_of r).asks model (items_of harts a.hart) order a b) rs

none_precedes : (must : Operation → Operation → Bool) → ((a b : Operation) → must a b ≡ false) → (a : Operation) (xs : List Operation) → none_must_precede must a xs ≡ true
none_precedes must f a [] = refl
none_precedes must f a (b ∷ xs) = and_from _ _ (ap (λ (c : Bool). not c) (f b a)) (none_precedes must f a xs)

in_order-free : (must : Operation → Operation → Bool) → ((a b : Operation) → must a b ≡ false) → (xs : List Operation) → in_order must xs ≡ true
in_order-free must f [] = refl
in_order-free must f (a ∷ xs) = and_from _ _ (none_precedes must f a xs) (in_order-free must f xs)

neither : (k m n : Bool) → (k ≡ true → (m || n) ≡ true) → not m ≡ true → not n ≡ true → not k ≡ true
neither false m n f e g = refl
neither true true n f e g = absurd (false≢true e)
neither true false true f e g = absurd (false≢true g)
neither true false false f e g = absurd (false≢true (f refl))

none_by_both : (k m n : Operation → Operation → Bool) → ((a b : Operation) → k a b ≡ true → (m a b || n a b) ≡ true) → (a : Operation) (xs : List Operation) → none_must_precede m a xs ≡ true → none_must_precede n a xs ≡ true → none_must_precede k a xs ≡ true
none_by_both k m n f a [] e g = refl
none_by_both k m n f a (b ∷ xs) e g =
    let s = and_parts (not (m b a)) (none_must_precede m a xs) e in
    let t = and_parts (not (n b a)) (none_must_precede n a xs) g in
    and_from _ _ (neither (k b a) (m b a) (n b a) (f b a) s.0 t.0) (none_by_both k m n f a xs s.1 t.1)

in_order-both : (k m n : Operation → Operation → Bool) → ((a b : Operation) → k a b ≡ true → (m a b || n a b) ≡ true) → (xs : List Operation) → in_order m xs ≡ true → in_order n xs ≡ true → in_order k xs ≡ true
in_order-both k m n f [] e g = refl
in_order-both k m n f (a ∷ xs) e g =
    let s = and_parts (none_must_precede m a xs) (in_order m xs) e in
    let t = and_parts (none_must_precede n a xs) (in_order n xs) g in
    and_from _ _ (none_by_both k m n f a xs s.0 t.0) (in_order-both k m n f xs s.1 t.1)

shared : (p q r : Bool) → (p && (q || r)) ≡ true → ((p && q) || (p && r)) ≡ true
shared true q r e = e
shared false q r e = absurd (false≢true e)

left_of : (p q r : Bool) → (p && q) ≡ true → (p && (q || r)) ≡ true
left_of true true r e = refl
left_of true false r e = absurd (false≢true e)
left_of false q r e = absurd (false≢true e)

right_of : (p q r : Bool) → (p && r) ≡ true → (p && (q || r)) ≡ true
right_of true true r e = refl
right_of true false r e = e
right_of false q r e = absurd (false≢true e)

module _ (model : MemoryModel) (harts : List (List Item)) (order : List Operation) where
  pub rules_kept : (rs : List Rule) → first_broken_rule model harts order rs ≡ None → in_order (any_asks model harts order rs) order ≡ true
  rules_kept [] e = in_order-free (any_asks model harts order []) (λ a b. and_right (precedes a b) false refl) order
  rules_kept (r ∷ rs) e = go (first_out_of_order (asked_by model harts order (rule_of r)) order) refl e (rules_kept rs)
    where
      go : (o : Option (Operation × Operation)) → first_out_of_order (asked_by model harts order (rule_of r)) order ≡ o → ruled_or r o (first_broken_rule model harts order rs) ≡ None
          → (first_broken_rule model harts order rs ≡ None → in_order (any_asks model harts order rs) order ≡ true) → in_order (any_asks model harts order (r ∷ rs)) order ≡ true
      go None f e ih =
          in_order-both (any_asks model harts order (r ∷ rs)) (asked_by model harts order (rule_of r)) (any_asks model harts order rs)
          (λ a b g. shared (precedes a b) ((rule_of r).asks model (items_of harts a.hart) order a b) (list_any (λ (q : Rule). (rule_of q).asks model (items_of harts a.hart) order a b) rs) g)
          order (ordered-from_none (asked_by model harts order (rule_of r)) order f) (ih e)
      go (Some p) f e ih = absurd (some_is_not _ e)

  pub no_rule_broken : (rs : List Rule) → in_order (any_asks model harts order rs) order ≡ true → first_broken_rule model harts order rs ≡ None
  no_rule_broken [] e = refl
  no_rule_broken (r ∷ rs) e =
      let one : in_order (asked_by model harts order (rule_of r)) order ≡ true =
      in_order-weaker (any_asks model harts order (r ∷ rs)) (asked_by model harts order (rule_of r)) (λ a b g. left_of (precedes a b) ((rule_of r).asks model (items_of harts a.hart) order a b) (list_any (λ (q : Rule). (rule_of q).asks model (items_of harts a.hart) order a b) rs) g) order e in
      let others : in_order (any_asks model harts order rs) order ≡ true =
      in_order-weaker (any_asks model harts order (r ∷ rs)) (any_asks model harts order rs) (λ a b g. right_of (precedes a b) ((rule_of r).asks model (items_of harts a.hart) order a b) (list_any (λ (q : Rule). (rule_of q).asks model (items_of harts a.hart) order a b) rs) g) order e in
      ap (λ (o : Option (Operation × Operation)). ruled_or r o (first_broken_rule model harts order rs)) (none-from_ordered (asked_by model harts order (rule_of r)) order one) ∙ no_rule_broken rs others

-- ---- the axioms

not_not : (a : Bool) → a ≡ not (not a)
not_not true = refl
not_not false = refl

implied : (a b : Bool) → (not a || b) ≡ not (a && not b)
implied true true = refl
implied true false = refl
implied false b = refl

module _ (harts : List (List Item)) (order : List Operation) where
  pub pairs_kept : (ws : List Operation) → first_broken_pair harts order ws ≡ None → list_all (λ w. list_all (λ r. not (paired (items_of harts r.hart) r w) || is_atomic order r w) order) ws ≡ true
  pairs_kept [] e = refl
  pairs_kept (w ∷ ws) e = go (find (λ r. is_broken_pair harts order r w) order) refl e (pairs_kept ws)
    where
      go : (o : Option Operation) → find (λ r. is_broken_pair harts order r w) order ≡ o → found_or o w (first_broken_pair harts order ws) ≡ None
          → (first_broken_pair harts order ws ≡ None → list_all (λ w. list_all (λ r. not (paired (items_of harts r.hart) r w) || is_atomic order r w) order) ws ≡ true)
          → list_all (λ w. list_all (λ r. not (paired (items_of harts r.hart) r w) || is_atomic order r w) order) (w ∷ ws) ≡ true
      go None f e ih = and_from _ _ (all-from_none (λ r. is_broken_pair harts order r w) (λ r. not (paired (items_of harts r.hart) r w) || is_atomic order r w) (λ r. implied (paired (items_of harts r.hart) r w) (is_atomic order r w)) order f) (ih e)
      go (Some r) f e ih = absurd (some_is_not _ e)

  pub no_pair_broken : (ws : List Operation) → list_all (λ w. list_all (λ r. not (paired (items_of harts r.hart) r w) || is_atomic order r w) order) ws ≡ true → first_broken_pair harts order ws ≡ None
  no_pair_broken [] e = refl
  no_pair_broken (w ∷ ws) e =
      let s = and_parts (list_all (λ r. not (paired (items_of harts r.hart) r w) || is_atomic order r w) order) (list_all (λ w. list_all (λ r. not (paired (items_of harts r.hart) r w) || is_atomic order r w) order) ws) e in
      ap (λ (o : Option Operation). found_or o w (first_broken_pair harts order ws)) (none-from_all (λ r. is_broken_pair harts order r w) (λ r. not (paired (items_of harts r.hart) r w) || is_atomic order r w) (λ r. implied (paired (items_of harts r.hart) r w) (is_atomic order r w)) order s.0) ∙ no_pair_broken ws s.1

-- ---- legal exactly where the order is legal

pub record Nothing (f : Option (Rule × Operation × Operation)) (v : Option Operation) (p : Option (Operation × Operation)) : Type 0 where
  pub no_rule : f ≡ None
  pub no_load : v ≡ None
  pub no_pair : p ≡ None

nothing-from_legal : (f : Option (Rule × Operation × Operation)) (v : Option Operation) (p : Option (Operation × Operation)) → verdict_by f v p ≡ Legal → Nothing f v p
nothing-from_legal None None None e = record { no_rule = refl; no_load = refl; no_pair = refl }
nothing-from_legal None None (Some p) e = cc
nothing-from_legal None (Some a) p e = cc
nothing-from_legal (Some f) v p e = cc

pub legal-from_nothing : (f : Option (Rule × Operation × Operation)) (v : Option Operation) (p : Option (Operation × Operation)) → f ≡ None → v ≡ None → p ≡ None → verdict_by f v p ≡ Legal
legal-from_nothing f v p a b c = rw (a, b, c) refl

pub legal-from_judged : (model : MemoryModel) (image : ℕ → ℕ) (harts : List (List Item)) (order : List Operation) → judged model image harts order ≡ Legal → IsLegal model image harts order
legal-from_judged model image harts order e =
    let n = nothing-from_legal (first_broken_rule model harts order all_rules) (wrong_load image order) (first_broken_pair harts order order) e in
    record {
      preserved_order = rules_kept model harts order all_rules n.no_rule;
      load_values = all-from_none (λ a. not (returns_sources image order a)) (returns_sources image order) (λ a. not_not (returns_sources image order a)) order n.no_load;
      atomicity = pairs_kept harts order order n.no_pair;
    }

pub judged-from_legal : (model : MemoryModel) (image : ℕ → ℕ) (harts : List (List Item)) (order : List Operation) → IsLegal model image harts order → judged model image harts order ≡ Legal
judged-from_legal model image harts order l =
    legal-from_nothing (first_broken_rule model harts order all_rules) (wrong_load image order) (first_broken_pair harts order order)
    (no_rule_broken model harts order all_rules l.preserved_order)
    (none-from_all (λ a. not (returns_sources image order a)) (returns_sources image order) (λ a. not_not (returns_sources image order a)) order l.load_values)
    (no_pair_broken harts order order l.atomicity)
