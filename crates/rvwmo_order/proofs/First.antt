-- The fault that the scans find is the first one of the least code.
use Rattle.std.proofs.Common.{◌≡◌, ℕ, ◌+◌, List, [], ◌∷◌, ◌++◌, Bool, true, false, Option, Some, None, refl, cond, sym, ap, ◌∙◌, not, ◌&&◌, arith, find, map}
use Rattle.std.specs.Prelude.{nat_eq, nat_lt}
use Rattle.std.specs.List.{AllByRecursion as Each, flat_map}
use Rattle.std.specs.Option.{option_map, option_or}
use Rattle.std.proofs.lemmas.Bool.{le-ltb, lt-ltb, and_left}
use Rattle.std.proofs.lemmas.Bool.Decides.{nat_tests}
use Rattle.std.proofs.lemmas.List.Folds.{find-append}
use Rattle.machine_types.specs.declared.model.MemoryModel.{MemoryModel}
use Rattle.memory_model.specs.declared.operation.Operation.{Operation}
use Rattle.memory_model.specs.Items.{Item}
use Rattle.memory_model.specs.Legal.{returns_sources}
use Rattle.memory_model.specs.Operations.{same}
use Rattle.memory_model.specs.Order.{before, position_in}
use Rattle.memory_model.specs.Rules.{asked_by, items_of}
use Rattle.memory_model.specs.Verdict.{Code, Fault, code_of_atomicity, code_of_rule, code_of_values, codes, fault_of, fault_or, first_broken, first_fault}
use Rattle.memory_model.proofs.Forms.{place_head, place_tail, same-self, same-swap}
use Rattle.memory_model.proofs.Lists.{Each-weaker}
use Rattle.memory_model.proofs.Named.{EachOnce}
use Rattle.rvwmo_order.specs.Answers.{fault_told}
use Rattle.rvwmo_order.specs.Rules.{rule_of}
use Rattle.rvwmo_order.specs.Scans.{all_rules, first_broken_pair, first_broken_rule, first_out_of_order, found_or, is_broken_pair, judged, ruled_or, verdict_by, wrong_load}
use Rattle.rvwmo_order.specs.declared.rule.Rule.{Rule}
use Rattle.rvwmo_order.proofs.Judged.{pair}

-- ---- the first pair of two lists that a test finds, by the second list and then the first

abbrev pub first_pair : (Operation → Operation → Bool) → List Operation → List Operation → Option (Operation × Operation)
first_pair p zs [] = None
first_pair p zs (b ∷ bs) = found_or (find (λ a. p a b) zs) b (first_pair p zs bs)

-- a pair zs the test takes it
abbrev pub on_pair : (Operation → Operation → Bool) → Operation × Operation → Bool
on_pair p v = p v.0 v.1

found_mapped : (p : Operation → Operation → Bool) (zs : List Operation) (b : Operation) → find (on_pair p) (map (λ a. pair a b) zs) ≡ option_map (λ a. pair a b) (find (λ a. p a b) zs)
found_mapped p [] b = refl
found_mapped p (a ∷ zs) b = go (p a b) (found_mapped p zs b)
  where
    go : (c : Bool) → find (on_pair p) (map (λ a. pair a b) zs) ≡ option_map (λ a. pair a b) (find (λ a. p a b) zs)
        → cond c (Some (pair a b)) (find (on_pair p) (map (λ a. pair a b) zs)) ≡ option_map (λ a. pair a b) (cond c (Some a) (find (λ a. p a b) zs))
    go true ih = refl
    go false ih = ih

joined : (o : Option Operation) (b : Operation) (rest : Option (Operation × Operation)) → option_or (option_map (λ a. pair a b) o) rest ≡ found_or o b rest
joined None b rest = refl
joined (Some a) b rest = refl

pub pairs_found : (p : Operation → Operation → Bool) (zs bs : List Operation) → find (on_pair p) (flat_map (λ b. map (λ a. pair a b) zs) bs) ≡ first_pair p zs bs
pairs_found p zs [] = refl
pairs_found p zs (b ∷ bs) =
    find-append (on_pair p) (map (λ a. pair a b) zs) (flat_map (λ b. map (λ a. pair a b) zs) bs)
    ∙ (ap (λ (o : Option (Operation × Operation)). option_or o (find (on_pair p) (flat_map (λ b. map (λ a. pair a b) zs) bs))) (found_mapped p zs b)
    ∙ (joined (find (λ a. p a b) zs) b (find (on_pair p) (flat_map (λ b. map (λ a. pair a b) zs) bs))
    ∙ ap (λ (o : Option (Operation × Operation)). found_or (find (λ a. p a b) zs) b o) (pairs_found p zs bs)))

found_same : (p q : Operation → Bool) (xs : List Operation) → Each (λ a. p a ≡ q a) xs → find p xs ≡ find q xs
found_same p q [] h = refl
found_same p q (x ∷ xs) h = rw (h.0, found_same p q xs h.1) refl

found_none : (p : Operation → Bool) (xs : List Operation) → Each (λ a. p a ≡ false) xs → find p xs ≡ None
found_none p [] h = refl
found_none p (x ∷ xs) h = rw h.0 (found_none p xs h.1)

found_behind : (p : Operation → Bool) (x : Operation) (xs : List Operation) → p x ≡ false → find p (x ∷ xs) ≡ find p xs
found_behind p x xs e = rw e refl

-- where the first of the list is in no pair, and another test is zs good behind it
first_pair_behind : (p q : Operation → Operation → Bool) (x : Operation) (xs bs : List Operation) → Each (λ b. (p x b ≡ false) × Each (λ a. p a b ≡ q a b) xs) bs → first_pair p (x ∷ xs) bs ≡ first_pair q xs bs
first_pair_behind p q x xs [] h = refl
first_pair_behind p q x xs (b ∷ bs) h =
    ap (λ (o : Option Operation). found_or o b (first_pair p (x ∷ xs) bs)) (found_behind (λ a. p a b) x xs h.0.0 ∙ found_same (λ a. p a b) (λ a. q a b) xs h.0.1)
    ∙ ap (λ (o : Option (Operation × Operation)). found_or (find (λ a. q a b) xs) b o) (first_pair_behind p q x xs bs h.1)

-- ---- rules

abbrev pub is_inverted : (Operation → Operation → Bool) → List Operation → Operation → Operation → Bool
is_inverted must order a b = must a b && not (before order a b)

with_true : (a b : Bool) → b ≡ true → (a && not b) ≡ false
with_true true b e = rw e refl
with_true false b e = refl

with_false : (a b : Bool) → b ≡ false → (a && not b) ≡ a
with_false true b e = rw e refl
with_false false b e = refl

before_first : (x a : Operation) (xs : List Operation) → same x a ≡ false → before (x ∷ xs) x a ≡ true
before_first x a xs e = lt-ltb _ _ (rw (place_head x x xs (same-self x), place_tail a x xs (same-swap x a e)) (omega arith))

not_before_first : (x a : Operation) (xs : List Operation) → same x a ≡ false → before (x ∷ xs) a x ≡ false
not_before_first x a xs e = le-ltb _ _ (rw (place_head x x xs (same-self x)) (omega arith))

less_behind : (m n : ℕ) → nat_lt (1 + m) (1 + n) ≡ nat_lt m n
less_behind m n = grind (arith, nat_tests)

before_behind : (x a b : Operation) (xs : List Operation) → same x a ≡ false → same x b ≡ false → before (x ∷ xs) a b ≡ before xs a b
before_behind x a b xs e f = rw (place_tail a x xs (same-swap x a e), place_tail b x xs (same-swap x b f)) (less_behind (position_in xs a) (position_in xs b))

pub inverted : (must : Operation → Operation → Bool) → ((a : Operation) → must a a ≡ false) → (xs : List Operation) → EachOnce xs → first_pair (is_inverted must xs) xs xs ≡ first_out_of_order must xs
inverted must irr [] d = refl
inverted must irr (x ∷ xs) d =
    ap (λ (o : Option Operation). found_or o x (first_pair (is_inverted must (x ∷ xs)) (x ∷ xs) xs))
    (found_behind (λ a. is_inverted must (x ∷ xs) a x) x xs (ap (λ (c : Bool). c && not (before (x ∷ xs) x x)) (irr x))
    ∙ found_same (λ a. is_inverted must (x ∷ xs) a x) (λ a. must a x) xs (Each-weaker (λ a. same x a ≡ false) (λ a. is_inverted must (x ∷ xs) a x ≡ must a x) (λ a e. with_false (must a x) (before (x ∷ xs) a x) (not_before_first x a xs e)) xs d.0))
    ∙ ap (λ (o : Option (Operation × Operation)). found_or (find (λ a. must a x) xs) x o)
    (first_pair_behind (is_inverted must (x ∷ xs)) (is_inverted must xs) x xs xs
    (Each-weaker (λ b. same x b ≡ false) (λ b. (is_inverted must (x ∷ xs) x b ≡ false) × Each (λ a. is_inverted must (x ∷ xs) a b ≡ is_inverted must xs a b) xs)
    (λ b f. (with_true (must x b) (before (x ∷ xs) x b) (before_first x b xs f), Each-weaker (λ a. same x a ≡ false) (λ a. is_inverted must (x ∷ xs) a b ≡ is_inverted must xs a b) (λ a e. ap (λ (c : Bool). must a b && not c) (before_behind x a b xs e f)) xs d.0)) xs d.0)
    ∙ inverted must irr xs d.1)

-- ---- loads

abbrev pub is_wrong : (Operation → Bool) → Operation → Operation → Bool
is_wrong ok a b = same a b && not (ok a)

abbrev pub twice : Option Operation → Option (Operation × Operation)
twice None = None
twice (Some a) = Some (pair a a)

wrong_head : (ok : Operation → Bool) (x : Operation) (xs : List Operation) → Each (λ a. same x a ≡ false) xs → find (λ a. is_wrong ok a x) (x ∷ xs) ≡ cond (not (ok x)) (Some x) None
wrong_head ok x xs h =
    ap (λ (c : Bool). cond (c && not (ok x)) (Some x) (find (λ a. is_wrong ok a x) xs)) (same-self x)
    ∙ ap (λ (o : Option Operation). cond (not (ok x)) (Some x) o) (found_none (λ a. is_wrong ok a x) xs (Each-weaker (λ a. same x a ≡ false) (λ a. is_wrong ok a x ≡ false) (λ a e. and_left (same a x) (not (ok a)) (same-swap x a e)) xs h))

pub wrong_found : (ok : Operation → Bool) (xs : List Operation) → EachOnce xs → first_pair (is_wrong ok) xs xs ≡ twice (find (λ a. not (ok a)) xs)
wrong_found ok [] d = refl
wrong_found ok (x ∷ xs) d =
    ap (λ (o : Option Operation). found_or o x (first_pair (is_wrong ok) (x ∷ xs) xs)) (wrong_head ok x xs d.0)
    ∙ (ap (λ (o : Option (Operation × Operation)). found_or (cond (not (ok x)) (Some x) None) x o)
    (first_pair_behind (is_wrong ok) (is_wrong ok) x xs xs (Each-weaker (λ b. same x b ≡ false) (λ b. (is_wrong ok x b ≡ false) × Each (λ a. is_wrong ok a b ≡ is_wrong ok a b) xs) (λ b f. (and_left (same x b) (not (ok x)) f, each_same xs b)) xs d.0)
    ∙ wrong_found ok xs d.1)
    ∙ go (not (ok x)))
  where
    each_same : (ys : List Operation) (b : Operation) → Each (λ a. is_wrong ok a b ≡ is_wrong ok a b) ys
    each_same [] b = tt
    each_same (y ∷ ys) b = (refl, each_same ys b)

    go : (c : Bool) → found_or (cond c (Some x) None) x (twice (find (λ a. not (ok a)) xs)) ≡ twice (cond c (Some x) (find (λ a. not (ok a)) xs))
    go true = refl
    go false = refl

-- ---- pairs

pub broken_found : (harts : List (List Item)) (order ws : List Operation) → first_pair (is_broken_pair harts order) order ws ≡ first_broken_pair harts order ws
broken_found harts order [] = refl
broken_found harts order (w ∷ ws) = ap (λ (o : Option (Operation × Operation)). found_or (find (λ r. is_broken_pair harts order r w) order) w o) (broken_found harts order ws)

-- ---- all codes

no_rule_of_itself : (model : MemoryModel) (harts : List (List Item)) (order : List Operation) (r : Rule) (a : Operation) → asked_by model harts order (rule_of r) a a ≡ false
no_rule_of_itself model harts order r a = ap (λ (b : Bool). (nat_eq a.hart a.hart && b) && (rule_of r).asks model (items_of harts a.hart) order a a) (le-ltb a.place a.place (omega arith)) ∙ go (nat_eq a.hart a.hart)
  where
    go : (b : Bool) → ((b && false) && (rule_of r).asks model (items_of harts a.hart) order a a) ≡ false
    go true = refl
    go false = refl

abbrev pub told_by : Option (Rule × Operation × Operation) → Option Fault → Option Fault
told_by None rest = rest
told_by (Some f) rest = Some (fault_of (rule_of f.0).number (pair f.1 f.2))

module _ (model : MemoryModel) (image : ℕ → ℕ) (harts : List (List Item)) (order : List Operation) (d : EachOnce order) where
  rule_first : (r : Rule) → first_broken (code_of_rule model harts order (rule_of r)) order ≡ first_out_of_order (asked_by model harts order (rule_of r)) order
  rule_first r = pairs_found (is_inverted (asked_by model harts order (rule_of r)) order) order order ∙ inverted (asked_by model harts order (rule_of r)) (no_rule_of_itself model harts order r) order d

  rules_first : (rs : List Rule) (tail : List Code) → first_fault (map (λ r. code_of_rule model harts order (rule_of r)) rs ++ tail) order ≡ told_by (first_broken_rule model harts order rs) (first_fault tail order)
  rules_first [] tail = refl
  rules_first (r ∷ rs) tail =
      ap (λ (o : Option (Operation × Operation)). fault_or (rule_of r).number o (first_fault (map (λ r. code_of_rule model harts order (rule_of r)) rs ++ tail) order)) (rule_first r)
      ∙ go (first_out_of_order (asked_by model harts order (rule_of r)) order) (rules_first rs tail)
    where
      go : (o : Option (Operation × Operation)) → first_fault (map (λ r. code_of_rule model harts order (rule_of r)) rs ++ tail) order ≡ told_by (first_broken_rule model harts order rs) (first_fault tail order)
          → fault_or (rule_of r).number o (first_fault (map (λ r. code_of_rule model harts order (rule_of r)) rs ++ tail) order) ≡ told_by (ruled_or r o (first_broken_rule model harts order rs)) (first_fault tail order)
      go None ih = ih
      go (Some p) ih = refl

  told_of : (f : Option (Rule × Operation × Operation)) (v : Option Operation) (p : Option (Operation × Operation)) → fault_told (verdict_by f v p) ≡ told_by f (fault_or 14 (twice v) (fault_or 15 p None))
  told_of None None None = refl
  told_of None None (Some p) = refl
  told_of None (Some a) p = refl
  told_of (Some f) v p = refl

  pub first_told : fault_told (judged model image harts order) ≡ first_fault (codes model image harts order) order
  first_told =
      told_of (first_broken_rule model harts order all_rules) (wrong_load image order) (first_broken_pair harts order order)
      ∙ sym (rules_first all_rules (code_of_values image order ∷ code_of_atomicity harts order ∷ [])
      ∙ ap (told_by (first_broken_rule model harts order all_rules))
      (ap (λ (o : Option (Operation × Operation)). fault_or 14 o (fault_or 15 (first_broken (code_of_atomicity harts order) order) None)) (pairs_found (is_wrong (returns_sources image order)) order order ∙ wrong_found (returns_sources image order) order d)
      ∙ ap (λ (o : Option (Operation × Operation)). fault_or 14 (twice (wrong_load image order)) (fault_or 15 o None)) (pairs_found (is_broken_pair harts order) order order ∙ broken_found harts order order)))
