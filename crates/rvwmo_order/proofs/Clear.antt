-- Where the bound of an operation is no more than its rank, nothing behind it must come before it.
use Rattle.std.proofs.Common.{◌≡◌, ℕ, zero, suc, ◌+◌, ◌-◌, ◌<◌, ◌≤◌, List, [], ◌∷◌, Bool, true, false, Option, Some, None, refl, cond, sym, subst, ap, ◌∙◌, ◌⊎◌, inl, inr, arith, drop, find, get_or, length, max, take}
use Rattle.std.specs.Prelude.{slice_get, slice_index_or}
use Rattle.std.specs.List.{AllByRecursion as Each}
use Rattle.std.proofs.lemmas.Bool.{true≢false}
use Rattle.std.proofs.Math.Seq.{drop-nil}
use Rattle.std.proofs.lemmas.List.{at_drop_more, drop-drop, drop_all}
use Rattle.std.proofs.lemmas.Option.{slice_get_within}
use Rattle.machine_types.specs.declared.model.MemoryModel.{MemoryModel}
use Rattle.memory_model.specs.declared.operation.Operation.{Operation}
use Rattle.memory_model.specs.Items.{Item}
use Rattle.memory_model.specs.Operations.{same}
use Rattle.memory_model.specs.Order.{position_in}
use Rattle.memory_model.specs.Rules.{asked_by}
use Rattle.memory_model.proofs.Forms.{place_head, place_tail, same-self, same-swap}
use Rattle.memory_model.proofs.Lists.{Member, Each-at, Each-from}
use Rattle.memory_model.proofs.Named.{EachOnce}
use Rattle.rvwmo_order.specs.Bounds.{BoundsEach, RanksEach, bound_of, greatest_of, unbounded, weight_of}
use Rattle.rvwmo_order.specs.Ranks.{AreDistinctOperations}
use Rattle.rvwmo_order.proofs.Ranks.{member_at, position_at}
use Rattle.rvwmo_order.specs.Rules.{rule_of}
use Rattle.rvwmo_order.specs.Scans.{first_broken_rule, first_out_of_order, found_or, ruled_or}
use Rattle.rvwmo_order.specs.declared.bounds.rows.Row.{Row}
use Rattle.rvwmo_order.specs.declared.rule.Rule.{Rule}
use Rattle.rvwmo_order.specs.declared.rule.Rule.TheVariants.{OverlappingStore, SameByteLoads, AtomicSource, Fence, Acquire, Release, Annotations, Pair, Address, Data, Control, DependentStore, DependentAddress}

pub distinct_once : (order : List Operation) → EachOnce order → AreDistinctOperations order
distinct_once [] h = tt
distinct_once (a ∷ rest) h = (h.0, distinct_once rest h.1)

nothing_is : (x : Operation) (xs : List Operation) → [] ≡ x ∷ xs → ⊥
nothing_is x xs e = cc

head_is : (x y : Operation) (xs ys : List Operation) → x ∷ xs ≡ y ∷ ys → x ≡ y
head_is x y xs ys e = cc

tail_is : (x y : Operation) (xs ys : List Operation) → x ∷ xs ≡ y ∷ ys → xs ≡ ys
tail_is x y xs ys e = cc

-- what stands behind a place is in the list
behind_member : (order : List Operation) (p : ℕ) (b : Operation) (behind : List Operation) (a : Operation) → drop p order ≡ b ∷ behind → Member a behind → Member a order
behind_member [] zero b behind a e m = absurd (nothing_is b behind e)
behind_member [] (suc p) b behind a e m = absurd (nothing_is b behind e)
behind_member (x ∷ rest) zero b behind a e m = inr (subst (Member a) (sym (tail_is x b rest behind e)) m)
behind_member (x ∷ rest) (suc p) b behind a e m = inr (behind_member rest p b behind a e m)

-- and stands behind it
lies_behind : (order : List Operation) (p : ℕ) (b : Operation) (behind : List Operation) (a : Operation) → AreDistinctOperations order → drop p order ≡ b ∷ behind → Member a behind → p < position_in order a
lies_behind [] zero b behind a d e m = absurd (nothing_is b behind e)
lies_behind [] (suc p) b behind a d e m = absurd (nothing_is b behind e)
lies_behind (x ∷ rest) zero b behind a d e m =
    let other : same a x ≡ false = same-swap x a (Each-at (λ (c : Operation). same x c ≡ false) a rest d.0 (subst (Member a) (sym (tail_is x b rest behind e)) m)) in
    let place = place_tail a x rest other in
    omega (arith, place)
lies_behind (x ∷ rest) (suc p) b behind a d e m =
    let other : same a x ≡ false = same-swap x a (Each-at (λ (c : Operation). same x c ≡ false) a rest d.0 (behind_member rest p b behind a e m)) in
    let place = place_tail a x rest other in
    let ih = lies_behind rest p b behind a d.1 e m in
    omega (arith, place, ih)

pub at_drop : (order : List Operation) (p : ℕ) (b : Operation) (behind : List Operation) → drop p order ≡ b ∷ behind → slice_get order p ≡ Some b
at_drop [] zero b behind e = absurd (nothing_is b behind e)
at_drop [] (suc p) b behind e = absurd (nothing_is b behind e)
at_drop (x ∷ rest) zero b behind e = ap (λ (y : Operation). Some y) (head_is x b rest behind e)
at_drop (x ∷ rest) (suc p) b behind e = at_drop rest p b behind e

find_nothing : (p : Operation → Bool) (xs : List Operation) → Each (λ (a : Operation). p a ≡ false) xs → find p xs ≡ None
find_nothing p [] h = refl
find_nothing p (x ∷ xs) h = rw h.0 (find_nothing p xs h.1)

pub clear_behind : (model : MemoryModel) (harts : List (List Item)) (order : List Operation) (rows : List Row) (rule : Rule) (p : ℕ) (b : Operation) (behind : List Operation) → AreDistinctOperations order → RanksEach model harts order rows → drop p order ≡ b ∷ behind
    → bound_of rule (slice_index_or rows p unbounded) ≤ p + 1 → find (λ a. asked_by model harts order (rule_of rule) a b) behind ≡ None
clear_behind model harts order rows rule p b behind d ranks e l =
    find_nothing (λ a. asked_by model harts order (rule_of rule) a b) behind (Each-from (λ (a : Operation). asked_by model harts order (rule_of rule) a b ≡ false) behind (λ a m. go a m (asked_by model harts order (rule_of rule) a b) refl))
  where
    go : (a : Operation) → Member a behind → (c : Bool) → asked_by model harts order (rule_of rule) a b ≡ c → asked_by model harts order (rule_of rule) a b ≡ false
    go a m true t =
        let below = Each-at (λ (y : Operation). asked_by model harts order (rule_of rule) y b ≡ true → position_in order y < bound_of rule (slice_index_or rows p unbounded)) a order (ranks.each p b (at_drop order p b behind e) rule) (behind_member order p b behind a e m) t in
        let above = lies_behind order p b behind a d e m in
        absurd (omega (arith, below, above, l))
    go a m false t = t

-- ---- a search along the order

pub clear_there : (model : MemoryModel) (harts : List (List Item)) (order : List Operation) (rows : List Row) (rule : Rule) (p : ℕ) → AreDistinctOperations order → RanksEach model harts order rows
    → bound_of rule (slice_index_or rows p unbounded) ≤ p + 1 → first_out_of_order (asked_by model harts order (rule_of rule)) (drop p order) ≡ first_out_of_order (asked_by model harts order (rule_of rule)) (drop (p + 1) order)
clear_there model harts order rows rule p distinct ranks l = go (drop p order) refl ∙ ap (first_out_of_order (asked_by model harts order (rule_of rule))) (drop-drop 1 p order)
  where
    go : (rest : List Operation) → drop p order ≡ rest → first_out_of_order (asked_by model harts order (rule_of rule)) rest ≡ first_out_of_order (asked_by model harts order (rule_of rule)) (drop 1 rest)
    go [] e = refl
    go (b ∷ behind) e = ap (λ (o : Option Operation). found_or o b (first_out_of_order (asked_by model harts order (rule_of rule)) behind)) (clear_behind model harts order rows rule p b behind distinct ranks e l)

pub found_there : (must : Operation → Operation → Bool) (order xs : List Operation) (p : ℕ) (a d : Operation) → xs ≡ order → p < length xs → Some a ≡ find (λ a. must a (get_or xs p d)) (drop (p + 1) order) → first_out_of_order must order ≡ first_out_of_order must (drop p order)
    → Some (a, get_or xs p d) ≡ first_out_of_order must order
found_there must order xs p a d e h f i =
    sym (i
    ∙ (ap (λ (ys : List Operation). first_out_of_order must (drop p ys)) (sym e)
    ∙ (at_drop_more (first_out_of_order must) xs p d h
    ∙ (ap (λ (ys : List Operation). found_or (find (λ a. must a (get_or xs p d)) (drop (p + 1) ys)) (get_or xs p d) (first_out_of_order must (drop (p + 1) xs))) e
    ∙ ap (λ (o : Option Operation). found_or o (get_or xs p d) (first_out_of_order must (drop (p + 1) xs))) (sym f)))))

-- ---- what a second walk leaves of those behind an operation

pub nothing_left : (test : Operation → Bool) (n : ℕ) → find test (drop n []) ≡ None
nothing_left test n = ap (find test) (drop-nil n)

cut_off : (test : Operation → Bool) (order : List Operation) (p q : ℕ) → p ≤ q → ((k : ℕ) (a : Operation) → slice_get order k ≡ Some a → p ≤ k → k < q → test a ≡ false) → find test (drop p order) ≡ find test (drop q order)
cut_off test [] p q l f = nothing_left test p ∙ sym (nothing_left test q)
cut_off test (x ∷ xs) zero zero l f = refl
cut_off test (x ∷ xs) zero (suc q) l f =
    ap (λ (c : Bool). cond c (Some x) (find test xs)) (f zero x refl (omega arith) (omega arith))
    ∙ cut_off test xs zero q (omega arith) (λ k a e m n. f (suc k) a e (omega arith) (omega (arith, n)))
cut_off test (x ∷ xs) (suc p) zero l f = absurd (omega (arith, l))
cut_off test (x ∷ xs) (suc p) (suc q) l f = cut_off test xs p q (omega (arith, l)) (λ k a e m n. f (suc k) a e (omega (arith, m)) (omega (arith, n)))

-- those that the bound leaves have the first that must come before it
pub first_left : (model : MemoryModel) (harts : List (List Item)) (order : List Operation) (weights : List ℕ) (rows : List Row) (rule : Rule) (p count first from : ℕ) (b : Operation) → AreDistinctOperations order → BoundsEach model harts order weights rows → count ≡ length order → slice_get order p ≡ Some b
    → ((k : ℕ) → p < k → k < count → slice_index_or weights k 0 ≡ count - k) → first ≡ count - bound_of rule (slice_index_or rows p unbounded) → from ≡ max first (p + 1)
    → find (λ a. asked_by model harts order (rule_of rule) a b) (drop from order) ≡ find (λ a. asked_by model harts order (rule_of rule) a b) (drop (p + 1) order)
first_left model harts order weights rows rule p count first from b d bounds counted there weighed bound cut =
    sym (cut_off (λ a. asked_by model harts order (rule_of rule) a b) order (p + 1) from (omega (arith, cut)) (λ k a e m n. go k a e m n (asked_by model harts order (rule_of rule) a b) refl))
  where
    go : (k : ℕ) (a : Operation) → slice_get order k ≡ Some a → p + 1 ≤ k → k < from → (c : Bool) → asked_by model harts order (rule_of rule) a b ≡ c → asked_by model harts order (rule_of rule) a b ≡ false
    go k a e m n true t =
        let heavy = Each-at (λ (y : Operation). asked_by model harts order (rule_of rule) y b ≡ true → weight_of weights order y ≤ bound_of rule (slice_index_or rows p unbounded)) a order (bounds.each p b there rule) (member_at order k a e) t in
        let long = slice_get_within order k a e in
        let at = ap (λ (j : ℕ). slice_index_or weights j 0) (position_at order k a d e) in
        let weight = weighed k (omega (arith, m)) (omega (arith, long, counted)) in
        absurd (omega (arith, heavy, at, weight, long, counted, bound, cut, m, n))
    go k a e m n false t = t

-- ---- those before a bound

none_of : (test : Operation → Bool) (xs : List Operation) → ((k : ℕ) (a : Operation) → slice_get xs k ≡ Some a → test a ≡ false) → find test xs ≡ None
none_of test [] f = refl
none_of test (x ∷ xs) f = ap (λ (c : Bool). cond c (Some x) (find test xs)) (f zero x refl) ∙ none_of test xs (λ k a e. f (suc k) a e)

none_taken : (test : Operation → Bool) (n : ℕ) → find test (take n []) ≡ None
none_taken test zero = refl
none_taken test (suc n) = refl

-- none from a place on passes a test
pub first_before : (test : Operation → Bool) (xs : List Operation) (p q : ℕ) → ((k : ℕ) (a : Operation) → q ≤ k → slice_get xs k ≡ Some a → test a ≡ false) → find test (take (q - p) (drop p xs)) ≡ find test (drop p xs)
first_before test [] p q f = ap (λ (ys : List Operation). find test (take (q - p) ys)) (drop-nil p) ∙ (none_taken test (q - p) ∙ sym (nothing_left test p))
first_before test (x ∷ xs) zero zero f = sym (none_of test (x ∷ xs) (λ k a e. f k a (omega arith) e))
first_before test (x ∷ xs) zero (suc q) f =
    let whole : suc q - 0 ≡ suc q = omega arith in
    let part : q ≡ q - 0 = omega arith in
    ap (λ (n : ℕ). find test (take n (x ∷ xs))) whole
    ∙ ap (λ (o : Option Operation). cond (test x) (Some x) o) (ap (λ (n : ℕ). find test (take n xs)) part ∙ first_before test xs zero q (λ k a l e. f (suc k) a (omega (arith, l)) e))
first_before test (x ∷ xs) (suc p) zero f =
    let none : zero - suc p ≡ zero - p = omega arith in
    ap (λ (n : ℕ). find test (take n (drop p xs))) none ∙ first_before test xs p zero (λ k a l e. f (suc k) a (omega arith) e)
first_before test (x ∷ xs) (suc p) (suc q) f =
    let less : suc q - suc p ≡ q - p = omega arith in
    ap (λ (n : ℕ). find test (take n (drop p xs))) less ∙ first_before test xs p q (λ k a l e. f (suc k) a (omega (arith, l)) e)

pub beyond_bound : (model : MemoryModel) (harts : List (List Item)) (order : List Operation) (rows : List Row) (rule : Rule) (p k : ℕ) (b a : Operation) → AreDistinctOperations order → RanksEach model harts order rows → slice_get order p ≡ Some b
    → bound_of rule (slice_index_or rows p unbounded) ≤ k → slice_get order k ≡ Some a → asked_by model harts order (rule_of rule) a b ≡ false
beyond_bound model harts order rows rule p k b a d ranks there l e = go (asked_by model harts order (rule_of rule) a b) refl
  where
    go : (c : Bool) → asked_by model harts order (rule_of rule) a b ≡ c → asked_by model harts order (rule_of rule) a b ≡ false
    go true t =
        let below = Each-at (λ (y : Operation). asked_by model harts order (rule_of rule) y b ≡ true → position_in order y < bound_of rule (slice_index_or rows p unbounded)) a order (ranks.each p b there rule) (member_at order k a e) t in
        let at = position_at order k a d e in
        absurd (omega (arith, below, at, l))
    go false t = t

-- ---- where no bound leaves room

within_greatest : (rule : Rule) (r : Row) → bound_of rule r ≤ greatest_of r
within_greatest OverlappingStore r = omega arith
within_greatest SameByteLoads r = omega arith
within_greatest AtomicSource r = omega arith
within_greatest Fence r = omega arith
within_greatest Acquire r = omega arith
within_greatest Release r = omega arith
within_greatest Annotations r = omega arith
within_greatest Pair r = omega arith
within_greatest Address r = omega arith
within_greatest Data r = omega arith
within_greatest Control r = omega arith
within_greatest DependentStore r = omega arith
within_greatest DependentAddress r = omega arith

module _ (model : MemoryModel) (harts : List (List Item)) (order : List Operation) (rows : List Row) (distinct : AreDistinctOperations order) (ranks : RanksEach model harts order rows) (clear : (p : ℕ) → p < length order → greatest_of (slice_index_or rows p unbounded) ≤ p + 1) where
  passed_over : (rule : Rule) (p : ℕ) → p ≤ length order → first_out_of_order (asked_by model harts order (rule_of rule)) order ≡ first_out_of_order (asked_by model harts order (rule_of rule)) (drop p order)
  passed_over rule zero l = refl
  passed_over rule (suc p) l =
      let within = within_greatest rule (slice_index_or rows p unbounded) in
      let most = clear p (omega (arith, l)) in
      let more : p + 1 ≡ suc p = omega arith in
      passed_over rule p (omega (arith, l))
      ∙ (clear_there model harts order rows rule p distinct ranks (omega (arith, within, most))
      ∙ ap (λ (n : ℕ). first_out_of_order (asked_by model harts order (rule_of rule)) (drop n order)) more)

  pub none_broken : (rules : List Rule) → first_broken_rule model harts order rules ≡ None
  none_broken [] = refl
  none_broken (rule ∷ rest) =
      ap (λ (o : Option (Operation × Operation)). ruled_or rule o (first_broken_rule model harts order rest)) (passed_over rule (length order) (omega arith) ∙ ap (first_out_of_order (asked_by model harts order (rule_of rule))) (drop_all (length order) order (omega arith)))
      ∙ none_broken rest
