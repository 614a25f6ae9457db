-- An order breaks no rule where none of the operations that precede another, and stand behind it, must come before it.
use Rattle.std.proofs.Common.{◌≡◌, ℕ, zero, suc, ◌+◌, ◌-◌, ◌<◌, ◌≤◌, List, [], ◌∷◌, Bool, true, false, Option, Some, None, refl, cond, sym, subst, ap, ◌∙◌, ◌&&◌, arith, drop, find, get_or, length, take}
use Rattle.std.specs.Prelude.{is_some, slice_get, slice_index_or}
use Rattle.std.specs.List.{AllByRecursion}
use Rattle.std.proofs.lemmas.List.{drop-drop, drop_all, take_all}
use Rattle.std.proofs.lemmas.Option.{same_Some, slice_get-get_or}
use Rattle.machine_types.specs.declared.model.MemoryModel.{MemoryModel}
use Rattle.memory_model.specs.declared.operation.Operation.{Operation}
use Rattle.memory_model.specs.Items.{Item}
use Rattle.memory_model.specs.Operations.{precedes}
use Rattle.memory_model.specs.Rules.{asked_by, items_of}
use Rattle.rvwmo_order.specs.Rules.{rule_of}
use Rattle.rvwmo_order.specs.Lows.{AreLows}
use Rattle.rvwmo_order.specs.Scans.{all_rules, first_broken_rule, first_out_of_order, found_or, ruled_or}
use Rattle.rvwmo_order.specs.declared.rule.Rule.{Rule}
use Rattle.rvwmo_order.specs.declared.rule.Rule.TheVariants.{OverlappingStore, SameByteLoads, AtomicSource, Fence, Acquire, Release, Annotations, Pair, Address, Data, Control, DependentStore, DependentAddress}
use Rattle.rvwmo_order.proofs.Clear.{at_drop, nothing_left}
use Rattle.rvwmo_order.proofs.Lowest.{none_behind}

-- ---- all rules

pub of_each_rule : (P : Rule → Type 0) → AllByRecursion P all_rules → (rule : Rule) → P rule
of_each_rule P h OverlappingStore = h.0
of_each_rule P h SameByteLoads = h.1.0
of_each_rule P h AtomicSource = h.1.1.0
of_each_rule P h Fence = h.1.1.1.0
of_each_rule P h Acquire = h.1.1.1.1.0
of_each_rule P h Release = h.1.1.1.1.1.0
of_each_rule P h Annotations = h.1.1.1.1.1.1.0
of_each_rule P h Pair = h.1.1.1.1.1.1.1.0
of_each_rule P h Address = h.1.1.1.1.1.1.1.1.0
of_each_rule P h Data = h.1.1.1.1.1.1.1.1.1.0
of_each_rule P h Control = h.1.1.1.1.1.1.1.1.1.1.0
of_each_rule P h DependentStore = h.1.1.1.1.1.1.1.1.1.1.1.0
of_each_rule P h DependentAddress = h.1.1.1.1.1.1.1.1.1.1.1.1.0

none_out_of : (model : MemoryModel) (harts : List (List Item)) (order : List Operation) → ((rule : Rule) → first_out_of_order (asked_by model harts order (rule_of rule)) order ≡ None) → (rules : List Rule) → first_broken_rule model harts order rules ≡ None
none_out_of model harts order h [] = refl
none_out_of model harts order h (rule ∷ rest) = ap (λ (o : Option (Operation × Operation)). ruled_or rule o (first_broken_rule model harts order rest)) (h rule) ∙ none_out_of model harts order h rest

-- ---- one operation after the other

-- the operations up to a place have none behind them that must come before them
abbrev pub NoneUpTo : MemoryModel → List (List Item) → List Operation → ℕ → Type 0
NoneUpTo model harts order place = (rule : Rule) → first_out_of_order (asked_by model harts order (rule_of rule)) order ≡ first_out_of_order (asked_by model harts order (rule_of rule)) (drop place order)

-- one operation has none
abbrev pub NoneOf : MemoryModel → List (List Item) → List Operation → List Operation → Operation → Type 0
NoneOf model harts order among b = (rule : Rule) → find (λ a. asked_by model harts order (rule_of rule) a b) among ≡ None

pub none_in_all : (model : MemoryModel) (harts : List (List Item)) (order : List Operation) (place : ℕ) → length order ≤ place → NoneUpTo model harts order place → first_broken_rule model harts order all_rules ≡ None
none_in_all model harts order place past h = none_out_of model harts order (λ rule. h rule ∙ ap (first_out_of_order (asked_by model harts order (rule_of rule))) (drop_all place order past)) all_rules

out_at : (must : Operation → Operation → Bool) (order : List Operation) (p : ℕ) (b : Operation) → slice_get order p ≡ Some b → find (λ a. must a b) (drop (p + 1) order) ≡ None → first_out_of_order must (drop p order) ≡ first_out_of_order must (drop (p + 1) order)
out_at must order p b there none = go (drop p order) refl ∙ ap (first_out_of_order must) (drop-drop 1 p order)
  where
    go : (rest : List Operation) → drop p order ≡ rest → first_out_of_order must rest ≡ first_out_of_order must (drop 1 rest)
    go [] e = refl
    go (x ∷ behind) e =
        let one : b ≡ x = same_Some b x (sym there ∙ at_drop order p x behind e) in
        let rest : drop (p + 1) order ≡ behind = sym (drop-drop 1 p order) ∙ ap (drop 1) e in
        let clear : find (λ a. must a x) behind ≡ None = subst (λ (xs : List Operation). find (λ a. must a x) xs ≡ None) rest (subst (λ (y : Operation). find (λ a. must a y) (drop (p + 1) order) ≡ None) one none) in
        ap (λ (o : Option Operation). found_or o x (first_out_of_order must behind)) clear

none_up_to_next : (model : MemoryModel) (harts : List (List Item)) (order : List Operation) (place : ℕ) (b : Operation) → slice_get order place ≡ Some b → NoneOf model harts order (drop (place + 1) order) b → NoneUpTo model harts order place → NoneUpTo model harts order (place + 1)
none_up_to_next model harts order place b there none h = λ rule. h rule ∙ out_at (asked_by model harts order (rule_of rule)) order place b there (none rule)

-- ---- those behind one

-- no operation precedes b from a place on
abbrev pub NonePrecedesFrom : List Operation → ℕ → Operation → Type 0
NonePrecedesFrom order end b = (k : ℕ) (a : Operation) → end ≤ k → slice_get order k ≡ Some a → precedes a b ≡ false

enough : (test : Operation → Bool) (xs : List Operation) (p q : ℕ) → ((k : ℕ) (a : Operation) → q ≤ k → slice_get xs k ≡ Some a → test a ≡ false) → find test (take (q - p) (drop p xs)) ≡ None → find test (drop p xs) ≡ None
enough test [] p q f e = nothing_left test p
enough test (x ∷ xs) zero zero f e = ap (λ (c : Bool). cond c (Some x) (find test xs)) (f zero x (omega arith) refl) ∙ enough test xs zero zero (λ k a l h. f (suc k) a (omega arith) h) refl
enough test (x ∷ xs) zero (suc q) f e = go (test x) (subst (λ (n : ℕ). find test (take n (x ∷ xs)) ≡ None) whole e) (λ h. enough test xs zero q (λ k a l i. f (suc k) a (omega (arith, l)) i) (subst (λ (n : ℕ). find test (take n xs) ≡ None) part h))
  where
    whole : suc q - 0 ≡ suc q
    whole = omega arith

    part : q ≡ q - 0
    part = omega arith

    go : (c : Bool) → cond c (Some x) (find test (take q xs)) ≡ None → (find test (take q xs) ≡ None → find test xs ≡ None) → cond c (Some x) (find test xs) ≡ None
    go true h ih = cc
    go false h ih = ih h
enough test (x ∷ xs) (suc p) zero f e = enough test xs p zero (λ k a l h. f (suc k) a (omega arith) h) (subst (λ (n : ℕ). find test (take n (drop p xs)) ≡ None) none refl)
  where
    none : 0 ≡ zero - p
    none = omega arith
enough test (x ∷ xs) (suc p) (suc q) f e = enough test xs p q (λ k a l h. f (suc k) a (omega (arith, l)) h) (subst (λ (n : ℕ). find test (take n (drop p xs)) ≡ None) less e)
  where
    less : suc q - suc p ≡ q - p
    less = omega arith

not_asked : (model : MemoryModel) (harts : List (List Item)) (order : List Operation) (rule : Rule) (a b : Operation) → precedes a b ≡ false → asked_by model harts order (rule_of rule) a b ≡ false
not_asked model harts order rule a b e = ap (λ (c : Bool). c && (rule_of rule).asks model (items_of harts a.hart) order a b) e

-- none of those up to that place must come before b, so none of those behind it
none_further : (model : MemoryModel) (harts : List (List Item)) (order : List Operation) (from end : ℕ) (b : Operation) → NonePrecedesFrom order end b → NoneOf model harts order (take (end - from) (drop from order)) b → NoneOf model harts order (drop from order) b
none_further model harts order from end b past none =
    λ rule. enough (λ a. asked_by model harts order (rule_of rule) a b) order from end (λ k a l e. not_asked model harts order rule a b (past k a l e)) (none rule)

none_precedes : (model : MemoryModel) (harts : List (List Item)) (order : List Operation) (from : ℕ) (b : Operation) → NonePrecedesFrom order from b → NoneOf model harts order (drop from order) b
none_precedes model harts order from b past = none_further model harts order from from b past (λ rule. none rule)
  where
    zero_is : 0 ≡ from - from
    zero_is = omega arith

    none : (rule : Rule) → find (λ a. asked_by model harts order (rule_of rule) a b) (take (from - from) (drop from order)) ≡ None
    none rule = subst (λ (n : ℕ). find (λ a. asked_by model harts order (rule_of rule) a b) (take n (drop from order)) ≡ None) zero_is refl

-- ---- a walk along the order

there : (order xs : List Operation) (place : ℕ) (d : Operation) → xs ≡ order → place < length xs → slice_get order place ≡ Some (get_or xs place d)
there order xs place d same within = ap (λ (ys : List Operation). slice_get ys place) (sym same) ∙ slice_get-get_or xs place d within

-- past one whose low isn't less than its place
pub none_at : (model : MemoryModel) (harts : List (List Item)) (order xs : List Operation) (lows : List ℕ) (place : ℕ) (d : Operation) → xs ≡ order → place < length xs → AreLows order lows → (get_or xs place d).place ≤ slice_index_or lows place 0 → NoneUpTo model harts order place → NoneUpTo model harts order (place + 1)
none_at model harts order xs lows place d same within are high h =
    let b = get_or xs place d in
    let at = there order xs place d same within in
    none_up_to_next model harts order place b at (none_precedes model harts order (place + 1) b (λ k a l e. none_behind order lows place b b are at refl high k a (omega (arith, l)) e)) h

-- past one with none up to where the last stands that precedes it
pub none_up_to_end : (model : MemoryModel) (harts : List (List Item)) (order xs : List Operation) (place end : ℕ) (d : Operation) → xs ≡ order → place < length xs → NonePrecedesFrom xs end (get_or xs place d) → NoneOf model harts order (take (end - (place + 1)) (drop (place + 1) xs)) (get_or xs place d) → NoneUpTo model harts order place → NoneUpTo model harts order (place + 1)
none_up_to_end model harts order xs place end d same within past none h =
    let b = get_or xs place d in
    none_up_to_next model harts order place b (there order xs place d same within)
    (none_further model harts order (place + 1) end b (subst (λ (ys : List Operation). NonePrecedesFrom ys end b) same past) (subst (λ (ys : List Operation). NoneOf model harts order (take (end - (place + 1)) (drop (place + 1) ys)) b) same none)) h

-- ---- a walk along the rules

no_operation : (o : Option Operation) → is_some o ≡ false → o ≡ None
no_operation None e = refl
no_operation (Some a) e = cc

pub with_first : (P : Rule → Type 0) (left : List Rule) (d : Rule) → 1 ≤ length left → P (get_or left 0 d) → AllByRecursion P (take (length left - 1) (drop 1 left)) → AllByRecursion P left
with_first P [] d l h rest = tt
with_first P (r ∷ rs) d l h rest = (h, subst (AllByRecursion P) all rest)
  where
    long : suc (length rs) - 1 ≡ length rs
    long = omega arith

    all : take (suc (length rs) - 1) rs ≡ rs
    all = ap (λ (n : ℕ). take n rs) long ∙ take_all (length rs) rs (omega arith)

pub none_left : (P : Rule → Type 0) (left : List Rule) → length left < 1 → AllByRecursion P left
none_left P [] l = tt
none_left P (r ∷ rs) l = absurd (omega (arith, l))

-- what was found by a rule, where that isn't anything, is what it finds
pub found_none : (model : MemoryModel) (harts : List (List Item)) (order among : List Operation) (b : Operation) (found : Option Operation) (swept rule : Rule) → swept ≡ rule → found ≡ find (λ a. asked_by model harts order (rule_of swept) a b) among → is_some found ≡ false
    → find (λ a. asked_by model harts order (rule_of rule) a b) among ≡ None
found_none model harts order among b found swept rule same is none = ap (λ (r : Rule). find (λ a. asked_by model harts order (rule_of r) a b) among) (sym same) ∙ (sym is ∙ no_operation found none)
