-- What the thirteen rules ask where the first of two operations is a plain store: overlap, fence and release; and what a new item changes of that.
use Rattle.std.proofs.Common.{◌≡◌, ℕ, zero, suc, ◌+◌, ◌%◌, ◌<◌, ◌≤◌, List, [], ◌∷◌, ◌++◌, Bool, true, false, Option, Some, None, refl, cond, sym, ap, ◌∙◌, subst, not, ◌&&◌, ◌||◌, append-nil, arith, replicate, slice_index_or, slice_set}
use Rattle.std.specs.Prelude.{nat_lt, nat_le, nat_eq}
use Rattle.std.specs.List.{AllByRecursion as Each, filter, list_any}
use Rattle.std.proofs.lemmas.Bool.{false≢true, true≢false, and_parts, and_from, and_left, and_right, or_left, or_right, or_from, or_parts, eqb-true, ltb-true, leb-true, le-ltb, lt-ltb, eq-eqb, false_from_ne_true}
use Rattle.std.proofs.lemmas.List.Elements.{filter-append}
use Rattle.std.proofs.lemmas.List.Folds.{list_any-append}
use Rattle.machine_model.specs.Words.{word_of}
use Rattle.machine_types.specs.declared.model.MemoryModel.{MemoryModel}
use Rattle.machine_types.specs.declared.model.MemoryModel.TheVariants.{Rvwmo, Ztso}
use Rattle.memory_model.specs.declared.operation.Kind.{Kind}
use Rattle.memory_model.specs.declared.operation.Kind.TheVariants.{Load, Store, Lr, Sc, Amo}
use Rattle.memory_model.specs.declared.operation.Operation.{Operation}
use Rattle.memory_model.specs.Dependencies.{between, held_at, held_first, held_after, held_behind, holds, with_flags, sources, uses_in, uses_at, steers, any_steers, any_addresses, has_address_dependency, has_data_dependency}
use Rattle.memory_model.specs.Items.{Item}
use Rattle.memory_model.specs.Operations.{precedes, reads, writes, overlap, touches, is_lr, is_amo, is_sc, has_acquire, has_release, has_rcsc}
use Rattle.memory_model.specs.Rules.{Rule, rules, fences, has_read, has_write, passes_on, rule_2, rule_3, rule_7, rule_8, rule_11, rule_12, rule_13}
use Rattle.rv32_decode.specs.declared.instruction.Instr.{Instr}
use Rattle.rv32_decode.specs.declared.instruction.Instr.TheVariants as instr
use Rattle.rv32_exec.specs.Uses.{Uses}

abbrev pub is_store : Kind → Bool
is_store Store = true
is_store _ = false

-- a weaker test
pub list_any-none : {X : Type 0} (p q : X → Bool) → ((x : X) → p x ≡ true → q x ≡ true) → (xs : List X) → list_any q xs ≡ false → list_any p xs ≡ false
list_any-none p q f [] h = refl
list_any-none p q f (x ∷ xs) h =
    let hs = or_parts (q x) (list_any q xs) h in
    or_from (p x) (list_any p xs) (false_from_ne_true (p x) (λ e. false≢true (sym hs.0 ∙ f x e))) (list_any-none p q f xs hs.1)

any_filter_at : {X : Type 0} (p : X → Bool) (b : Bool) (x : X) (xs : List X) (r : Bool) → list_any p xs ≡ r → list_any p (cond b (x ∷ xs) xs) ≡ ((b && p x) || r)
any_filter_at p true x xs r e = rw e
any_filter_at p false x xs r e = e

pub any_filter : {X : Type 0} (p q : X → Bool) (xs : List X) → list_any p (filter q xs) ≡ list_any (λ x. q x && p x) xs
any_filter p q [] = refl
any_filter p q (x ∷ xs) = any_filter_at p (q x) x (filter q xs) _ (any_filter p q xs)

none_any : {X : Type 0} (p : X → Bool) → ((x : X) → p x ≡ false) → (xs : List X) → list_any p xs ≡ false
none_any p f [] = refl
none_any p f (x ∷ xs) = or_from _ _ (f x) (none_any p f xs)

-- ---- fences

-- a fence that stands between two operations orders them
abbrev pub fenced : List Item → Operation → Operation → Bool
fenced items a b = list_any (λ (m : Item). fences m.instr a.kind b.kind) (between items a b)

-- a fence behind a store orders it before operations of this kind
abbrev pub late : List Item → Kind → Operation → Bool
late items k a = list_any (λ (m : Item). nat_lt a.place m.place && fences m.instr Store k) items

pub late-more : (items : List Item) (m : Item) (k : Kind) (a : Operation) → late items k a ≡ false → fences m.instr Store k ≡ false → late (items ++ m ∷ []) k a ≡ false
late-more items m k a h e =
    list_any-append (λ (m : Item). nat_lt a.place m.place && fences m.instr Store k) items (m ∷ []) ∙ or_from (late items k a) _ h (or_from _ false (and_right (nat_lt a.place m.place) _ e) refl)

-- no fence stands between a store and one that came later, if none is late
pub fenced-late : (items : List Item) (a b : Operation) → a.kind ≡ Store → late items b.kind a ≡ false → fenced items a b ≡ false
fenced-late items a b s h =
    any_filter (λ (m : Item). fences m.instr a.kind b.kind) (λ (m : Item). nat_lt a.place m.place && nat_lt m.place b.place) items
    ∙ list_any-none (λ (m : Item). (nat_lt a.place m.place && nat_lt m.place b.place) && fences m.instr a.kind b.kind) (λ (m : Item). nat_lt a.place m.place && fences m.instr Store b.kind)
    (λ m e. let e1 = and_parts (nat_lt a.place m.place && nat_lt m.place b.place) (fences m.instr a.kind b.kind) e in let e2 = and_parts (nat_lt a.place m.place) (nat_lt m.place b.place) e1.0 in and_from _ _ e2.0 (subst (λ (k : Kind). fences m.instr k b.kind ≡ true) s e1.1)) items h

-- none stands behind the later one
pub fenced-back : (items : List Item) (a b : Operation) → b.place ≤ a.place → fenced items a b ≡ false
fenced-back items a b h =
    any_filter (λ (m : Item). fences m.instr a.kind b.kind) (λ (m : Item). nat_lt a.place m.place && nat_lt m.place b.place) items
    ∙ list_any-none (λ (m : Item). (nat_lt a.place m.place && nat_lt m.place b.place) && fences m.instr a.kind b.kind) (λ m. false)
    (λ m e. let e1 = and_parts (nat_lt a.place m.place && nat_lt m.place b.place) (fences m.instr a.kind b.kind) e in let e2 = and_parts (nat_lt a.place m.place) (nat_lt m.place b.place) e1.0 in
    let l1 = ltb-true a.place m.place e2.0 in let l2 = ltb-true m.place b.place e2.1 in absurd (omega (arith, l1, l2, h))) items (none_any (λ (m : Item). false) (λ m. refl) items)

-- what stands between two operations isn't changed by a new item behind the later one
pub between-more : (items : List Item) (m : Item) (a b : Operation) → b.place ≤ m.place → between (items ++ m ∷ []) a b ≡ between items a b
between-more items m a b h =
    filter-append (λ (m : Item). nat_lt a.place m.place && nat_lt m.place b.place) items (m ∷ [])
    ∙ (ap (λ c. between items a b ++ cond c (m ∷ []) []) (and_right (nat_lt a.place m.place) _ (le-ltb m.place b.place h)) ∙ append-nil (between items a b))

pub fenced-more : (items : List Item) (m : Item) (a b : Operation) → b.place ≤ m.place → fenced (items ++ m ∷ []) a b ≡ fenced items a b
fenced-more items m a b h = ap (list_any (λ (m : Item). fences m.instr a.kind b.kind)) (between-more items m a b h)

-- ---- a fence before an operation of any kind

lr_as_load : (o : Option Instr) → fences o Store Lr ≡ fences o Store Load
lr_as_load (Some (instr.Fence sets)) = refl
lr_as_load (Some instr.FenceTso) = refl
lr_as_load _ = refl

sc_as_store : (o : Option Instr) → fences o Store Sc ≡ fences o Store Store
sc_as_store (Some (instr.Fence sets)) = refl
sc_as_store (Some instr.FenceTso) = refl
sc_as_store _ = refl

in_either : (w r v : Bool) → (w && (r || false)) ≡ false → (w && v) ≡ false → (w && (r || v)) ≡ false
in_either false r v e f = refl
in_either true true v e f = absurd (true≢false e)
in_either true false v e f = f

amo_as_both : (o : Option Instr) → fences o Store Load ≡ false → fences o Store Store ≡ false → fences o Store Amo ≡ false
amo_as_both (Some (instr.Fence sets)) e f = in_either (has_write sets.before) (has_read sets.after) (has_write sets.after) e f
amo_as_both (Some instr.FenceTso) e f = f
amo_as_both _ e f = refl

late_same : (items : List Item) (j k : Kind) (a : Operation) → ((o : Option Instr) → fences o Store j ≡ fences o Store k) → late items k a ≡ false → late items j a ≡ false
late_same items j k a f h = list_any-none (λ (m : Item). nat_lt a.place m.place && fences m.instr Store j) (λ (m : Item). nat_lt a.place m.place && fences m.instr Store k)
    (λ m e. ap (λ c. nat_lt a.place m.place && c) (sym (f m.instr)) ∙ e) items h

guarded : (c x y z : Bool) → (x ≡ false → y ≡ false → z ≡ false) → (c && x) ≡ false → (c && y) ≡ false → (c && z) ≡ false
guarded true x y z f e g = f e g
guarded false x y z f e g = refl

late_amo : (items : List Item) (a : Operation) → late items Load a ≡ false → late items Store a ≡ false → late items Amo a ≡ false
late_amo [] a e f = refl
late_amo (m ∷ items) a e f =
    let es = or_parts (nat_lt a.place m.place && fences m.instr Store Load) (late items Load a) e in
    let fs = or_parts (nat_lt a.place m.place && fences m.instr Store Store) (late items Store a) f in
    or_from _ (late items Amo a) (guarded (nat_lt a.place m.place) _ _ _ (amo_as_both m.instr) es.0 fs.0) (late_amo items a es.1 fs.1)

pub late_kind : (k : Kind) (items : List Item) (a : Operation) → is_store k ≡ false → late items Load a ≡ false → (writes k ≡ true → late items Store a ≡ false) → late items k a ≡ false
late_kind Load items a s e f = e
late_kind Store items a s e f = absurd (true≢false s)
late_kind Lr items a s e f = late_same items Lr Load a lr_as_load e
late_kind Sc items a s e f = late_same items Sc Store a sc_as_store (f refl)
late_kind Amo items a s e f = late_amo items a e (f refl)

-- ---- the rules of two operations of the hart h

pub precedes_not : (a b : Operation) → (b.hart ≡ a.hart → b.place ≤ a.place) → precedes a b ≡ false
precedes_not a b h = go (nat_eq a.hart b.hart) refl
  where
    go : (c : Bool) → nat_eq a.hart b.hart ≡ c → precedes a b ≡ false
    go true e = and_right (nat_eq a.hart b.hart) _ (le-ltb a.place b.place (h (sym (eqb-true a.hart b.hart e))))
    go false e = and_left (nat_eq a.hart b.hart) _ e

pub precedes_yes : (a b : Operation) → a.hart ≡ b.hart → a.place < b.place → precedes a b ≡ true
precedes_yes a b e l = and_from _ _ (eq-eqb a.hart b.hart e) (lt-ltb a.place b.place l)

-- what must hold a store back: rules 1, 4 and 6; anything else is performed as it retires, so it is held back whatever the rules say
abbrev pub holds_back : MemoryModel → List Item → Operation → Operation → Bool
holds_back model items a b = (writes b.kind && overlap a b) || (fenced items a b || has_release model b)

abbrev pub must : MemoryModel → ℕ → List Item → Operation → Operation → Bool
must model h items a b = (nat_eq a.hart h && precedes a b) && (not (is_store a.kind) || holds_back model items a b)

pub must_not_after : (model : MemoryModel) (h : ℕ) (items : List Item) (a b : Operation) → precedes a b ≡ false → must model h items a b ≡ false
must_not_after model h items a b e = and_left _ _ (and_right (nat_eq a.hart h) _ e)

and_if : (c x y : Bool) → (c ≡ true → x ≡ false → y ≡ false) → (c && x) ≡ false → (c && y) ≡ false
and_if true x y f h = f refl h
and_if false x y f h = refl

pub must-more : (model : MemoryModel) (h : ℕ) (items : List Item) (m : Item) (a b : Operation) → (b.hart ≡ h → b.place ≤ m.place) → must model h items a b ≡ false → must model h (items ++ m ∷ []) a b ≡ false
must-more model h items m a b below =
    and_if (nat_eq a.hart h && precedes a b) (not (is_store a.kind) || holds_back model items a b) (not (is_store a.kind) || holds_back model (items ++ m ∷ []) a b)
    (λ mine e. let e1 = and_parts (nat_eq a.hart h) (precedes a b) mine in
    let e2 = and_parts (nat_eq a.hart b.hart) (nat_lt a.place b.place) e1.1 in
    let there : b.hart ≡ h = sym (eqb-true a.hart b.hart e2.0) ∙ eqb-true a.hart h e1.0 in
    ap (λ c. not (is_store a.kind) || ((writes b.kind && overlap a b) || (c || has_release model b))) (fenced-more items m a b (below there)) ∙ e)

-- a store that nothing holds back
pub must_free : (model : MemoryModel) (h : ℕ) (items : List Item) (a b : Operation) → a.kind ≡ Store → (writes b.kind && overlap a b) ≡ false → fenced items a b ≡ false → has_release model b ≡ false → must model h items a b ≡ false
must_free model h items a b s o f r = and_right (nat_eq a.hart h && precedes a b) _ (or_from _ _ (ap (λ k. not (is_store k)) s) (or_from _ _ o (or_from _ _ f r)))

-- ---- the thirteen rules come down to these three where the earlier one is a plain store

-- no annotation, and no register that its instruction writes
pub record IsQuiet (items : List Item) (a : Operation) : Type 0 where
  pub no_acquire : a.aq ≡ false
  pub no_release : a.rl ≡ false
  pub writes_none : (uses_at items a).written ≡ []

abbrev Clear : List Bool → Type 0
Clear held = Each (λ b. b ≡ false) held

clear_all : (n : ℕ) → Clear (replicate n false)
clear_all zero = tt
clear_all (suc n) = (refl, clear_all n)

clear_at : (held : List Bool) (r : ℕ) → Clear held → slice_index_or held r false ≡ false
clear_at [] r c = refl
clear_at (b ∷ held) zero c = c.0
clear_at (b ∷ held) (suc r) c = clear_at held r c.1

clear_set : (held : List Bool) (r : ℕ) (flag : Bool) → flag ≡ false → Clear held → Clear (slice_set held r flag)
clear_set [] r flag e c = tt
clear_set (b ∷ held) zero flag e c = (e, c.1)
clear_set (b ∷ held) (suc r) flag e c = (c.0, clear_set held r flag e c.1)

clear_holds : (held : List Bool) (rs : List ℕ) → Clear held → holds held rs ≡ false
clear_holds held [] c = refl
clear_holds held (r ∷ rs) c = or_from _ _ (clear_at held r c) (clear_holds held rs c)

clear_with : (held : List Bool) (flag : Bool) (rs : List ℕ) → flag ≡ false → Clear held → Clear (with_flags held flag rs)
clear_with held flag [] e c = c
clear_with held flag (r ∷ rs) e c = clear_with (slice_set held r flag) flag rs e (clear_set held r flag e c)

clear_after : (held : List Bool) (u : Uses) → Clear held → Clear (held_after held u)
clear_after held u c = clear_with held (holds held (sources u)) u.written (clear_holds held (sources u) c) c

clear_behind : (held : List Bool) (ms : List Item) → Clear held → Clear (held_behind held ms)
clear_behind held [] c = c
clear_behind held (m ∷ ms) c = clear_behind (held_after held (uses_in m.instr)) ms (clear_after held (uses_in m.instr) c)

steers_none : (held : List Bool) (ms : List Item) → Clear held → any_steers held ms ≡ false
steers_none held [] c = refl
steers_none held (m ∷ ms) c = or_from _ _ (and_right (steers m.instr) _ (clear_holds held (sources (uses_in m.instr)) c)) (steers_none (held_after held (uses_in m.instr)) ms (clear_after held (uses_in m.instr) c))

addresses_none : (held : List Bool) (ms : List Item) → Clear held → any_addresses held ms ≡ false
addresses_none held [] c = refl
addresses_none held (m ∷ ms) c = or_from _ _ (clear_holds held (uses_in m.instr).address c) (addresses_none (held_after held (uses_in m.instr)) ms (clear_after held (uses_in m.instr) c))

first_clear : (items : List Item) (a : Operation) → (uses_at items a).written ≡ [] → Clear (held_first (uses_at items a))
first_clear items a e = subst (λ ws. Clear (with_flags (replicate 32 false) true ws)) (sym e) (clear_all 32)

no_dependency : (items : List Item) (a b : Operation) → (uses_at items a).written ≡ [] → (has_address_dependency items a b ≡ false) × (has_data_dependency items a b ≡ false)
no_dependency items a b e =
    let c = clear_behind (held_first (uses_at items a)) (between items a b) (first_clear items a e) in
    (and_right (precedes a b) _ (clear_holds (held_at items a b) (uses_at items b).address c), and_right (precedes a b) _ (clear_holds (held_at items a b) (uses_at items b).stored c))

store_alone : (k : Kind) → k ≡ Store → (reads k ≡ false) × (is_amo k || is_sc k) ≡ false × (is_lr k ≡ false) × (is_amo k ≡ false)
store_alone k e = (ap reads e, ap (λ j. is_amo j || is_sc j) e, ap is_lr e, ap is_amo e)

quiet_acquire : (model : MemoryModel) (a : Operation) → a.kind ≡ Store → a.aq ≡ false → has_acquire model a ≡ false
quiet_acquire Rvwmo a s e = e
quiet_acquire Ztso a s e = or_from a.aq (reads a.kind) e (ap reads s)

quiet_rcsc : (model : MemoryModel) (a : Operation) → a.kind ≡ Store → a.aq ≡ false → a.rl ≡ false → has_rcsc model a ≡ false
quiet_rcsc Rvwmo a s e f = or_from a.aq a.rl e f
quiet_rcsc Ztso a s e f = or_from (a.aq || a.rl) (is_amo a.kind) (or_from a.aq a.rl e f) (ap is_amo s)

none_passed : (items : List Item) (order : List Operation) (a b : Operation) → (uses_at items a).written ≡ [] → (o : Option Operation) → passes_on items order a b o ≡ false
none_passed items order a b e None = refl
none_passed items order a b e (Some m) =
    let d = no_dependency items a m e in and_left _ _ (and_right (writes m.kind) _ (or_from _ _ d.0 d.1))

-- one of the rules asks it
abbrev pub asked : MemoryModel → List Item → List Operation → Operation → Operation → Bool
asked model items order a b = list_any (λ (r : Rule). r.asks model items order a b) rules

pub asked_store : (model : MemoryModel) (items : List Item) (order : List Operation) (a b : Operation) → a.kind ≡ Store → IsQuiet items a → holds_back model items a b ≡ false → asked model items order a b ≡ false
asked_store model items order a b s q free =
    let f1 = or_parts (writes b.kind && overlap a b) _ free in
    let f2 = or_parts (fenced items a b) _ f1.1 in
    let k = store_alone a.kind s in
    let d = no_dependency items a b q.writes_none in
    let clear = first_clear items a q.writes_none in
    or_from _ _ f1.0 (
    or_from (rule_2 items order a b) _ (and_left _ _ (and_left (reads a.kind) (reads b.kind) k.0)) (
    or_from (rule_3 order a b) _ (and_left _ _ (and_left (is_amo a.kind || is_sc a.kind) (reads b.kind) k.1)) (
    or_from _ _ f2.0 (
    or_from _ _ (quiet_acquire model a s q.no_acquire) (
    or_from _ _ f2.1 (
    or_from (rule_7 model a b) _ (and_left _ _ (quiet_rcsc model a s q.no_acquire q.no_release)) (
    or_from (rule_8 items a b) _ (and_left _ _ (and_left _ _ (and_right (precedes a b) _ k.2))) (
    or_from _ _ d.0 (
    or_from _ _ d.1 (
    or_from (rule_11 items a b) _ (and_right (writes b.kind) _ (and_right (precedes a b) _ (steers_none _ (between items a b) clear))) (
    or_from (rule_12 items order a b) _ (and_right (reads b.kind) _ (none_any (λ (m : Item). passes_on items order a b m.operation) (λ m. none_passed items order a b q.writes_none m.operation) (between items a b))) (
    or_from (rule_13 items a b) _ (and_right (writes b.kind) _ (and_right (precedes a b) _ (addresses_none _ (between items a b) clear))) refl))))))))))))

pub preserved_from : (model : MemoryModel) (h : ℕ) (items : List Item) (order : List Operation) (a b : Operation) → a.hart ≡ h → (a.kind ≡ Store → IsQuiet items a) → must model h items a b ≡ false → (precedes a b && asked model items order a b) ≡ false
preserved_from model h items order a b mine quiet free = at_kind a.kind refl
  where
    held : (not (is_store a.kind) || holds_back model items a b) ≡ true → (precedes a b && asked model items order a b) ≡ false
    held g = and_left (precedes a b) _ (false_from_ne_true (precedes a b) (λ t. false≢true (sym free ∙ and_from _ _ (and_from _ _ (eq-eqb a.hart h mine) t) g)))

    no_store : is_store a.kind ≡ false → (precedes a b && asked model items order a b) ≡ false
    no_store e = held (or_left _ _ (ap (λ c. not c) e))

    at_store : (c : Bool) → holds_back model items a b ≡ c → a.kind ≡ Store → (precedes a b && asked model items order a b) ≡ false
    at_store false e s = and_right (precedes a b) _ (asked_store model items order a b s (quiet s) e)
    at_store true e s = held (or_right (not (is_store a.kind)) _ e)

    at_kind : (k : Kind) → a.kind ≡ k → (precedes a b && asked model items order a b) ≡ false
    at_kind Load e = no_store (ap is_store e)
    at_kind Store e = at_store (holds_back model items a b) refl e
    at_kind Lr e = no_store (ap is_store e)
    at_kind Sc e = no_store (ap is_store e)
    at_kind Amo e = no_store (ap is_store e)

-- ---- words

-- all its bytes lie in one word
abbrev pub InWord : Operation → Type 0
InWord a = a.address % 4 + a.size ≤ 4

pub apart : (a b : Operation) → InWord a → InWord b → (word_of a.address ≡ word_of b.address → ⊥) → overlap a b ≡ false
apart a b fa fb ne = false_from_ne_true (overlap a b) (λ e.
    let es = and_parts (nat_lt a.address (b.address + b.size)) (nat_lt b.address (a.address + a.size)) e in
    let l1 = ltb-true a.address (b.address + b.size) es.0 in
    let l2 = ltb-true b.address (a.address + a.size) es.1 in
    ne (omega (arith, l1, l2, fa, fb)))

-- a byte of an operation lies in its word
pub touches_word : (x : ℕ) (a : Operation) → InWord a → touches x a ≡ true → word_of x ≡ word_of a.address
touches_word x a f e =
    let es = and_parts (nat_le a.address x) (nat_lt x (a.address + a.size)) e in
    let l1 = leb-true a.address x es.0 in
    let l2 = ltb-true x (a.address + a.size) es.1 in
    omega (arith, l1, l2, f)
