-- A legal order, split at what is placed next.
use Rattle.std.proofs.Common.{◌≡◌, ℕ, suc, ◌+◌, ◌<◌, ◌≤◌, List, [], ◌∷◌, ◌++◌, Bool, true, false, Option, Some, None, refl, cond, sym, ap, ◌∙◌, not, ◌&&◌, ◌||◌, ◌⊎◌, inl, inr, arith, subst}
use Rattle.std.specs.Prelude.{filter, nat_eq, nat_le, nat_lt, slice_get}
use Rattle.std.specs.List.{AllByRecursion as Each, last_or, list_all}
use Rattle.std.proofs.lemmas.Bool.{false≢true, and_from, and_parts, eq-eqb, eqb-true, leb-true, lt-ltb, ltb-true}
use Rattle.std.proofs.lemmas.Option.{none-some, same_Some}
use Rattle.machine_types.specs.declared.model.MemoryModel.{MemoryModel}
use Rattle.memory_model.specs.declared.operation.Operation.{Operation}
use Rattle.memory_model.specs.Apart.{IsKeptFor}
use Rattle.memory_model.specs.Items.{Item}
use Rattle.memory_model.specs.Legal.{returns_sources}
use Rattle.memory_model.specs.Operations.{addresses_of, precedes, read_at, reads, same, stores_to, touches}
use Rattle.memory_model.specs.Order.{before, byte_from, candidates, position_in, same_source, source}
use Rattle.memory_model.specs.Rules.{items_of, paired, preserved}
use Rattle.memory_model.proofs.Forms.{Ordered, place_head, place_tail, same-self, same-swap}
use Rattle.memory_model.proofs.Lists.{Each-at, Each-from, Member, Pairwise, Split, split_at}
use Rattle.memory_model.proofs.Named.{EachOnce}
use Rattle.trace_operations.specs.Placed.{IsPlaced}
use Rattle.window_model.proofs.following.Kept.{IsOwn}
use Rattle.window_model.proofs.following.Last.{all_addresses}
use Rattle.window_model.proofs.following.Rules.{asks}

-- what is used of a legal order of all harts' operations
pub record Legal (model : MemoryModel) (image : ℕ → ℕ) (all : List (List Item)) (whole : List Operation) : Type 0 where
  pub once : EachOnce whole
  pub ordered : Ordered (preserved model all whole) whole
  pub values : (a : Operation) → Member a whole → returns_sources image whole a ≡ true
  pub atomic : (r w : Operation) (x : ℕ) → Member r whole → Member w whole → paired (items_of all r.hart) r w ≡ true → touches x r ≡ true → IsKeptFor whole r w x
  pub own : (a : Operation) → Member a whole → IsOwn (items_of all a.hart) a.hart (suc a.place) a
  pub every : (h k : ℕ) (m : Item) (a : Operation) → slice_get (items_of all h) k ≡ Some m → m.operation ≡ Some a → Member a whole × (a.hart ≡ h) × (a.place ≡ k)
  pub placed : (h : ℕ) → IsPlaced 0 (items_of all h)

-- ---- members

pub member_left : {X : Type 0} (a : X) (xs ys : List X) → Member a xs → Member a (xs ++ ys)
member_left a [] ys m = absurd m
member_left a (x ∷ xs) ys (inl e) = inl e
member_left a (x ∷ xs) ys (inr m) = inr (member_left a xs ys m)

pub member_right : {X : Type 0} (a : X) (xs ys : List X) → Member a ys → Member a (xs ++ ys)
member_right a [] ys m = m
member_right a (x ∷ xs) ys m = inr (member_right a xs ys m)

pub member_parts : {X : Type 0} (a : X) (xs ys : List X) → Member a (xs ++ ys) → Member a xs ⊎ Member a ys
member_parts a [] ys m = inr m
member_parts a (x ∷ xs) ys (inl e) = inl (inl e)
member_parts a (x ∷ xs) ys (inr m) = go (member_parts a xs ys m)
  where
    go : Member a xs ⊎ Member a ys → Member a (x ∷ xs) ⊎ Member a ys
    go (inl l) = inl (inr l)
    go (inr r) = inr r

pub member_filter : {X : Type 0} (test : X → Bool) (xs : List X) (a : X) → Member a (filter test xs) → Member a xs × (test a ≡ true)
member_filter test [] a m = absurd m
member_filter test (x ∷ xs) a m = go (test x) refl m (member_filter test xs a)
  where
    go : (b : Bool) → test x ≡ b → Member a (cond b (x ∷ filter test xs) (filter test xs)) → (Member a (filter test xs) → Member a xs × (test a ≡ true)) → Member a (x ∷ xs) × (test a ≡ true)
    go true e (inl f) later = (inl f, ap test f ∙ e)
    go true e (inr k) later = let h = later k in (inr h.0, h.1)
    go false e k later = let h = later k in (inr h.0, h.1)

pub member_last : {X : Type 0} (o : Option X) (xs : List X) (a : X) → last_or o xs ≡ Some a → Member a xs ⊎ (o ≡ Some a)
member_last o [] a e = inr e
member_last o (x ∷ xs) a e = go (member_last (Some x) xs a e)
  where
    go : Member a xs ⊎ (Some x ≡ Some a) → Member a (x ∷ xs) ⊎ (o ≡ Some a)
    go (inl m) = inl (inr m)
    go (inr f) = inl (inl (sym (same_Some x a f)))

across : {X : Type 0} (R : X → X → Type 0) (xs ys : List X) (x y : X) → Pairwise R (xs ++ ys) → Member x xs → Member y ys → R x y
across R [] ys x y h m n = absurd m
across R (z ∷ xs) ys x y h (inl e) n = Each-at (R x) y (xs ++ ys) (subst (λ c. Each (R c) (xs ++ ys)) (sym e) h.0) (member_right y xs ys n)
across R (z ∷ xs) ys x y h (inr m) n = across R xs ys x y h.1 m n

-- ---- what stands behind does not precede

pub behind_free : (model : MemoryModel) (all : List (List Item)) (whole front back : List Operation) → Ordered (preserved model all whole) whole → whole ≡ front ++ back → (d c : Operation) → Member d front → Member c back → preserved model all whole c d ≡ false
behind_free model all whole front back h e d c m n = across (λ a b. preserved model all whole b a ≡ false) front back d c (subst (Pairwise (λ a b. preserved model all whole b a ≡ false)) e h) m n

pub not_behind : (model : MemoryModel) (all : List (List Item)) (whole front back : List Operation) → Ordered (preserved model all whole) whole → whole ≡ front ++ back → (d c : Operation) → Member d front → Member c back → precedes c d ≡ true → asks model (items_of all c.hart) whole c d ≡ true → ⊥
not_behind model all whole front back h e d c m n p t = false≢true (sym (behind_free model all whole front back h e d c m n) ∙ and_from (precedes c d) (asks model (items_of all c.hart) whole c d) p t)

pub apart : (whole front back : List Operation) → EachOnce whole → whole ≡ front ++ back → (d c : Operation) → Member d front → Member c back → same d c ≡ false
apart whole front back h e d c m n = across (λ a b. same a b ≡ false) front back d c (subst (Pairwise (λ a b. same a b ≡ false)) e h) m n

same_swapped : (a b : Operation) → same a b ≡ true → same b a ≡ true
same_swapped a b e = let s = and_parts (nat_eq a.hart b.hart) (nat_eq a.place b.place) e in and_from (nat_eq b.hart a.hart) (nat_eq b.place a.place) (eq-eqb b.hart a.hart (sym (eqb-true a.hart b.hart s.0))) (eq-eqb b.place a.place (sym (eqb-true a.place b.place s.1)))

-- an operation is named once
pub same_is : (xs : List Operation) (s t : Operation) → EachOnce xs → Member s xs → Member t xs → same s t ≡ true → s ≡ t
same_is [] s t h m n e = absurd m
same_is (x ∷ xs) s t h (inl f) (inl g) e = f ∙ sym g
same_is (x ∷ xs) s t h (inl f) (inr n) e = absurd (false≢true (sym (Each-at (λ c. same x c ≡ false) t xs h.0 n) ∙ (ap (λ c. same c t) (sym f) ∙ e)))
same_is (x ∷ xs) s t h (inr m) (inl g) e = absurd (false≢true (sym (Each-at (λ c. same x c ≡ false) s xs h.0 m) ∙ (ap (λ c. same c s) (sym g) ∙ same_swapped s t e)))
same_is (x ∷ xs) s t h (inr m) (inr n) e = same_is xs s t h.1 m n e

-- ---- sources

abbrev pub is_own_store : Operation → ℕ → Operation → Bool
is_own_store a x t = stores_to x t && precedes t a

candidates_at : (front : List Operation) (a : Operation) (back : List Operation) (x : ℕ) → Each (λ (s : Operation). same s a ≡ false) front → candidates (front ++ a ∷ back) a x ≡ filter (stores_to x) front ++ filter (is_own_store a x) back
candidates_at [] a back x h = ap (λ b. cond b (filter (is_own_store a x) back) (cond (stores_to x a) (a ∷ candidates back a x) (candidates back a x))) (same-self a)
candidates_at (s ∷ front) a back x h =
    ap (λ b. cond b (filter (is_own_store a x) (front ++ a ∷ back)) (cond (stores_to x s) (s ∷ candidates (front ++ a ∷ back) a x) (candidates (front ++ a ∷ back) a x))) h.0
    ∙ go (stores_to x s) (candidates_at front a back x h.1)
  where
    go : (b : Bool) → candidates (front ++ a ∷ back) a x ≡ filter (stores_to x) front ++ filter (is_own_store a x) back
        → cond b (s ∷ candidates (front ++ a ∷ back) a x) (candidates (front ++ a ∷ back) a x) ≡ cond b (s ∷ filter (stores_to x) front) (filter (stores_to x) front) ++ filter (is_own_store a x) back
    go true ih = ap (λ ys. s ∷ ys) ih
    go false ih = ih

-- the last store before a, or the last own one behind it that precedes it in the program
pub source_at : (whole front : List Operation) (a : Operation) (back : List Operation) (x : ℕ) → EachOnce whole → whole ≡ front ++ a ∷ back → source whole a x ≡ last_or None (filter (stores_to x) front ++ filter (is_own_store a x) back)
source_at whole front a back x h e =
    ap (λ ws. source ws a x) e
    ∙ ap (last_or None) (candidates_at front a back x (Each-from (λ (s : Operation). same s a ≡ false) front (λ s m. apart whole front (a ∷ back) h e s a m (inl refl))))

-- ---- values

pub touched : (x : ℕ) (a : Operation) → touches x a ≡ true → (a.address ≤ x) × (x < a.address + a.size)
touched x a e = let s = and_parts (nat_le a.address x) (nat_lt x (a.address + a.size)) e in (leb-true a.address x s.0, ltb-true x (a.address + a.size) s.1)

pub value_at : (model : MemoryModel) (image : ℕ → ℕ) (all : List (List Item)) (whole : List Operation) → Legal model image all whole → (a : Operation) (x : ℕ) → Member a whole → reads a.kind ≡ true → touches x a ≡ true → read_at a x ≡ byte_from image x (source whole a x)
value_at model image all whole h a x m r t =
    let inside = touched x a t in
    eqb-true (read_at a x) (byte_from image x (source whole a x)) (all_addresses (λ y. nat_eq (read_at a y) (byte_from image y (source whole a y))) a.address a.size x (go (reads a.kind) r (h.values a m)) inside.0 inside.1)
  where
    tests : Bool
    tests = list_all (λ y. nat_eq (read_at a y) (byte_from image y (source whole a y))) (addresses_of a)

    go : (b : Bool) → b ≡ true → (not b || tests) ≡ true → tests ≡ true
    go true e f = f
    go false e f = absurd (false≢true e)

-- a source is an operation of the order
pub source_in : (whole : List Operation) (a s : Operation) (x : ℕ) → EachOnce whole → Member a whole → source whole a x ≡ Some s → Member s whole
source_in whole a s x h m e = go (member_last None (filter (stores_to x) p.front ++ filter (is_own_store a x) p.back) s (sym (source_at whole p.front a p.back x h p.joined) ∙ e))
  where
    p : Split a whole
    p = split_at a whole m

    inside : Member s (p.front ++ a ∷ p.back) → Member s whole
    inside n = subst (Member s) (sym p.joined) n

    go : Member s (filter (stores_to x) p.front ++ filter (is_own_store a x) p.back) ⊎ (None ≡ Some s) → Member s whole
    go (inr f) = absurd (none-some s f)
    go (inl n) = parts (member_parts s (filter (stores_to x) p.front) (filter (is_own_store a x) p.back) n)
      where
        parts : Member s (filter (stores_to x) p.front) ⊎ Member s (filter (is_own_store a x) p.back) → Member s whole
        parts (inl f) = inside (member_left s p.front (a ∷ p.back) (member_filter (stores_to x) p.front s f).0)
        parts (inr b) = inside (member_right s p.front (a ∷ p.back) (inr (member_filter (is_own_store a x) p.back s b).0))

-- two sources of one name are one
pub same_sources : (whole : List Operation) (o q : Option Operation) → EachOnce whole → ((s : Operation) → o ≡ Some s → Member s whole) → ((s : Operation) → q ≡ Some s → Member s whole) → same_source o q ≡ true → o ≡ q
same_sources whole None None h f g e = refl
same_sources whole None (Some t) h f g e = absurd (false≢true e)
same_sources whole (Some s) None h f g e = absurd (false≢true e)
same_sources whole (Some s) (Some t) h f g e = ap (λ u. Some u) (same_is whole s t h (f s refl) (g t refl) e)

-- what stands in front stands before what stands behind
places_before : (front back : List Operation) (d c : Operation) → EachOnce (front ++ back) → Member d front → Member c back → position_in (front ++ back) d < position_in (front ++ back) c
places_before [] back d c h m n = absurd m
places_before (x ∷ front) back d c h (inl e) n =
    let f = same-swap x c (Each-at (λ o. same x o ≡ false) c (front ++ back) h.0 (member_right c front back n)) in
    let z = place_head d x (front ++ back) (ap (λ o. same o x) e ∙ same-self x) in
    let t = place_tail c x (front ++ back) f in
    omega (arith, z, t)
places_before (x ∷ front) back d c h (inr m) n =
    let fc = same-swap x c (Each-at (λ o. same x o ≡ false) c (front ++ back) h.0 (member_right c front back n)) in
    let fd = same-swap x d (Each-at (λ o. same x o ≡ false) d (front ++ back) h.0 (member_left d front back m)) in
    let tc = place_tail c x (front ++ back) fc in
    let td = place_tail d x (front ++ back) fd in
    let ih = places_before front back d c h.1 m n in
    omega (arith, tc, td, ih)

pub stands_before : (whole front back : List Operation) → EachOnce whole → whole ≡ front ++ back → (d c : Operation) → Member d front → Member c back → before whole d c ≡ true
stands_before whole front back h e d c m n =
    ap (λ ws. before ws d c) e ∙ lt-ltb (position_in (front ++ back) d) (position_in (front ++ back) c) (places_before front back d c (subst EachOnce e h) m n)
