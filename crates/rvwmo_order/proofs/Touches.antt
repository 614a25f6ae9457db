-- What a walk keeps of a byte weighs at least as much as each access to it that a rule asks for.
use Rattle.std.proofs.Common.{◌≡◌, ℕ, ◌<◌, ◌≤◌, max, List, [], ◌∷◌, ◌++◌, Bool, true, false, Option, Some, None, refl, cond, sym, ap, ◌∙◌, ◌&&◌, arith, take}
use Rattle.std.specs.Prelude.{◌==◌, nat_lt, slice_get}
use Rattle.std.specs.List.{list_any}
use Rattle.std.specs.Option.{option_map_or}
use Rattle.std.proofs.lemmas.Bool.{eqb-true, ltb-false, ltb-true, or_parts, true≢false}
use Rattle.memory_model.specs.declared.operation.Operation.{Operation}
use Rattle.memory_model.specs.Dependencies.{between}
use Rattle.memory_model.specs.Items.{Item}
use Rattle.memory_model.specs.Operations.{reads, touches, writes}
use Rattle.memory_model.specs.Order.{source}
use Rattle.rvwmo_order.specs.Ranks.{rank_of}
use Rattle.memory_model.specs.Rules.{has_store_to}
use Rattle.trace_operations.specs.Placed.{IsPlaced}
use Rattle.rvwmo_order.specs.Touched.{but, loaded, read, stored, touch_after, touch_behind, touched, untouched, with_all}
use Rattle.rvwmo_order.specs.declared.bounds.touched.Touch.{Touch}
use Rattle.rvwmo_order.proofs.Parted.{parted}

-- ---- ranks of sources

elsewhere : (r s t : ℕ) → (r == s) ≡ true → (s == t) ≡ false → (r == t) ≡ false
elsewhere r s t e f = ap (λ (n : ℕ). n == t) (eqb-true r s e) ∙ f

-- ---- loads

-- a load of this weight, which returns the byte from there, is among those kept
pub record Led (from : ℕ) (n : ℕ) (t : Touch) : Type 0 where
  pub most : n ≤ t.loads
  pub apart : (k : ℕ) → (from == k) ≡ false → n ≤ but k t

led_own : (from : ℕ) (n : ℕ) (t : Touch) → Led from n (loaded from n t)
led_own from n t = go (t.source == from) refl (nat_lt t.loads n) refl
  where
    Kept : Bool → Bool → Touch
    Kept b c = cond b (record { all = t.all; loads = max t.loads n; source = t.source; others = t.others }) (cond c (record { all = t.all; loads = n; source = from; others = t.loads }) (record { all = t.all; loads = t.loads; source = t.source; others = max t.others n }))

    go : (b : Bool) → (t.source == from) ≡ b → (c : Bool) → nat_lt t.loads n ≡ c → Led from n (Kept b c)
    go true e c f = record { most = omega arith; apart = λ k d. rw (elsewhere t.source from k e d) (omega arith) }
    go false e true f = record { most = omega arith; apart = λ k d. rw d (omega arith) }
    go false e false f = let l = ltb-false t.loads n f in record { most = omega (arith, l); apart = λ k d. either (t.source == k) l }
      where
        either : (b : Bool) → n ≤ t.loads → n ≤ cond b (max t.others n) t.loads
        either true l = omega arith
        either false l = omega (arith, l)

led_kept : (from other : ℕ) (n own : ℕ) (t : Touch) → Led from n t → Led from n (loaded other own t)
led_kept from other n own t h = go (t.source == other) refl (nat_lt t.loads own) refl
  where
    Kept : Bool → Bool → Touch
    Kept b c = cond b (record { all = t.all; loads = max t.loads own; source = t.source; others = t.others }) (cond c (record { all = t.all; loads = own; source = other; others = t.loads }) (record { all = t.all; loads = t.loads; source = t.source; others = max t.others own }))

    go : (b : Bool) → (t.source == other) ≡ b → (c : Bool) → nat_lt t.loads own ≡ c → Led from n (Kept b c)
    go true e c f = record { most = let l = h.most in omega (arith, l); apart = λ k d. either (t.source == k) (h.apart k d) }
      where
        either : (b : Bool) → n ≤ cond b t.others t.loads → n ≤ cond b t.others (max t.loads own)
        either true l = l
        either false l = omega (arith, l)
    go false e true f = let l = h.most in let g = ltb-true t.loads own f in record { most = omega (arith, l, g); apart = λ k d. either (other == k) l g }
      where
        either : (b : Bool) → n ≤ t.loads → t.loads < own → n ≤ cond b t.loads own
        either true l g = l
        either false l g = omega (arith, l, g)
    go false e false f = record { most = h.most; apart = λ k d. either (t.source == k) (h.apart k d) }
      where
        either : (b : Bool) → n ≤ cond b t.others t.loads → n ≤ cond b (max t.others own) t.loads
        either true l = omega (arith, l)
        either false l = l

led_all : (from : ℕ) (n own : ℕ) (t : Touch) → Led from n t → Led from n (with_all own t)
led_all from n own t h = record { most = h.most; apart = h.apart }

led_read : (order : List Operation) (x : ℕ) (from : ℕ) (n own : ℕ) (a : Operation) (t : Touch) → Led from n t → Led from n (read order x own a t)
led_read order x from n own a t h = go (reads a.kind)
  where
    go : (b : Bool) → Led from n (cond b (loaded (rank_of order (source order a x)) own t) t)
    go true = led_kept from (rank_of order (source order a x)) n own t h
    go false = h

-- an operation that stores nothing to the byte leaves them
led_after : (order : List Operation) (x : ℕ) (from : ℕ) (n own : ℕ) (o : Option Operation) (t : Touch) → has_store_to x o ≡ false → Led from n t → Led from n (option_map_or (λ (a : Operation). cond (touches x a) (touched order x own a t) t) o t)
led_after order x from n own None t e h = h
led_after order x from n own (Some a) t e h = go (touches x a) (writes a.kind) e
  where
    go : (b w : Bool) → (w && b) ≡ false → Led from n (cond b (with_all own (read order x own a (cond w (record { all = t.all; loads = 0; source = 0; others = 0 }) t))) t)
    go false w e = h
    go true true e = absurd (true≢false e)
    go true false e = led_all from n own (read order x own a t) (led_read order x from n own a t h)

led_behind : (order : List Operation) (x : ℕ) (own : Item → ℕ) (from : ℕ) (n : ℕ) (t : Touch) (ms : List Item) → list_any (λ (m : Item). has_store_to x m.operation) ms ≡ false → Led from n t → Led from n (touch_behind order x own t ms)
led_behind order x own from n t [] e h = h
led_behind order x own from n t (m ∷ rest) e h =
    let p = or_parts (has_store_to x m.operation) (list_any (λ (m : Item). has_store_to x m.operation) rest) e in
    led_behind order x own from n (touch_after order x (own m) m t) rest p.1 (led_after order x from n (own m) m.operation t p.0 h)

-- ---- all accesses

kept_all : (b : Bool) (n : ℕ) (t u : Touch) → t.all ≡ n → u.all ≡ n → (cond {A = Touch} b t u).all ≡ n
kept_all true n t u e f = e
kept_all false n t u e f = f

all_loaded : (from : ℕ) (own : ℕ) (t : Touch) → (loaded from own t).all ≡ t.all
all_loaded from own t = kept_all (t.source == from) t.all _ _ refl (kept_all (nat_lt t.loads own) t.all _ _ refl refl)

all_read : (order : List Operation) (x own : ℕ) (a : Operation) (t : Touch) → (read order x own a t).all ≡ t.all
all_read order x own a t = kept_all (reads a.kind) t.all (loaded (rank_of order (source order a x)) own t) t (all_loaded (rank_of order (source order a x)) own t) refl

all_stored : (a : Operation) (t : Touch) → (stored a.kind t).all ≡ t.all
all_stored a t = kept_all (writes a.kind) t.all _ t refl refl

all_touched : (order : List Operation) (x own : ℕ) (a : Operation) (t : Touch) → (touched order x own a t).all ≡ max t.all own
all_touched order x own a t = ap (λ (n : ℕ). max n own) (all_read order x own a (stored a.kind t) ∙ all_stored a t)

all_after : (order : List Operation) (x own : ℕ) (o : Option Operation) (t : Touch) → t.all ≤ (option_map_or (λ (a : Operation). cond (touches x a) (touched order x own a t) t) o t).all
all_after order x own None t = omega arith
all_after order x own (Some a) t = go (touches x a)
  where
    go : (b : Bool) → t.all ≤ (cond {A = Touch} b (touched order x own a t) t).all
    go true = let e = all_touched order x own a t in omega (arith, e)
    go false = omega arith

all_behind : (order : List Operation) (x : ℕ) (own : Item → ℕ) (t : Touch) (ms : List Item) → t.all ≤ (touch_behind order x own t ms).all
all_behind order x own t [] = omega arith
all_behind order x own t (m ∷ rest) = let first = all_after order x (own m) m.operation t in let ih = all_behind order x own (touch_after order x (own m) m t) rest in omega (arith, first, ih)

-- ---- two operations of a hart's list

abbrev pub touch_at : List Operation → ℕ → (Item → ℕ) → List Item → ℕ → Touch
touch_at order x own items place = touch_behind order x own untouched (take place items)

pub touch_append : (order : List Operation) (x : ℕ) (own : Item → ℕ) (t : Touch) (xs ys : List Item) → touch_behind order x own t (xs ++ ys) ≡ touch_behind order x own (touch_behind order x own t xs) ys
touch_append order x own t [] ys = refl
touch_append order x own t (m ∷ rest) ys = touch_append order x own (touch_after order x (own m) m t) rest ys

first_is : (order : List Operation) (x : ℕ) (own : ℕ) (a : Operation) (m : Item) (t : Touch) → m.operation ≡ Some a → touches x a ≡ true → touch_after order x own m t ≡ touched order x own a t
first_is order x own a m t e h = ap (λ (o : Option Operation). option_map_or (λ (a : Operation). cond (touches x a) (touched order x own a t) t) o t) e ∙ ap (λ (b : Bool). cond b (touched order x own a t) t) h

touched_both : (order : List Operation) (x : ℕ) (own : Item → ℕ) (items : List Item) (a b : Operation) (m : Item) → IsPlaced 0 items → slice_get items a.place ≡ Some m → m.operation ≡ Some a → a.place < b.place → touches x a ≡ true
    → touch_at order x own items b.place ≡ touch_behind order x own (touched order x (own m) a (touch_at order x own items a.place)) (between items a b)
touched_both order x own items a b m p e o l h =
    ap (touch_behind order x own untouched) (parted items a b m p e l)
    ∙ (touch_append order x own untouched (take a.place items) (m ∷ between items a b)
    ∙ ap (λ (t : Touch). touch_behind order x own t (between items a b)) (first_is order x (own m) a m (touch_at order x own items a.place) o h))

pub access_touched : (order : List Operation) (x : ℕ) (own : Item → ℕ) (items : List Item) (a b : Operation) (m : Item) → IsPlaced 0 items → slice_get items a.place ≡ Some m → m.operation ≡ Some a → a.place < b.place → touches x a ≡ true → own m ≤ (touch_at order x own items b.place).all
access_touched order x own items a b m p e o l h =
    let first = all_touched order x (own m) a (touch_at order x own items a.place) in
    let later = all_behind order x own (touched order x (own m) a (touch_at order x own items a.place)) (between items a b) in
    let there = ap (λ (t : Touch). t.all) (touched_both order x own items a b m p e o l h) in
    omega (arith, first, later, there)

led_first : (order : List Operation) (x n : ℕ) (a : Operation) (t : Touch) → reads a.kind ≡ true → Led (rank_of order (source order a x)) n (touched order x n a t)
led_first order x n a t r = led_all (rank_of order (source order a x)) n n (read order x n a (stored a.kind t)) (go (reads a.kind) r)
  where
    go : (b : Bool) → b ≡ true → Led (rank_of order (source order a x)) n (cond b (loaded (rank_of order (source order a x)) n (stored a.kind t)) (stored a.kind t))
    go true e = led_own (rank_of order (source order a x)) n (stored a.kind t)
    go false e = absurd (true≢false (sym e))

pub load_touched : (order : List Operation) (x : ℕ) (own : Item → ℕ) (items : List Item) (a b : Operation) (m : Item) (k : ℕ) → IsPlaced 0 items → slice_get items a.place ≡ Some m → m.operation ≡ Some a → a.place < b.place → touches x a ≡ true → reads a.kind ≡ true
    → list_any (λ (m : Item). has_store_to x m.operation) (between items a b) ≡ false → (rank_of order (source order a x) == k) ≡ false → own m ≤ but k (touch_at order x own items b.place)
load_touched order x own items a b m k p e o l h r s d =
    let led = led_behind order x own (rank_of order (source order a x)) (own m) (touched order x (own m) a (touch_at order x own items a.place)) (between items a b) s (led_first order x (own m) a (touch_at order x own items a.place) r) in
    let at_most = led.apart k d in
    let there = ap (but k) (touched_both order x own items a b m p e o l h) in
    omega (arith, at_most, there)
