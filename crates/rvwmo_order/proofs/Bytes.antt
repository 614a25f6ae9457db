-- The bytes of a load by the ranks of the stores that they come from; tests of each byte, and operations that an order has.
use Rattle.std.proofs.Common.{◌≡◌, ℕ, zero, suc, ◌+◌, ◌-◌, ◌<◌, ◌≤◌, ◌/◌, ◌%◌, List, [], ◌∷◌, Bool, true, false, Option, Some, None, refl, cond, sym, subst, ap, ◌∙◌, ◌&&◌, ◌||◌, not, inl, inr, arith, length, drop, get_or, take}
use Rattle.std.specs.Prelude.{nat_eq, nat_le, nat_lt, slice_get, slice_index_or}
use Rattle.std.specs.List.{AllByRecursion, list_all, list_any, range_with_len}
use Rattle.std.proofs.lemmas.Bool.{and_parts, cases_lt, le-ltb, true≢false}
use Rattle.memory_model.specs.declared.operation.Operation.{Operation}
use Rattle.memory_model.specs.Items.{Item}
use Rattle.memory_model.specs.Operations.{addresses_of, read_at, reads, same, touches}
use Rattle.memory_model.specs.Order.{byte_from, position_in, same_source, source}
use Rattle.memory_model.specs.Legal.{is_atomic}
use Rattle.memory_model.specs.Rules.{returns_from}
use Rattle.memory_model.proofs.Forms.{place_head, place_tail, same-self, same-swap}
use Rattle.memory_model.proofs.Lists.{Member, Each-at, Each-from}
use Rattle.rvwmo_order.specs.Ranks.{AreDistinctOperations, AreIn, GivesRanks, HasRank, IsIn, rank_of, ranked}
use Rattle.rvwmo_order.specs.Scans.{differs, is_atomic_behind, returns_differently}
use Rattle.rvwmo_order.specs.Touched.{loaded, stored, touched, touched_from, with_all}
use Rattle.rvwmo_order.specs.declared.bounds.touched.Touch.{Touch}
use Rattle.rvwmo_order.proofs.Kept.{byte_ranked}
use Rattle.rvwmo_order.proofs.Ranks.{position_at, rank_known}

-- ---- tests of each byte

all_bytes : (f g : ℕ → Bool) (a n : ℕ) → ((x : ℕ) → a ≤ x → x < a + n → f x ≡ g x) → list_all f (range_with_len a n) ≡ list_all g (range_with_len a n)
all_bytes f g a zero h = refl
all_bytes f g a (suc n) h =
    ap (λ (b : Bool). b && list_all f (range_with_len (a + 1) n)) (h a (omega arith) (omega arith))
    ∙ ap (λ (b : Bool). g a && b) (all_bytes f g (a + 1) n (λ x l m. h x (omega (arith, l)) (omega (arith, m))))

any_bytes : (f g : ℕ → Bool) (a n : ℕ) → ((x : ℕ) → a ≤ x → x < a + n → f x ≡ g x) → list_any f (range_with_len a n) ≡ list_any g (range_with_len a n)
any_bytes f g a zero h = refl
any_bytes f g a (suc n) h =
    ap (λ (b : Bool). b || list_any f (range_with_len (a + 1) n)) (h a (omega arith) (omega arith))
    ∙ ap (λ (b : Bool). g a || b) (any_bytes f g (a + 1) n (λ x l m. h x (omega (arith, l)) (omega (arith, m))))

-- ---- by the ranks of a load's bytes

abbrev pub by_rank : List Operation → List ℕ → Operation → ℕ → Option Operation
by_rank order ranks a x = ranked order (slice_index_or ranks (x - a.address) 0)

pub source_ranked : (order : List Operation) (a : Operation) (ranks : List ℕ) (x : ℕ) → GivesRanks order a ranks → a.address ≤ x → x < a.address + a.size → by_rank order ranks a x ≡ source order a x
source_ranked order a ranks x g l m = (byte_ranked order a ranks x g l m).there

pub bytes_returned : (order : List Operation) (image : ℕ → ℕ) (a : Operation) (ranks : List ℕ) → GivesRanks order a ranks
    → list_all (λ x. nat_eq (read_at a x) (byte_from image x (by_rank order ranks a x))) (addresses_of a) ≡ list_all (λ x. nat_eq (read_at a x) (byte_from image x (source order a x))) (addresses_of a)
bytes_returned order image a ranks g =
    all_bytes (λ x. nat_eq (read_at a x) (byte_from image x (by_rank order ranks a x))) (λ x. nat_eq (read_at a x) (byte_from image x (source order a x))) a.address a.size
    (λ x l m. ap (λ (o : Option Operation). nat_eq (read_at a x) (byte_from image x o)) (source_ranked order a ranks x g l m))

pub atomic_ranked : (order : List Operation) (r w : Operation) (ranks : List ℕ) → GivesRanks order r ranks → list_all (λ x. is_atomic_behind order (by_rank order ranks r x) w x) (addresses_of r) ≡ is_atomic order r w
atomic_ranked order r w ranks g =
    all_bytes (λ x. is_atomic_behind order (by_rank order ranks r x) w x) (λ x. is_atomic_behind order (source order r x) w x) r.address r.size
    (λ x l m. ap (λ (o : Option Operation). is_atomic_behind order o w x) (source_ranked order r ranks x g l m))

pub returned_ranked : (order : List Operation) (b a : Operation) (ranks : List ℕ) → GivesRanks order b ranks → list_any (λ x. same_source (by_rank order ranks b x) (Some a)) (addresses_of b) ≡ returns_from order b a
returned_ranked order b a ranks g =
    any_bytes (λ x. same_source (by_rank order ranks b x) (Some a)) (λ x. same_source (source order b x) (Some a)) b.address b.size
    (λ x l m. ap (λ (o : Option Operation). same_source o (Some a)) (source_ranked order b ranks x g l m))

low_of : (m n : ℕ) → nat_le m n ≡ true → m ≤ n
low_of m n e = grind (arith, e)

high_of : (m n : ℕ) → nat_lt m n ≡ true → m < n
high_of m n e = grind (arith, e)

pub differs_ranked : (order : List Operation) (items : List Item) (a b : Operation) (first second : List ℕ) → GivesRanks order a first → GivesRanks order b second
    → list_any (λ x. differs x items (by_rank order first a x) (by_rank order second b x) a b) (addresses_of a) ≡ list_any (λ x. returns_differently x items order a b) (addresses_of a)
differs_ranked order items a b first second g h =
    any_bytes (λ x. differs x items (by_rank order first a x) (by_rank order second b x) a b) (λ x. returns_differently x items order a b) a.address a.size
    (λ x l m. ap (λ (o : Option Operation). differs x items o (by_rank order second b x) a b) (source_ranked order a first x g l m) ∙ go x (touches x b) refl)
  where
    go : (x : ℕ) (c : Bool) → touches x b ≡ c → differs x items (source order a x) (by_rank order second b x) a b ≡ returns_differently x items order a b
    go x true e =
        let p = and_parts (nat_le b.address x) (nat_lt x (b.address + b.size)) e in
        ap (λ (o : Option Operation). differs x items (source order a x) o a b) (source_ranked order b second x h (low_of b.address x p.0) (high_of x (b.address + b.size) p.1))
    go x false e = rw e refl

-- ---- a byte of a walk along a hart's list

pub touched_ranked : (order : List Operation) (a : Operation) (ranks : List ℕ) (x own : ℕ) (t : Touch) → AreDistinctOperations order → (reads a.kind ≡ true → GivesRanks order a ranks) → a.address ≤ x → x < a.address + a.size
    → touched_from (slice_index_or ranks (x - a.address) 0) own a t ≡ touched order x own a t
touched_ranked order a ranks x own t d g l m = go (reads a.kind) refl
  where
    go : (b : Bool) → reads a.kind ≡ b → touched_from (slice_index_or ranks (x - a.address) 0) own a t ≡ touched order x own a t
    go true e = ap (λ (n : ℕ). touched_from n own a t) (rank_known order (source order a x) (slice_index_or ranks (x - a.address) 0) (byte_ranked order a ranks x (g e) l m) d)
    go false e =
        ap (λ (c : Bool). with_all own (cond c (loaded (slice_index_or ranks (x - a.address) 0) own (stored a.kind t)) (stored a.kind t))) e
        ∙ sym (ap (λ (c : Bool). with_all own (cond c (loaded (rank_of order (source order a x)) own (stored a.kind t)) (stored a.kind t))) e)

-- the bytes of a word, by one function and by another
pub word_alike : (f g : ℕ → Touch → Touch) (first end : ℕ) (old new : List Touch) (d : Touch) → ((x : ℕ) (t : Touch) → first ≤ x → x < end → f x t ≡ g x t)
    → ((x : ℕ) → x / 4 ≡ first / 4 → slice_index_or new (x % 4) d ≡ cond (nat_le first x && nat_lt x end) (f x (slice_index_or old (x % 4) d)) (slice_index_or old (x % 4) d))
    → (x : ℕ) → x / 4 ≡ first / 4 → slice_index_or new (x % 4) d ≡ cond (nat_le first x && nat_lt x end) (g x (slice_index_or old (x % 4) d)) (slice_index_or old (x % 4) d)
word_alike f g first end old new d alike h x e = h x e ∙ go (nat_le first x) (nat_lt x end) refl refl
  where
    go : (a b : Bool) → nat_le first x ≡ a → nat_lt x end ≡ b → cond (a && b) (f x (slice_index_or old (x % 4) d)) (slice_index_or old (x % 4) d) ≡ cond (a && b) (g x (slice_index_or old (x % 4) d)) (slice_index_or old (x % 4) d)
    go true true i j = alike x (slice_index_or old (x % 4) d) (low_of first x i) (high_of x end j)
    go true false i j = refl
    go false b i j = refl

-- ---- operations that an order has

pub Each-get : {X : Type 0} (P : X → Type 0) (xs : List X) (i : ℕ) (d : X) → i < length xs → AllByRecursion P xs → P (get_or xs i d)
Each-get P [] i d l h = absurd (omega (arith, l))
Each-get P (x ∷ xs) zero d l h = h.0
Each-get P (x ∷ xs) (suc i) d l h = Each-get P xs i d (omega (arith, l)) h.1

pub Each-drop : {X : Type 0} (P : X → Type 0) (n : ℕ) (xs : List X) → AllByRecursion P xs → AllByRecursion P (drop n xs)
Each-drop P zero xs h = h
Each-drop P (suc n) [] h = tt
Each-drop P (suc n) (x ∷ xs) h = Each-drop P n xs h.1

pub Each-take : {X : Type 0} (P : X → Type 0) (n : ℕ) (xs : List X) → AllByRecursion P xs → AllByRecursion P (take n xs)
Each-take P zero xs h = tt
Each-take P (suc n) [] h = tt
Each-take P (suc n) (x ∷ xs) h = (h.0, Each-take P n xs h.1)

pub is_in : (order : List Operation) (p : ℕ) (a : Operation) → AreDistinctOperations order → slice_get order p ≡ Some a → IsIn order a
is_in order p a d e = ap (slice_get order) (position_at order p a d e) ∙ e

pub member_in : (order : List Operation) (a : Operation) → AreDistinctOperations order → Member a order → IsIn order a
member_in [] a d m = absurd m
member_in (x ∷ rest) a d (inl e) = ap (slice_get (x ∷ rest)) (place_head a x rest (subst (λ (y : Operation). same a y ≡ true) e (same-self a))) ∙ ap (λ (y : Operation). Some y) (sym e)
member_in (x ∷ rest) a d (inr m) =
    let other : same a x ≡ false = same-swap x a (Each-at (λ (c : Operation). same x c ≡ false) a rest d.0 m) in
    let place = place_tail a x rest other in
    let more : position_in (x ∷ rest) a ≡ suc (position_in rest a) = omega (arith, place) in
    ap (slice_get (x ∷ rest)) more ∙ member_in rest a d.1 m

pub are_in : (order : List Operation) → AreDistinctOperations order → AreIn order order
are_in order d = Each-from (IsIn order) order (λ a m. member_in order a d m)
