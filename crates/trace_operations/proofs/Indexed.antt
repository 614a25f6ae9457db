-- The source of a byte is found among the stores to it, by where the load stands in the order.
use Rattle.std.proofs.Common.{◌≡◌, ℕ, suc, ◌+◌, ◌++◌, ◌≤◌, ◌<◌, List, [], ◌∷◌, Bool, true, false, Option, Some, None, refl, cond, sym, ap, ◌∙◌, ◌&&◌, ◌||◌, arith, length, map, take, get_or}
use Rattle.std.specs.Prelude.{filter, is_some, nat_eq, nat_lt, unwrap_or}
use Rattle.std.specs.List.{last_or}
use Rattle.std.specs.Option.{option_map, option_map_or, option_or}
use Rattle.std.proofs.lemmas.Bool.{eqb-true, le-ltb, lt-ltb, and_parts, true≢false}
use Rattle.std.proofs.lemmas.List.{take_more}
use Rattle.memory_model.specs.declared.operation.Operation.{Operation}
use Rattle.memory_model.specs.Operations.{precedes, same, stores_to}
use Rattle.memory_model.specs.Order.{candidates, position_in, source}
use Rattle.memory_model.specs.Verdict.{name_of}
use Rattle.memory_model.proofs.Forms.{place_head, place_tail, same-swap}
use Rattle.trace_recorder.specs.declared.operation.OpId.{OpId}
use Rattle.trace_operations.specs.Indexed.{is_seen, place_from, stored_from}
use Rattle.trace_operations.specs.declared.stored.Stored.{Stored}

-- ---- places

pub place_known : (position end : ℕ) (a : Operation) (xs : List Operation) → end ≡ position + length xs → unwrap_or (place_from position a xs) end ≡ position + position_in xs a
place_known position end a [] e = omega (arith, e)
place_known position end a (b ∷ rest) e = go (same a b) refl (place_known (position + 1) end a rest (omega (arith, e)))
  where
    go : (c : Bool) → same a b ≡ c → unwrap_or (place_from (position + 1) a rest) end ≡ position + 1 + position_in rest a → unwrap_or (cond c (Some position) (place_from (position + 1) a rest)) end ≡ position + position_in (b ∷ rest) a
    go true f ih = rw (place_head a b rest f) (omega arith)
    go false f ih = rw (place_tail a b rest f) (omega (arith, ih))

-- ---- what a load may see

same-sym : (a b : Operation) → same a b ≡ true → same b a ≡ true
same-sym a b e = go (same b a) refl
  where
    go : (c : Bool) → same b a ≡ c → same b a ≡ true
    go true f = f
    go false f = absurd (true≢false (sym e ∙ same-swap b a f))

same_place : (s load : Operation) → same s load ≡ true → precedes s load ≡ false
same_place s load e =
    let p = and_parts (nat_eq s.hart load.hart) (nat_eq s.place load.place) e in
    let q = eqb-true s.place load.place p.1 in
    ap (λ (b : Bool). nat_eq s.hart load.hart && b) (le-ltb s.place load.place (omega (arith, q))) ∙ go (nat_eq s.hart load.hart)
  where
    go : (b : Bool) → (b && false) ≡ false
    go true = refl
    go false = refl

abbrev stores_of : List Stored → List Operation
stores_of xs = map (λ (s : Stored). s.store) xs

-- behind the load's place those that precede it in program order
seen_behind : (at position x : ℕ) (load : Operation) (xs : List Operation) → at ≤ position → stores_of (filter (is_seen at (name_of load)) (stored_from position x xs)) ≡ filter (λ t. stores_to x t && precedes t load) xs
seen_behind at position x load [] h = refl
seen_behind at position x load (t ∷ rest) h = go (stores_to x t) (seen_behind at (position + 1) x load rest (omega arith))
  where
    kept : (l p : Bool) → l ≡ false → stores_of (filter (is_seen at (name_of load)) (stored_from (position + 1) x rest)) ≡ filter (λ t. stores_to x t && precedes t load) rest
        → stores_of (cond (l || p) (record { position = position; store = t } ∷ filter (is_seen at (name_of load)) (stored_from (position + 1) x rest)) (filter (is_seen at (name_of load)) (stored_from (position + 1) x rest))) ≡ cond p (t ∷ filter (λ t. stores_to x t && precedes t load) rest) (filter (λ t. stores_to x t && precedes t load) rest)
    kept true p e ih = absurd (true≢false e)
    kept false true e ih = ap (λ (ys : List Operation). t ∷ ys) ih
    kept false false e ih = ih

    go : (b : Bool) → stores_of (filter (is_seen at (name_of load)) (stored_from (position + 1) x rest)) ≡ filter (λ t. stores_to x t && precedes t load) rest
        → stores_of (filter (is_seen at (name_of load)) (cond b (record { position = position; store = t } ∷ stored_from (position + 1) x rest) (stored_from (position + 1) x rest))) ≡ cond (b && precedes t load) (t ∷ filter (λ t. stores_to x t && precedes t load) rest) (filter (λ t. stores_to x t && precedes t load) rest)
    go true ih = kept (nat_lt position at) (precedes t load) (le-ltb position at h) ih
    go false ih = ih

-- of all stores to x the candidates
seen_all : (position x : ℕ) (load : Operation) (xs : List Operation) → stores_of (filter (is_seen (position + position_in xs load) (name_of load)) (stored_from position x xs)) ≡ candidates xs load x
seen_all position x load [] = refl
seen_all position x load (s ∷ rest) = go (same s load) refl (seen_all (position + 1) x load rest)
  where
    own : (b l p : Bool) → l ≡ false → p ≡ false → (at : ℕ) → nat_lt position at ≡ l → precedes s load ≡ p
        → filter (is_seen at (name_of load)) (cond b (record { position = position; store = s } ∷ stored_from (position + 1) x rest) (stored_from (position + 1) x rest)) ≡ filter (is_seen at (name_of load)) (stored_from (position + 1) x rest)
    own false l p e f at g h = refl
    own true l p e f at g h = rw (g ∙ e, h ∙ f) refl

    earlier : (b : Bool) (at : ℕ) → nat_lt position at ≡ true → stores_of (filter (is_seen at (name_of load)) (stored_from (position + 1) x rest)) ≡ candidates rest load x
        → stores_of (filter (is_seen at (name_of load)) (cond b (record { position = position; store = s } ∷ stored_from (position + 1) x rest) (stored_from (position + 1) x rest))) ≡ cond b (s ∷ candidates rest load x) (candidates rest load x)
    earlier false at g ih = ih
    earlier true at g ih = rw g (ap (λ (ys : List Operation). s ∷ ys) ih)

    go : (c : Bool) → same s load ≡ c → stores_of (filter (is_seen (position + 1 + position_in rest load) (name_of load)) (stored_from (position + 1) x rest)) ≡ candidates rest load x
        → stores_of (filter (is_seen (position + position_in (s ∷ rest) load) (name_of load)) (stored_from position x (s ∷ rest))) ≡ cond c (filter (λ t. stores_to x t && precedes t load) rest) (cond (stores_to x s) (s ∷ candidates rest load x) (candidates rest load x))
    go true e ih =
        let at : position + position_in (s ∷ rest) load ≡ position = ap (λ n. position + n) (place_head load s rest (same-sym s load e)) ∙ omega arith in
        rw at (ap stores_of (own (stores_to x s) false false refl refl position (le-ltb position position (omega arith)) (same_place s load e)) ∙ seen_behind position (position + 1) x load rest (omega arith))
    go false e ih =
        let at : position + position_in (s ∷ rest) load ≡ position + 1 + position_in rest load = ap (λ n. position + n) (place_tail load s rest (same-swap s load e)) ∙ omega arith in
        rw at (earlier (stores_to x s) (position + 1 + position_in rest load) (lt-ltb position (position + 1 + position_in rest load) (omega arith)) ih)

last-mapped : (xs : List Stored) (o : Option Stored) → last_or (option_map (λ (s : Stored). s.store) o) (stores_of xs) ≡ option_map (λ (s : Stored). s.store) (last_or o xs)
last-mapped [] o = refl
last-mapped (s ∷ rest) o = last-mapped rest (Some s)

-- the source is the last of the stores to the byte that the load may see
pub source_seen : (order : List Operation) (a : Operation) (x : ℕ) (load : OpId) (place : ℕ) (stores : List Stored) → name_of a ≡ load → place ≡ position_in order a → stores ≡ stored_from 0 x order
    → option_map (λ (s : Stored). s.store) (last_or None (filter (is_seen place load) stores)) ≡ source order a x
source_seen order a x load place stores e f g =
    rw (sym e, f, g) (sym (last-mapped (filter (is_seen (position_in order a) (name_of a)) (stored_from 0 x order)) None) ∙ ap (last_or None) (ap (λ (n : ℕ). stores_of (filter (is_seen n (name_of a)) (stored_from 0 x order))) zero_more ∙ seen_all 0 x a order))
  where
    zero_more : position_in order a ≡ 0 + position_in order a
    zero_more = omega arith

-- ---- how many stores there are to a byte

pub length-stored_from : (position x : ℕ) (xs : List Operation) → length (stored_from position x xs) ≡ length (filter (stores_to x) xs)
length-stored_from position x [] = refl
length-stored_from position x (a ∷ rest) = go (stores_to x a) (length-stored_from (position + 1) x rest)
  where
    go : (b : Bool) → length (stored_from (position + 1) x rest) ≡ length (filter (stores_to x) rest) → length (cond b (record { position = position; store = a } ∷ stored_from (position + 1) x rest) (stored_from (position + 1) x rest)) ≡ length (cond b (a ∷ filter (stores_to x) rest) (filter (stores_to x) rest))
    go true ih = ap suc ih
    go false ih = ih

-- ---- the last that passes, from the back

pub last_passing : {X : Type 0} (p : X → Bool) (xs : List X) (y : X) (o : Option X) → last_or o (filter p (xs ++ y ∷ [])) ≡ cond (p y) (Some y) (last_or o (filter p xs))
last_passing p [] y o = go (p y)
  where
    go : (b : Bool) → last_or o (cond b (y ∷ []) []) ≡ cond b (Some y) o
    go true = refl
    go false = refl
last_passing p (x ∷ xs) y o = go (p x) (last_passing p xs y o) (last_passing p xs y (Some x))
  where
    go : (b : Bool) → last_or o (filter p (xs ++ y ∷ [])) ≡ cond (p y) (Some y) (last_or o (filter p xs)) → last_or (Some x) (filter p (xs ++ y ∷ [])) ≡ cond (p y) (Some y) (last_or (Some x) (filter p xs))
        → last_or o (cond b (x ∷ filter p (xs ++ y ∷ [])) (filter p (xs ++ y ∷ []))) ≡ cond (p y) (Some y) (last_or o (cond b (x ∷ filter p xs) (filter p xs)))
    go true e f = f
    go false e f = e

pub last_passing_taken : {X : Type 0} (p : X → Bool) (xs : List X) (i : ℕ) (d : X) → i < length xs → last_or None (filter p (take (i + 1) xs)) ≡ cond (p (get_or xs i d)) (Some (get_or xs i d)) (last_or None (filter p (take i xs)))
last_passing_taken p xs i d h = ap (λ ys. last_or None (filter p ys)) (take_more xs i d h) ∙ last_passing p (take i xs) (get_or xs i d) None

-- the store that was looked at is the last that the load may see, where none behind it is
pub seen_last : (position : ℕ) (load : OpId) (stores : List Stored) (left i : ℕ) (d : Stored) (looked : ℕ × Operation) → left ≡ i + 1 → i < length stores → looked ≡ ((get_or stores i d).position, (get_or stores i d).store) → is_seen position load (record { position = looked.0; store = looked.1 }) ≡ true
    → last_or None (filter (is_seen position load) stores) ≡ last_or None (filter (is_seen position load) (take left stores)) → Some looked ≡ option_map (λ (s : Stored). (s.position, s.store)) (last_or None (filter (is_seen position load) stores))
seen_last position load stores left i d looked e h f g k =
    let seen : is_seen position load (get_or stores i d) ≡ true = ap (λ (r : ℕ × Operation). is_seen position load (record { position = r.0; store = r.1 })) (sym f) ∙ g in
    let last : last_or None (filter (is_seen position load) stores) ≡ Some (get_or stores i d) = k ∙ (ap (λ (n : ℕ). last_or None (filter (is_seen position load) (take n stores))) e ∙ (last_passing_taken (is_seen position load) stores i d h ∙ ap (λ (b : Bool). cond b (Some (get_or stores i d)) (last_or None (filter (is_seen position load) (take i stores)))) seen)) in
    ap (λ (r : ℕ × Operation). Some r) f ∙ ap (option_map (λ (s : Stored). (s.position, s.store))) (sym last)

pub stores_only : (o : Option Stored) → option_map (λ (p : ℕ × Operation). p.1) (option_map (λ (s : Stored). (s.position, s.store)) o) ≡ option_map (λ (s : Stored). s.store) o
stores_only None = refl
stores_only (Some s) = refl

-- ---- what a map of places or of stores says

pub place_there : (order : List Operation) (a : Operation) (name : OpId) (place : ℕ) (get : ℕ × ℕ → Option ℕ) → ((b : Operation) → get (b.hart, b.place) ≡ place_from 0 b order) → name_of a ≡ name → get (name.hart, name.place) ≡ Some place → place ≡ position_in order a
place_there order a name place get all e f =
    let there : place_from 0 a order ≡ Some place = sym (all a) ∙ ap (λ (n : OpId). get (n.hart, n.place)) e ∙ f in
    ap (λ (o : Option ℕ). unwrap_or o (length order)) (sym there) ∙ place_known 0 (length order) a order (omega arith) ∙ omega arith

pub place_missing : (order : List Operation) (a : Operation) (name : OpId) (get : ℕ × ℕ → Option ℕ) → ((b : Operation) → get (b.hart, b.place) ≡ place_from 0 b order) → name_of a ≡ name → get (name.hart, name.place) ≡ None → length order ≡ position_in order a
place_missing order a name get all e f =
    let there : place_from 0 a order ≡ None = sym (all a) ∙ ap (λ (n : OpId). get (n.hart, n.place)) e ∙ f in
    ap (λ (o : Option ℕ). unwrap_or o (length order)) (sym there) ∙ place_known 0 (length order) a order (omega arith) ∙ omega arith

-- ---- what a map of places has behind one more operation

abbrev pub key_of : Operation → ℕ × ℕ
key_of a = (a.hart, a.place)

same_key : (a b : Operation) → same b a ≡ true → key_of b ≡ key_of a
same_key a b e =
    let p = and_parts (nat_eq b.hart a.hart) (nat_eq b.place a.place) e in
    let f = eqb-true b.hart a.hart p.0 in
    let g = eqb-true b.place a.place p.1 in rw (f, g) refl

pub put_there : (old new : ℕ × ℕ → Option ℕ) (a b : Operation) (position : ℕ) → new (key_of b) ≡ cond (same b a) (Some position) (old (key_of b)) → is_some (old (key_of a)) ≡ false
    → new (key_of b) ≡ option_or (old (key_of b)) (cond (same b a) (Some position) None)
put_there old new a b position put missing = put ∙ go (same b a) refl
  where
    none : (o : Option ℕ) → is_some o ≡ false → o ≡ None
    none None e = refl
    none (Some n) e = absurd (true≢false e)

    go : (c : Bool) → same b a ≡ c → cond c (Some position) (old (key_of b)) ≡ option_or (old (key_of b)) (cond c (Some position) None)
    go true e = let n : old (key_of b) ≡ None = ap old (same_key a b e) ∙ none (old (key_of a)) missing in rw n refl
    go false e = kept (old (key_of b))
      where
        kept : (o : Option ℕ) → o ≡ option_or o None
        kept None = refl
        kept (Some n) = refl

pub kept_there : (old : ℕ × ℕ → Option ℕ) (a b : Operation) (position : ℕ) → is_some (old (key_of a)) ≡ true → old (key_of b) ≡ option_or (old (key_of b)) (cond (same b a) (Some position) None)
kept_there old a b position there = go (same b a) refl
  where
    some : (o : Option ℕ) (w : Option ℕ) → is_some o ≡ true → o ≡ option_or o w
    some None w e = absurd (true≢false (sym e))
    some (Some n) w e = refl

    kept : (o : Option ℕ) → o ≡ option_or o None
    kept None = refl
    kept (Some n) = refl

    go : (c : Bool) → same b a ≡ c → old (key_of b) ≡ option_or (old (key_of b)) (cond c (Some position) None)
    go true e = some (old (key_of b)) (Some position) (ap (λ (k : ℕ × ℕ). is_some (old k)) (same_key a b e) ∙ there)
    go false e = kept (old (key_of b))

pub or_placed : (o w : Option ℕ) (c : Bool) (position : ℕ) → option_or (option_or o (cond c (Some position) None)) w ≡ option_or o (cond c (Some position) w)
or_placed None w true position = refl
or_placed None w false position = refl
or_placed (Some n) w c position = refl

-- ---- what a map of stores has

pub bucket_there : {V : Type 0} (f : V → List Stored) (o : Option V) (v : V) (xs : List Stored) → option_map_or f o [] ≡ xs → o ≡ Some v → f v ≡ xs
bucket_there f o v xs e g = ap (λ p. option_map_or f p []) (sym g) ∙ e

pub bucket_missing : {V : Type 0} (f : V → List Stored) (o : Option V) (xs : List Stored) → option_map_or f o [] ≡ xs → o ≡ None → [] ≡ xs
bucket_missing f o xs e g = ap (λ p. option_map_or f p []) (sym g) ∙ e
