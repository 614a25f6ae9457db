-- What several calls put out, one after another.
use Rattle.std.proofs.Common.{◌≡◌, ℕ, suc, ◌+◌, ◌<◌, List, get_or, subst, [], ◌∷◌, ◌++◌, length, take, drop, Option, Some, None, Result, Ok, Err, refl, sym, ap, ◌∙◌, append_assoc, arith}
use Rattle.std.proofs.lemmas.List.{append-nil, take-append-drop, take_more, drop_more}
use Rattle.text_fields.specs.Fields.{numbered}
use Rattle.std.specs.Io.KnownBytes.{Appends, Keeps}
use Rattle.text_fields.specs.Writing.{Begins, Writes}
use Rattle.std.specs.Result.{IsErr}
use Rattle.std.proofs.lemmas.Bool.{false≢true}
use Rattle.std.specs.List.{flat_map}
use Rattle.std.proofs.lemmas.List.Concat.{flat_map-cons, flat_map-append}

pub appends_none : (old : Option (List ℕ)) → Appends old old []
appends_none None = tt
appends_none (Some xs) = sym (append-nil xs)

pub appends_kept : (old new : Option (List ℕ)) → Keeps old new → Appends old new []
appends_kept None new h = tt
appends_kept (Some xs) None h = h
appends_kept (Some xs) (Some ys) h = h ∙ sym (append-nil xs)

pub appends_then : (a b c : Option (List ℕ)) (x y : List ℕ) → Appends a b x → Appends b c y → Appends a c (x ++ y)
appends_then None b c x y p q = tt
appends_then (Some us) None c x y p q = absurd p
appends_then (Some us) (Some vs) None x y p q = absurd q
appends_then (Some us) (Some vs) (Some ws) x y p q = rw (q, p) (append_assoc us x y)

-- one turn of the loop of put
pub put_more : (old mid new : Option (List ℕ)) (bytes rest others : List ℕ) (n : ℕ) → (front : List ℕ) × (bytes ≡ front ++ rest) × Appends old mid front → Appends mid new (take n rest) → others ≡ drop n rest
    → (front : List ℕ) × (bytes ≡ front ++ others) × Appends old new front
put_more old mid new bytes rest others n (front, e, before) now is = (
  front ++ take n rest,
  e ∙ ap (λ (r : List ℕ). front ++ r) (sym (take-append-drop n rest)) ∙ sym (append_assoc front (take n rest) (drop n rest)) ∙ ap (λ (r : List ℕ). (front ++ take n rest) ++ r) (sym is),
  appends_then old mid new front (take n rest) before now,
)

-- a turn that was interrupted
pub put_again : (old mid new : Option (List ℕ)) (bytes rest others : List ℕ) → (front : List ℕ) × (bytes ≡ front ++ rest) × Appends old mid front → Keeps mid new → others ≡ rest
    → (front : List ℕ) × (bytes ≡ front ++ others) × Appends old new front
put_again old mid new bytes rest others (front, e, before) now is =
    (front, e ∙ ap (λ (r : List ℕ). front ++ r) (sym is), subst (Appends old new) (append-nil front) (appends_then old mid new front [] before (appends_kept mid new now)))

pub begins_first : (a b : Option (List ℕ)) (x y : List ℕ) → Begins a b x → Begins a b (x ++ y)
begins_first a b x y h = record { front = h.front; rest = h.rest ++ y; parts = ap (λ (t : List ℕ). t ++ y) h.parts ∙ append_assoc h.front h.rest y; sent = h.sent }

pub begins_then : (a b c : Option (List ℕ)) (x y : List ℕ) → Appends a b x → Begins b c y → Begins a c (x ++ y)
begins_then a b c x y p q = record { front = x ++ q.front; rest = q.rest; parts = ap (λ (t : List ℕ). x ++ t) q.parts ∙ sym (append_assoc x q.front q.rest); sent = appends_then a b c x q.front p q.sent }

-- a fault that is passed on
pub stops : {T E : Type 0} (a b : Option (List ℕ)) (x : List ℕ) (r : Result T E) → IsErr r → Begins a b x → Writes a b x r
stops a b x (Ok _) h p = absurd (false≢true h)
stops a b x (Err _) h p = p

-- a fault at an item of a list
pub begins_item : {X : Type 0} (a b c : Option (List ℕ)) (f : X → List ℕ) (xs : List X) (i : ℕ) (x d : X) → i < length xs → x ≡ get_or xs i d → Appends a b (flat_map f (take i xs)) → Begins b c (f x) → Begins a c (flat_map f xs)
begins_item a b c f xs i x d lt is so_far now =
    let more : take (i + 1) xs ≡ take i xs ++ x ∷ [] = take_more xs i d lt ∙ ap (λ y. take i xs ++ y ∷ []) (sym is) in
    let parts : flat_map f xs ≡ (flat_map f (take i xs) ++ f x) ++ flat_map f (drop (i + 1) xs) =
    ap (flat_map f) (sym (take-append-drop (i + 1) xs)) ∙ flat_map-append f (take (i + 1) xs) (drop (i + 1) xs)
    ∙ ap (λ t. t ++ flat_map f (drop (i + 1) xs)) (ap (flat_map f) more ∙ flat_map-append f (take i xs) (x ∷ []) ∙ ap (λ t. flat_map f (take i xs) ++ t) (flat_map-cons f x [] ∙ append-nil (f x))) in
    subst (Begins a c) (sym parts) (begins_first a c (flat_map f (take i xs) ++ f x) (flat_map f (drop (i + 1) xs)) (begins_then a b c (flat_map f (take i xs)) (f x) so_far now))

-- the same, of an item that is read with a default
pub begins_at : {X : Type 0} (a b c : Option (List ℕ)) (f : X → List ℕ) (xs : List X) (i : ℕ) (d : X) → i < length xs → Appends a b (flat_map f (take i xs)) → Begins b c (f (get_or xs i d)) → Begins a c (flat_map f xs)
begins_at a b c f xs i d lt so_far now = begins_item a b c f xs i (get_or xs i d) d lt refl so_far now

-- a fault at an item of a list that stands behind a text
pub begins_behind : {X : Type 0} (a b c : Option (List ℕ)) (p : List ℕ) (f : X → List ℕ) (xs : List X) (i : ℕ) (d : X) → i < length xs → Appends a b (p ++ flat_map f (take i xs)) → Begins b c (f (get_or xs i d)) → Begins a c (p ++ flat_map f xs)
begins_behind a b c p f xs i d lt so_far now =
    let more : take (i + 1) xs ≡ take i xs ++ get_or xs i d ∷ [] = take_more xs i d lt in
    let x = get_or xs i d in
    let parts : flat_map f xs ≡ (flat_map f (take i xs) ++ f x) ++ flat_map f (drop (i + 1) xs) =
    ap (flat_map f) (sym (take-append-drop (i + 1) xs)) ∙ flat_map-append f (take (i + 1) xs) (drop (i + 1) xs)
    ∙ ap (λ t. t ++ flat_map f (drop (i + 1) xs)) (ap (flat_map f) more ∙ flat_map-append f (take i xs) (x ∷ []) ∙ ap (λ t. flat_map f (take i xs) ++ t) (flat_map-cons f x [] ∙ append-nil (f x))) in
    let whole : p ++ flat_map f xs ≡ ((p ++ flat_map f (take i xs)) ++ f x) ++ flat_map f (drop (i + 1) xs) = ap (λ t. p ++ t) parts ∙ simp append_assoc in
    subst (Begins a c) (sym whole) (begins_first a c ((p ++ flat_map f (take i xs)) ++ f x) (flat_map f (drop (i + 1) xs)) (begins_then a b c (p ++ flat_map f (take i xs)) (f x) so_far now))

-- one call after another
pub writes_then : {T E : Type 0} (a b c : Option (List ℕ)) (x y : List ℕ) (r : Result T E) → Appends a b x → Writes b c y r → Writes a c (x ++ y) r
writes_then a b c x y (Ok _) p q = appends_then a b c x y p q
writes_then a b c x y (Err _) p q = begins_then a b c x y p q

-- what went out, and what is still to go, are the whole text
pub record Going (old new : Option (List ℕ)) (rest text : List ℕ) : Type 0 where
  pub front : List ℕ
  pub parts : text ≡ front ++ rest
  pub sent : Appends old new front

pub going_starts : (a : Option (List ℕ)) (text : List ℕ) → Going a a text text
going_starts a text = record { front = []; parts = refl; sent = appends_none a }

pub going_more : (a b c : Option (List ℕ)) (x rest text : List ℕ) → Going a b (x ++ rest) text → Appends b c x → Going a c rest text
going_more a b c x rest text h now = record { front = h.front ++ x; parts = h.parts ∙ sym (append_assoc h.front x rest); sent = appends_then a b c h.front x h.sent now }

pub going_fails : (a b c : Option (List ℕ)) (x rest text : List ℕ) → Going a b (x ++ rest) text → Begins b c x → Begins a c text
going_fails a b c x rest text h now = subst (Begins a c) (sym h.parts) (begins_then a b c h.front (x ++ rest) h.sent (begins_first b c x rest now))

pub going_ends : (a b : Option (List ℕ)) (text : List ℕ) → Going a b [] text → Appends a b text
going_ends a b text h = subst (Appends a b) (sym (h.parts ∙ append-nil h.front)) h.sent

pub going_last : {T E : Type 0} (a b c : Option (List ℕ)) (rest text : List ℕ) (r : Result T E) → Going a b rest text → Writes b c rest r → Writes a c text r
going_last a b c rest text r h now = subst (λ (t : List ℕ). Writes a c t r) (sym h.parts) (writes_then a b c h.front rest r h.sent now)

-- what is still to go, told in another way
pub going_as : (a b : Option (List ℕ)) (x y text : List ℕ) → x ≡ y → Going a b x text → Going a b y text
going_as a b x y text e h = subst (λ (t : List ℕ). Going a b t text) e h

-- one more item of a list
pub appends_item : {X : Type 0} (a b c : Option (List ℕ)) (f : X → List ℕ) (xs : List X) (i : ℕ) (d : X) → i < length xs → Appends a b (flat_map f (take i xs)) → Appends b c (f (get_or xs i d)) → Appends a c (flat_map f (take (i + 1) xs))
appends_item a b c f xs i d lt so_far now =
    let whole : flat_map f (take (i + 1) xs) ≡ flat_map f (take i xs) ++ f (get_or xs i d) =
    ap (flat_map f) (take_more xs i d lt) ∙ flat_map-append f (take i xs) (get_or xs i d ∷ [])
    ∙ ap (λ t. flat_map f (take i xs) ++ t) (flat_map-cons f (get_or xs i d) [] ∙ append-nil (f (get_or xs i d))) in
    subst (Appends a c) (sym whole) (appends_then a b c (flat_map f (take i xs)) (f (get_or xs i d)) so_far now)

-- ---- items and their numbers

pub numbered_first : {X : Type 0} (f : ℕ → X → List ℕ) (h : ℕ) (xs : List X) (d : X) → 0 < length xs → numbered f h xs ≡ f h (get_or xs 0 d) ++ numbered f (h + 1) (drop 1 xs)
numbered_first f h [] d some = absurd (omega arith)
numbered_first f h (x ∷ xs) d some = let next : suc h ≡ h + 1 = omega arith in ap (λ n. f h x ++ numbered f n xs) next

pub numbered_at_place : {X : Type 0} (f : ℕ → X → List ℕ) (h : ℕ) (xs : List X) (d : X) → h < length xs → numbered f h (drop h xs) ≡ f h (get_or xs h d) ++ numbered f (h + 1) (drop (h + 1) xs)
numbered_at_place f h xs d lt = let next : suc h ≡ h + 1 = omega arith in ap (numbered f h) (drop_more xs h d lt) ∙ ap (λ n. f h (get_or xs h d) ++ numbered f n (drop (h + 1) xs)) next
