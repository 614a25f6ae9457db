-- Texts put together of pieces that a mark ends, and parted again.
use Rattle.std.proofs.Common.{◌≡◌, ◌∙◌, ◌++◌, ◌≢◌, ℕ, Bool, true, false, List, [], ◌∷◌, ap, arith, cond, refl, subst, sym}
use Rattle.std.proofs.lemmas.Bool.{eqb-true, false≢true}
use Rattle.std.proofs.lemmas.Bool.Decides.{nat_tests}
use Rattle.std.specs.List.{AllByRecursion, list_all, list_any}
use Rattle.std.specs.Prelude.{◌==◌, ◌&&◌, ◌||◌, not}
use Rattle.assembly_reading.proofs.Splitting.{are_word}
use Rattle.litmus_answers.specs.Logs.{led, pieces}
use Rattle.litmus_parts.specs.Header.{is_name_byte}
use Rattle.litmus_parts.specs.Scanning.{from, is_any, until}
use Rattle.text_words.specs.Words.{is_word_byte}

-- ---- what holds of each

pub both_true : (a b : Bool) → (a && b) ≡ true → (a ≡ true) × (b ≡ true)
both_true true b h = (refl, h)
both_true false b h = absurd cc

pub both_if : (a b : Bool) → cond a b false ≡ true → (a ≡ true) × (b ≡ true)
both_if true b h = (refl, h)
both_if false b h = absurd cc

pub each : {X : Type 0} (p : X → Bool) (xs : List X) → list_all p xs ≡ true → AllByRecursion (λ x. p x ≡ true) xs
each p [] h = tt
each p (x ∷ xs) h = let parts = both_true (p x) (list_all p xs) h in (parts.0, each p xs parts.1)

pub all_append : {X : Type 0} (P : X → Type 0) (xs ys : List X) → AllByRecursion P xs → AllByRecursion P ys → AllByRecursion P (xs ++ ys)
all_append P [] ys one other = other
all_append P (x ∷ xs) ys one other = (one.0, all_append P xs ys one.1 other)

pub all_mapped : {X : Type 0} (P Q : X → Type 0) (xs : List X) → ((x : X) → P x → Q x) → AllByRecursion P xs → AllByRecursion Q xs
all_mapped P Q [] so all = tt
all_mapped P Q (x ∷ xs) so all = (so x all.0, all_mapped P Q xs so all.1)

-- ---- bytes that are no marks

abbrev pub MissesAt : List ℕ → ℕ → Type 0
MissesAt marks b = is_any marks b ≡ false

-- none of these marks stands in it
abbrev pub Misses : List ℕ → List ℕ → Type 0
Misses marks = AllByRecursion (MissesAt marks)

-- no mark by which a block is parted
abbrev pub Plain : List ℕ → Type 0
Plain = Misses (10 ∷ 59 ∷ 62 ∷ [])

pub misses_append : (marks xs ys : List ℕ) → Misses marks xs → Misses marks ys → Misses marks (xs ++ ys)
misses_append marks = all_append (MissesAt marks)

plain_line : (b : ℕ) → is_any (10 ∷ 59 ∷ 62 ∷ []) b ≡ false → is_any (10 ∷ []) b ≡ false
plain_line b = go (10 == b) ((59 == b) || ((62 == b) || false))
  where
    go : (x y : Bool) → (x || y) ≡ false → (x || false) ≡ false
    go true y e = absurd cc
    go false y e = refl

plain_item : (b : ℕ) → is_any (10 ∷ 59 ∷ 62 ∷ []) b ≡ false → is_any (59 ∷ []) b ≡ false
plain_item b = go (10 == b) (59 == b) ((62 == b) || false)
  where
    go : (x y z : Bool) → (x || (y || z)) ≡ false → (y || false) ≡ false
    go true y z e = absurd cc
    go false true z e = absurd cc
    go false false z e = refl

plain_runs : (b : ℕ) → is_any (10 ∷ 59 ∷ 62 ∷ []) b ≡ false → is_any (62 ∷ []) b ≡ false
plain_runs b = go (10 == b) (59 == b) (62 == b)
  where
    go : (x y z : Bool) → (x || (y || (z || false))) ≡ false → (z || false) ≡ false
    go true y z e = absurd cc
    go false true z e = absurd cc
    go false false true e = absurd cc
    go false false false e = refl

pub no_line : (text : List ℕ) → Plain text → Misses (10 ∷ []) text
no_line text = all_mapped (MissesAt (10 ∷ 59 ∷ 62 ∷ [])) (MissesAt (10 ∷ [])) text plain_line

pub no_item : (text : List ℕ) → Plain text → Misses (59 ∷ []) text
no_item text = all_mapped (MissesAt (10 ∷ 59 ∷ 62 ∷ [])) (MissesAt (59 ∷ [])) text plain_item

pub no_runs : (text : List ℕ) → Plain text → Misses (62 ∷ []) text
no_runs text = all_mapped (MissesAt (10 ∷ 59 ∷ 62 ∷ [])) (MissesAt (62 ∷ [])) text plain_runs

word_byte_plain : (b : ℕ) → is_word_byte b ≡ true → is_any (10 ∷ 59 ∷ 62 ∷ []) b ≡ false
word_byte_plain b h = grind (arith, nat_tests)

pub word_plain : (text : List ℕ) → are_word text ≡ true → Plain text
word_plain [] h = tt
word_plain (b ∷ text) h = let parts = both_if (is_word_byte b) (are_word text) h in (word_byte_plain b parts.0, word_plain text parts.1)

name_byte_blank : (b : ℕ) → is_name_byte b ≡ true → is_any (32 ∷ 9 ∷ 13 ∷ []) b ≡ false
name_byte_blank b h = grind (arith, nat_tests)

name_byte_line : (b : ℕ) → is_name_byte b ≡ true → is_any (10 ∷ []) b ≡ false
name_byte_line b h = grind (arith, nat_tests)

pub name_no_blank : (name : List ℕ) → list_all is_name_byte name ≡ true → Misses (32 ∷ 9 ∷ 13 ∷ []) name
name_no_blank name h = all_mapped (λ (b : ℕ). is_name_byte b ≡ true) (MissesAt (32 ∷ 9 ∷ 13 ∷ [])) name name_byte_blank (each is_name_byte name h)

pub name_no_line : (name : List ℕ) → list_all is_name_byte name ≡ true → Misses (10 ∷ []) name
name_no_line name h = all_mapped (λ (b : ℕ). is_name_byte b ≡ true) (MissesAt (10 ∷ [])) name name_byte_line (each is_name_byte name h)

turned : (b : ℕ) → (b == 10) ≡ false → is_any (10 ∷ []) b ≡ false
turned b h = grind (arith, nat_tests)

pub misses_lines : (text : List ℕ) → list_any (λ (b : ℕ). b == 10) text ≡ false → Misses (10 ∷ []) text
misses_lines [] h = tt
misses_lines (b ∷ text) h = let parts = neither (b == 10) (list_any (λ (b : ℕ). b == 10) text) h in (turned b parts.0, misses_lines text parts.1)
  where
    neither : (x y : Bool) → (x || y) ≡ false → (x ≡ false) × (y ≡ false)
    neither true y e = absurd cc
    neither false y e = (refl, e)

-- ---- pieces

pub pieces_led : (marks : List ℕ) (mark : ℕ) (piece rest : List ℕ) → is_any marks mark ≡ true → Misses marks piece → pieces marks (piece ++ mark ∷ rest) ≡ piece ∷ pieces marks rest
pieces_led marks mark [] rest is none = ap (λ (t : Bool). cond t ([] ∷ pieces marks rest) (led mark (pieces marks rest))) is
pieces_led marks mark (b ∷ piece) rest is none =
    ap (λ (t : Bool). cond t ([] ∷ pieces marks (piece ++ mark ∷ rest)) (led b (pieces marks (piece ++ mark ∷ rest)))) none.0 ∙ ap (led b) (pieces_led marks mark piece rest is none.1)

pub until_front : (marks : List ℕ) (mark : ℕ) (front rest : List ℕ) → is_any marks mark ≡ true → Misses marks front → until marks (front ++ mark ∷ rest) ≡ front
until_front marks mark [] rest is none = ap (λ (t : Bool). cond t [] (mark ∷ until marks rest)) is
until_front marks mark (b ∷ front) rest is none =
    ap (λ (t : Bool). cond t [] (b ∷ until marks (front ++ mark ∷ rest))) none.0 ∙ ap (λ (l : List ℕ). b ∷ l) (until_front marks mark front rest is none.1)

pub from_none : (marks text : List ℕ) → Misses marks text → from marks text ≡ []
from_none marks [] none = refl
from_none marks (b ∷ text) none = ap (λ (t : Bool). cond t (b ∷ text) (from marks text)) none.0 ∙ from_none marks text none.1
