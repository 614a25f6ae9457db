-- A word that stands before something else is split off again.
use Rattle.std.proofs.Common.{◌≡◌, ℕ, zero, suc, ◌<◌, Bool, true, false, cond, List, [], ◌∷◌, ◌++◌, refl, ap, inl, inr, arith}
use Rattle.std.proofs.lemmas.Bool.{cases_lt}
use Rattle.std.specs.Prelude.{if◌then◌else◌}
use Rattle.text_words.specs.Words.{is_blank, is_word_byte, skip, word, past_word}

-- all bytes are of a word
abbrev pub are_word : List ℕ → Bool
are_word [] = true
are_word (b ∷ bytes) = if is_word_byte b then are_word bytes else false

-- no word goes on here
abbrev pub is_cut : List ℕ → Bool
is_cut [] = true
is_cut (b ∷ bytes) = if is_word_byte b then false else true

-- something that is no blank stands first
abbrev pub starts : List ℕ → Bool
starts [] = false
starts (b ∷ bytes) = if is_blank b then false else true

cut_word : (test : Bool) (b : ℕ) (l : List ℕ) → cond test false true ≡ true → cond test (b ∷ l) [] ≡ []
cut_word true b l h = absurd cc
cut_word false b l h = refl

cut_past : (test : Bool) (l m : List ℕ) → cond test false true ≡ true → cond test l m ≡ m
cut_past true l m h = absurd cc
cut_past false l m h = refl

word_step : (test : Bool) (b : ℕ) (all : Bool) (l w : List ℕ) → cond test all false ≡ true → (all ≡ true → l ≡ w) → cond test (b ∷ l) [] ≡ b ∷ w
word_step true b all l w h later = ap (λ (x : List ℕ). b ∷ x) (later h)
word_step false b all l w h later = absurd cc

past_step : (test : Bool) (all : Bool) (l m rest : List ℕ) → cond test all false ≡ true → (all ≡ true → l ≡ rest) → cond test l m ≡ rest
past_step true all l m rest h later = later h
past_step false all l m rest h later = absurd cc

pub word_front : (w rest : List ℕ) → are_word w ≡ true → is_cut rest ≡ true → word (w ++ rest) ≡ w
word_front [] [] all cut = refl
word_front [] (b ∷ rest) all cut = cut_word (is_word_byte b) b (word rest) cut
word_front (b ∷ w) rest all cut = word_step (is_word_byte b) b (are_word w) (word (w ++ rest)) w all (λ h. word_front w rest h cut)

pub past_front : (w rest : List ℕ) → are_word w ≡ true → is_cut rest ≡ true → past_word (w ++ rest) ≡ rest
past_front [] [] all cut = refl
past_front [] (b ∷ rest) all cut = cut_past (is_word_byte b) (past_word rest) (b ∷ rest) cut
past_front (b ∷ w) rest all cut = past_step (is_word_byte b) (are_word w) (past_word (w ++ rest)) (b ∷ (w ++ rest)) rest all (λ h. past_front w rest h cut)

pub skip_front : (w rest : List ℕ) → starts w ≡ true → skip (w ++ rest) ≡ w ++ rest
skip_front [] rest h = absurd cc
skip_front (b ∷ w) rest h = cut_past (is_blank b) (skip (w ++ rest)) (b ∷ (w ++ rest)) h

-- a test that all numbers below a bound pass
abbrev pub all_below : ℕ → (ℕ → Bool) → Bool
all_below zero test = true
all_below (suc n) test = if test n then all_below n test else false

below_step : (passes : Bool) (test : ℕ → Bool) (n m : ℕ) → test n ≡ passes → cond passes (all_below n test) false ≡ true → m < suc n → (all_below n test ≡ true → m < n → test m ≡ true) → test m ≡ true
below_step true test n m is all lt later = elim (cases_lt m n) [
  | inl less ↦ later all less
  | inr more ↦ (let same : m ≡ n = omega arith in rw same is)
]
below_step false test n m is all lt later = absurd cc

pub below_passes : (test : ℕ → Bool) (n m : ℕ) → all_below n test ≡ true → m < n → test m ≡ true
below_passes test zero m all lt = absurd (omega arith)
below_passes test (suc n) m all lt = below_step (test n) test n m refl all lt (λ h less. below_passes test n m h less)

pub all_three : (a b c : Bool) → cond a (cond b c false) false ≡ true → (a ≡ true) × ((b ≡ true) × (c ≡ true))
all_three true true true h = (refl, (refl, refl))
all_three true true false h = absurd cc
all_three true false c h = absurd cc
all_three false b c h = absurd cc
