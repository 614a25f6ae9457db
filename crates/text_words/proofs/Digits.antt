-- A number that is cut at a bound while its digits are read.
use Rattle.std.proofs.Common.{◌≡◌, ℕ, ◌+◌, ◌*◌, ◌^◌, ◌<◌, ◌≤◌, Bool, true, false, cond, List, [], ◌∷◌, length, drop, get_or, Option, Some, None, refl, sym, ap, ◌∙◌, arith}
use Rattle.std.proofs.lemmas.Bool.{lt-ltb, le-ltb}
use Rattle.std.proofs.lemmas.List.{drop_more, drop_all}
use Rattle.std.specs.Prelude.{min, nat_lt}
use Rattle.std.specs.Option.{option_map}
use Rattle.text_words.specs.Numbers.{amount_on, worth}

pub amount_more : (base b n : ℕ) (digits : List ℕ) → worth b < base → amount_on base (b ∷ digits) n ≡ amount_on base digits (n * base + worth b)
unfolding amount_on
amount_more base b n digits lt = rw (lt-ltb (worth b) base lt) refl

pub amount_none : (base b n : ℕ) (digits : List ℕ) → base ≤ worth b → amount_on base (b ∷ digits) n ≡ None
unfolding amount_on
amount_none base b n digits le = rw (le-ltb (worth b) base le) refl

least : (base bound n w : ℕ) → 0 < base → min bound (min bound n * base + w) ≡ min bound (n * base + w)
least base bound n w some = grind arith

-- the number before may be cut
pub cut_before : (bound base : ℕ) (digits : List ℕ) (n : ℕ) → 0 < base → option_map (min bound) (amount_on base digits (min bound n)) ≡ option_map (min bound) (amount_on base digits n)
unfolding amount_on
cut_before bound base [] n some = grind arith
cut_before bound base (b ∷ digits) n some = go (nat_lt (worth b) base) (cut_before bound base digits (min bound n * base + worth b) some) (cut_before bound base digits (n * base + worth b) some)
  where
    go : (test : Bool) → option_map (min bound) (amount_on base digits (min bound (min bound n * base + worth b))) ≡ option_map (min bound) (amount_on base digits (min bound n * base + worth b)) → option_map (min bound) (amount_on base digits (min bound (n * base + worth b))) ≡ option_map (min bound) (amount_on base digits (n * base + worth b)) → option_map (min bound) (cond test (amount_on base digits (min bound n * base + worth b)) None) ≡ option_map (min bound) (cond test (amount_on base digits (n * base + worth b)) None)
    go false one other = refl
    go true one other = sym one ∙ ap (λ m. option_map (min bound) (amount_on base digits m)) (least base bound n (worth b) some) ∙ other

pub cut_more : (bound base i value : ℕ) (digits : List ℕ) (w : ℕ) (total : Option ℕ) → 0 < base → i < length digits → w ≡ worth (get_or digits i 0) → w < base → option_map (min bound) (amount_on base (drop i digits) value) ≡ total → option_map (min bound) (amount_on base (drop (i + 1) digits) (min bound (value * base + w))) ≡ total
cut_more bound base i value digits w total some lt is small h =
    let small' : worth (get_or digits i 0) < base = omega arith in
    cut_before bound base (drop (i + 1) digits) (value * base + w) some
    ∙ ap (λ n. option_map (min bound) (amount_on base (drop (i + 1) digits) (value * base + n))) is
    ∙ ap (option_map (min bound)) (sym (amount_more base (get_or digits i 0) value (drop (i + 1) digits) small'))
    ∙ ap (λ (l : List ℕ). option_map (min bound) (amount_on base l value)) (sym (drop_more digits i 0 lt))
    ∙ h

pub cut_none : (bound base i value : ℕ) (digits : List ℕ) (w : ℕ) (total : Option ℕ) → i < length digits → w ≡ worth (get_or digits i 0) → base ≤ w → option_map (min bound) (amount_on base (drop i digits) value) ≡ total → None ≡ total
cut_none bound base i value digits w total lt is large h =
    let large' : base ≤ worth (get_or digits i 0) = omega arith in
    ap (option_map (min bound)) (sym (amount_none base (get_or digits i 0) value (drop (i + 1) digits) large'))
    ∙ ap (λ (l : List ℕ). option_map (min bound) (amount_on base l value)) (sym (drop_more digits i 0 lt))
    ∙ h

pub cut_end : (bound base i value : ℕ) (digits : List ℕ) (total : Option ℕ) → length digits ≤ i → value ≤ bound → option_map (min bound) (amount_on base (drop i digits) value) ≡ total → Some value ≡ total
unfolding amount_on
cut_end bound base i value digits total le most h =
    let same : value ≡ min bound value = grind arith in
    ap (λ n. Some n) same ∙ ap (λ (l : List ℕ). option_map (min bound) (amount_on base l value)) (sym (drop_all i digits le)) ∙ h
