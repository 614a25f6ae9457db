-- A text's first line, and the lines behind it.
use Rattle.std.proofs.Common.{ℕ, ◌+◌, ◌-◌, ◌<◌, ◌≤◌, ◌==◌, ◌≡◌, ◌∙◌, ◌++◌, Bool, true, false, cond, List, [], ◌∷◌, Option, Some, None, All, ap, arith, drop, length, map, option_map, position, refl, subst, sym, take}
use Rattle.std.specs.Prelude.{nat_lt}
use Rattle.std.specs.List.{join_with_byte, onto_first, position_or_len, slice_split}
use Rattle.std.proofs.lemmas.Bool.{ltb-false, ltb-true}
use Rattle.std.proofs.lemmas.List.{append_assoc, length-drop, take_all}
use Rattle.std.proofs.lemmas.List.Elements.{All-from_get_or}
use Rattle.std.proofs.lemmas.List.Splits.{slice_split_first, slice_split_none}
use Rattle.std.proofs.lemmas.List.Sums.{fails_before_first}
use Rattle.log_text.specs.Names.{lines_of, without_name, without_names}

abbrev is_feed : ℕ → Bool
is_feed byte = byte == 10

-- where the first line feed stands, if there is one
found : (text : List ℕ) (at : ℕ) → position is_feed text ≡ Some at → (position_or_len is_feed text ≡ at) × (position_or_len is_feed text < length text)
found text at is = go (nat_lt (position_or_len is_feed text) (length text)) refl is
  where
    go : (b : Bool) → nat_lt (position_or_len is_feed text) (length text) ≡ b → cond b (Some (position_or_len is_feed text)) None ≡ Some at
        → (position_or_len is_feed text ≡ at) × (position_or_len is_feed text < length text)
    go true less is = (cc, ltb-true (position_or_len is_feed text) (length text) less)
    go false more is = absurd cc

unfound : (text : List ℕ) → position is_feed text ≡ None → length text ≤ position_or_len is_feed text
unfound text is = go (nat_lt (position_or_len is_feed text) (length text)) refl is
  where
    go : (b : Bool) → nat_lt (position_or_len is_feed text) (length text) ≡ b → cond b (Some (position_or_len is_feed text)) None ≡ None
        → length text ≤ position_or_len is_feed text
    go true less is = absurd cc
    go false more is = ltb-false (position_or_len is_feed text) (length text) more

-- the bytes behind it, all of them
pub first_line : (text : List ℕ) (at : ℕ) → position is_feed text ≡ Some at → lines_of text ≡ take at text ∷ lines_of (take (length text - (at + 1)) (drop (at + 1) text))
first_line text at is =
    let there = found text at is in
    let long : length (drop (at + 1) text) ≡ length text - (at + 1) = length-drop (at + 1) text in
    let all : take (length text - (at + 1)) (drop (at + 1) text) ≡ drop (at + 1) text = take_all (length text - (at + 1)) (drop (at + 1) text) (omega (arith, long)) in
    subst (λ n. lines_of text ≡ take n text ∷ lines_of (drop (n + 1) text)) there.0 (slice_split_first is_feed text 0 there.1)
    ∙ ap (λ (rest : List ℕ). take at text ∷ lines_of rest) (sym all)

pub only_line : (text : List ℕ) → position is_feed text ≡ None → lines_of text ≡ text ∷ []
only_line text is =
    let none = unfound text is in
    slice_split_none is_feed text (All-from_get_or (λ byte. is_feed byte ≡ false) text 0 (λ i less. fails_before_first is_feed text i 0 (omega (arith, less, none))))

-- each text has a line
onto_some : (byte : ℕ) (lines : List (List ℕ)) → (y : List ℕ) × (ys : List (List ℕ)) × (onto_first byte lines ≡ y ∷ ys)
onto_some byte [] = (byte ∷ [], [], refl)
onto_some byte (line ∷ lines) = (byte ∷ line, lines, refl)

pub some_line : (text : List ℕ) → (y : List ℕ) × (ys : List (List ℕ)) × (lines_of text ≡ y ∷ ys)
some_line [] = ([], [], refl)
some_line (byte ∷ text) = go (is_feed byte)
  where
    go : (b : Bool) → (y : List ℕ) × (ys : List (List ℕ)) × (cond b ([] ∷ slice_split is_feed text) (onto_first byte (slice_split is_feed text)) ≡ y ∷ ys)
    go true = ([], slice_split is_feed text, refl)
    go false = onto_some byte (slice_split is_feed text)

-- the text is the line, and what stands behind its line feed
pub cut_first : (text line tail : List ℕ) → lines_of text ≡ line ∷ lines_of tail → without_names text ≡ without_name line ++ 10 ∷ without_names tail
cut_first text line tail is =
    let some = some_line tail in
    ap (λ lines. join_with_byte 10 (map without_name lines)) (is ∙ ap (λ lines. line ∷ lines) some.2)
    ∙ ap (λ lines. without_name line ++ 10 ∷ join_with_byte 10 (map without_name lines)) (sym some.2)

pub cut_only : (text line : List ℕ) → lines_of text ≡ line ∷ [] → without_names text ≡ without_name line
cut_only text line is = ap (λ lines. join_with_byte 10 (map without_name lines)) is

pub one_more : (whole kept with_line more text line tail : List ℕ) → kept ++ without_names text ≡ whole → lines_of text ≡ line ∷ lines_of tail
    → with_line ≡ kept ++ without_name line → more ≡ with_line ++ 10 ∷ [] → more ++ without_names tail ≡ whole
one_more whole kept with_line more text line tail so_far is then behind =
    ap (λ m. m ++ without_names tail) (behind ∙ ap (λ w. w ++ 10 ∷ []) then)
    ∙ append_assoc (kept ++ without_name line) (10 ∷ []) (without_names tail)
    ∙ append_assoc kept (without_name line) (10 ∷ without_names tail)
    ∙ ap (λ t. kept ++ t) (sym (cut_first text line tail is))
    ∙ so_far

pub last_one : (whole kept more text line : List ℕ) → kept ++ without_names text ≡ whole → lines_of text ≡ line ∷ []
    → more ≡ kept ++ without_name line → more ≡ whole
last_one whole kept more text line so_far is then = then ∙ ap (λ t. kept ++ t) (sym (cut_only text line is)) ∙ so_far
