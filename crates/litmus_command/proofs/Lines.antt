-- Lists read line by line.
use Rattle.std.proofs.Common.{◌≡◌, ◌∙◌, ℕ, suc, ◌==◌, Bool, true, false, List, [], ◌∷◌, ◌++◌, ap, append_assoc, cond, drop, sym, take}
use Rattle.std.specs.Prelude.{String, reverse, string_bytes}
use Rattle.std.specs.Global.{Global}
use Rattle.std.proofs.lemmas.List.{append-nil, map-append, reverse-reverse}
use Rattle.litmus_command.specs.Listing.{length_before, names_from, names_of_line, texts_of, trimmed}

-- ---- lines

split_on : (folder line text : List ℕ) → names_from folder line text ≡ names_of_line folder (trimmed (line ++ take (length_before 10 text) text)) ++ names_from folder [] (drop 1 (drop (length_before 10 text) text))
split_on folder line [] = ap (λ (l : List ℕ). names_of_line folder (trimmed l)) (sym (append-nil line)) ∙ sym (append-nil _)
split_on folder line (b ∷ text) = go (b == 10) (split_on folder (line ++ b ∷ []) text)
  where
    go : (test : Bool)
        → names_from folder (line ++ b ∷ []) text ≡ names_of_line folder (trimmed ((line ++ b ∷ []) ++ take (length_before 10 text) text)) ++ names_from folder [] (drop 1 (drop (length_before 10 text) text))
        → cond test (names_of_line folder (trimmed line) ++ names_from folder [] text) (names_from folder (line ++ b ∷ []) text)
        ≡ names_of_line folder (trimmed (line ++ take (cond test 0 (suc (length_before 10 text))) (b ∷ text))) ++ names_from folder [] (drop 1 (drop (cond test 0 (suc (length_before 10 text))) (b ∷ text)))
    go true others = ap (λ (l : List ℕ). names_of_line folder (trimmed l) ++ names_from folder [] text) (sym (append-nil line))
    go false others = others ∙ ap (λ (l : List ℕ). names_of_line folder (trimmed l) ++ names_from folder [] (drop 1 (drop (length_before 10 text) text))) (append_assoc line (b ∷ []) (take (length_before 10 text) text))

-- the names of the first line, and those of the others
pub line_read : (folder rest line others : List ℕ) (all old new : List (List ℕ)) → old ++ names_from folder [] rest ≡ all → line ≡ take (length_before 10 rest) rest
    → others ≡ drop 1 (drop (length_before 10 rest) rest) → new ≡ old ++ names_of_line folder (trimmed line) → new ++ names_from folder [] others ≡ all
line_read folder rest line others all old new so first behind more =
    rw (more, first, behind) (append_assoc old (names_of_line folder (trimmed (take (length_before 10 rest) rest))) (names_from folder [] (drop 1 (drop (length_before 10 rest) rest))) ∙ ap (λ (l : List (List ℕ)). old ++ l) (sym (split_on folder [] rest)) ∙ so)

-- ---- names that wait

pub texts-append : (one other : List (String Global)) → texts_of (one ++ other) ≡ texts_of one ++ texts_of other
texts-append one other = map-append string_bytes one other

pub last_first : (names : List (String Global)) → texts_of (reverse (reverse names)) ≡ texts_of names
last_first names = ap texts_of (reverse-reverse names)
