-- A text that is blanked from the left.
use Rattle.std.proofs.Common.{◌≡◌, ℕ, zero, suc, ◌+◌, ◌-◌, ◌<◌, ◌≤◌, Bool, true, false, cond, List, [], ◌∷◌, ◌++◌, length, get_or, take, drop, refl, sym, ap, subst, ◌∙◌, append_assoc, arith}
use Rattle.std.proofs.lemmas.Bool.{ne_eqb}
use Rattle.std.proofs.lemmas.List.{append-nil, drop_more, take_all, take_more}
use Rattle.std.specs.Prelude.{◌==◌, ◌&&◌, ◌||◌, Option, Some, None, Result, Ok, Err}
use Rattle.text_words.specs.Comments.{uncommented, behind, with_byte, pass, at_end, open_comment, depth_of, behind_mark, blank_for, is_next}
use Rattle.text_words.specs.declared.comments.Place.{Place}
use Rattle.text_words.specs.declared.comments.Place.TheVariants.{Text, Quotation, Mark, Comment}

pub behind_none : (read : Result (List ℕ) ℕ) → behind [] read ≡ read
behind_none (Ok bytes) = refl
behind_none (Err left) = refl

behind_byte : (front : List ℕ) (b : ℕ) (read : Result (List ℕ) ℕ) → behind front (with_byte b read) ≡ behind (front ++ b ∷ []) read
behind_byte front b (Ok bytes) = ap (λ (l : List ℕ). Ok l) (sym (append_assoc front (b ∷ []) bytes))
behind_byte front b (Err left) = refl

-- one byte more
pub blanked_more : (front : List ℕ) (place : Place) (b : ℕ) (bytes : List ℕ) (total : Result (List ℕ) ℕ) → behind front (uncommented place (b ∷ bytes)) ≡ total → behind (front ++ (pass place b bytes).1 ∷ []) (uncommented (pass place b bytes).0 bytes) ≡ total
unfolding uncommented
blanked_more front place b bytes total h = sym (behind_byte front (pass place b bytes).1 (uncommented (pass place b bytes).0 bytes)) ∙ h

-- a byte that stands for itself
text_byte : (b : ℕ) (bytes : List ℕ) → (b == 34) ≡ false → (b == 40) ≡ false → uncommented Text (b ∷ bytes) ≡ with_byte b (uncommented Text bytes)
unfolding uncommented pass
text_byte b bytes quote mark = rw (quote, mark) refl

quoted_byte : (b : ℕ) (bytes : List ℕ) → (b == 34) ≡ false → (b == 10) ≡ false → uncommented Quotation (b ∷ bytes) ≡ with_byte b (uncommented Quotation bytes)
unfolding uncommented pass
quoted_byte b bytes quote end = rw (quote, end) refl

plain_more : (place : Place) (bytes : List ℕ) (i : ℕ) → i < length bytes → uncommented place (get_or bytes i 0 ∷ drop (i + 1) bytes) ≡ with_byte (get_or bytes i 0) (uncommented place (drop (i + 1) bytes)) → uncommented place bytes ≡ behind (take i bytes) (uncommented place (drop i bytes)) → uncommented place bytes ≡ behind (take (i + 1) bytes) (uncommented place (drop (i + 1) bytes))
plain_more place bytes i lt is h =
    let b : ℕ = get_or bytes i 0 in
    let later : List ℕ = drop (i + 1) bytes in
    h
    ∙ ap (λ (l : List ℕ). behind (take i bytes) (uncommented place l)) (drop_more bytes i 0 lt)
    ∙ ap (behind (take i bytes)) is
    ∙ behind_byte (take i bytes) b (uncommented place later)
    ∙ ap (λ (l : List ℕ). behind l (uncommented place later)) (sym (take_more bytes i 0 lt))

pub text_more : (bytes : List ℕ) (i : ℕ) → i < length bytes → (get_or bytes i 0 ≡ 34 → ⊥) → (get_or bytes i 0 ≡ 40 → ⊥) → uncommented Text bytes ≡ behind (take i bytes) (uncommented Text (drop i bytes)) → uncommented Text bytes ≡ behind (take (i + 1) bytes) (uncommented Text (drop (i + 1) bytes))
text_more bytes i lt quote mark = plain_more Text bytes i lt (text_byte (get_or bytes i 0) (drop (i + 1) bytes) (ne_eqb (get_or bytes i 0) 34 quote) (ne_eqb (get_or bytes i 0) 40 mark))

pub quoted_more : (bytes : List ℕ) (i : ℕ) → i < length bytes → (get_or bytes i 0 ≡ 34 → ⊥) → (get_or bytes i 0 ≡ 10 → ⊥) → uncommented Quotation bytes ≡ behind (take i bytes) (uncommented Quotation (drop i bytes)) → uncommented Quotation bytes ≡ behind (take (i + 1) bytes) (uncommented Quotation (drop (i + 1) bytes))
quoted_more bytes i lt quote end = plain_more Quotation bytes i lt (quoted_byte (get_or bytes i 0) (drop (i + 1) bytes) (ne_eqb (get_or bytes i 0) 34 quote) (ne_eqb (get_or bytes i 0) 10 end))

pub none_plain : (place : Place) (bytes : List ℕ) → uncommented place bytes ≡ behind [] (uncommented place bytes)
none_plain place bytes = sym (behind_none (uncommented place bytes))

behind_both : (front more : List ℕ) (read : Result (List ℕ) ℕ) → behind (front ++ more) read ≡ behind front (behind more read)
behind_both front more (Ok bytes) = ap (λ (l : List ℕ). Ok l) (append_assoc front more bytes)
behind_both front more (Err left) = refl

-- what stands for itself is passed at once
pub behind_plain : (place : Place) (front bytes : List ℕ) (i : ℕ) → uncommented place bytes ≡ behind (take i bytes) (uncommented place (drop i bytes)) → behind (front ++ take i bytes) (uncommented place (drop i bytes)) ≡ behind front (uncommented place bytes)
behind_plain place front bytes i h = behind_both front (take i bytes) (uncommented place (drop i bytes)) ∙ ap (behind front) (sym h)

-- nothing is left
pub blanked_all : (front : List ℕ) (place : Place) (bytes : List ℕ) (open_now : Option ℕ) (total : Result (List ℕ) ℕ) → length bytes < 1 → open_now ≡ open_comment place → behind front (uncommented place bytes) ≡ total → total ≡ behind front (at_end open_now)
unfolding uncommented
blanked_all front place [] open_now total none is h = sym h ∙ ap (λ (o : Option ℕ). behind front (at_end o)) (sym is)
blanked_all front place (b ∷ bytes) open_now total none is h = absurd (omega arith)

pub blanked_well : (front : List ℕ) (total : Result (List ℕ) ℕ) → total ≡ behind front (at_end None) → total ≡ Ok front
blanked_well front total h = h ∙ ap (λ (l : List ℕ). Ok l) (append-nil front)

-- one byte more, as a loop takes it
pub blanked_next : (front : List ℕ) (place : Place) (bytes tail : List ℕ) (next : Place × ℕ) (total : Result (List ℕ) ℕ) → 1 ≤ length bytes → tail ≡ take (length bytes - 1) (drop 1 bytes) → next ≡ pass place (get_or bytes 0 0) tail → behind front (uncommented place bytes) ≡ total → behind (front ++ next.1 ∷ []) (uncommented next.0 tail) ≡ total
blanked_next front place [] tail next total some rest e h = absurd (omega arith)
blanked_next front place (b ∷ bytes) tail next total some rest e h =
    let same : tail ≡ bytes = rest ∙ take_all (length (b ∷ bytes) - 1) bytes (omega arith) in
    let is : next ≡ pass place b bytes = e ∙ ap (pass place b) same in
    let goes : behind (front ++ (pass place b bytes).1 ∷ []) (uncommented (pass place b bytes).0 bytes) ≡ total = blanked_more front place b bytes total h in
    subst (λ (n : Place × ℕ). behind (front ++ n.1 ∷ []) (uncommented n.0 tail) ≡ total) (sym is) (subst (λ (t : List ℕ). behind (front ++ (pass place b bytes).1 ∷ []) (uncommented (pass place b bytes).0 t) ≡ total) (sym same) goes)

tested_place : (test : Bool) (p q : Place × ℕ) (bound : ℕ) → depth_of p.0 ≤ bound → depth_of q.0 ≤ bound → depth_of (cond test p q).0 ≤ bound
tested_place true p q bound h k = h
tested_place false p q bound h k = k

marked : (depth start : ℕ) → depth_of (behind_mark depth start) ≤ depth + 1
marked zero start = omega arith
marked (suc depth) start = omega arith

-- a byte opens one comment at most
pub deeper : (place : Place) (b : ℕ) (bytes : List ℕ) → depth_of (pass place b bytes).0 ≤ depth_of place + 1
unfolding pass
deeper Text b bytes = tested_place (b == 34) (Quotation, b) (cond (b == 40 && is_next 42 bytes) (Mark 1 (length bytes), 32) (Text, b)) 1 (omega arith) (tested_place (b == 40 && is_next 42 bytes) (Mark 1 (length bytes), 32) (Text, b) 1 (omega arith) (omega arith))
deeper Quotation b bytes = tested_place (b == 34 || b == 10) (Text, b) (Quotation, b) 1 (omega arith) (omega arith)
deeper (Mark depth start) b bytes = marked depth start
deeper (Comment depth start) b bytes =
    tested_place (b == 40 && is_next 42 bytes) (Mark (depth + 1) start, 32) (cond (b == 42 && is_next 41 bytes) (Mark (depth - 1) start, 32) (Comment depth start, blank_for b)) (depth + 1) (omega arith)
    (tested_place (b == 42 && is_next 41 bytes) (Mark (depth - 1) start, 32) (Comment depth start, blank_for b) (depth + 1) (omega arith) (omega arith))
