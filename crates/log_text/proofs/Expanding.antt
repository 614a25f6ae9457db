-- A log's text line by line, and what it stands for.
use Rattle.std.proofs.Common.{ℕ, ◌≡◌, ◌∙◌, ◌++◌, Bool, true, false, List, [], ◌∷◌, ap, subst, sym}
use Rattle.std.specs.Prelude.{◌||◌, codes}
use Rattle.std.proofs.lemmas.List.{append_assoc}
use Rattle.log_text.proofs.Lines.{some_line}
use Rattle.log_text.specs.Meant.{Start, asks_text, gives_text, line_meant, meant_from, message_text, opening_text}
use Rattle.log_text.specs.Names.{is_message_line, lines_of}

module _ (skip begun : Bool) (text : List ℕ) where
  first_meant : (line tail : List ℕ) → meant_from skip begun text (line ∷ lines_of tail) ≡ line_meant skip begun text line ++ meant_from skip (begun || is_message_line line) text (lines_of tail)
  first_meant line tail =
      let some = some_line tail in
      ap (λ lines. meant_from skip begun text (line ∷ lines)) some.2
      ∙ ap (λ lines. line_meant skip begun text line ++ meant_from skip (begun || is_message_line line) text lines) (sym some.2)

  pub one_further : (whole kept more rest line tail : List ℕ) → kept ++ meant_from skip begun text (lines_of rest) ≡ whole → lines_of rest ≡ line ∷ lines_of tail
      → more ≡ kept ++ line_meant skip begun text line → more ++ meant_from skip (begun || is_message_line line) text (lines_of tail) ≡ whole
  one_further whole kept more rest line tail so_far is then =
      ap (λ m. m ++ meant_from skip (begun || is_message_line line) text (lines_of tail)) then
      ∙ append_assoc kept (line_meant skip begun text line) (meant_from skip (begun || is_message_line line) text (lines_of tail))
      ∙ ap (λ t. kept ++ t) (sym (ap (meant_from skip begun text) is ∙ first_meant line tail))
      ∙ so_far

  pub further_begun : (whole kept more rest line tail : List ℕ) → begun ≡ true → kept ++ meant_from skip begun text (lines_of rest) ≡ whole → lines_of rest ≡ line ∷ lines_of tail
      → more ≡ kept ++ line_meant skip begun text line → more ++ meant_from skip begun text (lines_of tail) ≡ whole
  further_begun whole kept more rest line tail has so_far is then =
      subst (λ (b : Bool). more ++ meant_from skip b text (lines_of tail) ≡ whole) (ap (λ (b : Bool). b || is_message_line line) has ∙ sym has) (one_further whole kept more rest line tail so_far is then)

  pub further_new : (whole kept more rest line tail : List ℕ) (begins : Bool) → begun ≡ false → begins ≡ is_message_line line → kept ++ meant_from skip begun text (lines_of rest) ≡ whole → lines_of rest ≡ line ∷ lines_of tail
      → more ≡ kept ++ line_meant skip begun text line → more ++ meant_from skip begins text (lines_of tail) ≡ whole
  further_new whole kept more rest line tail begins lacks new so_far is then =
      subst (λ (b : Bool). more ++ meant_from skip b text (lines_of tail) ≡ whole) (ap (λ (b : Bool). b || is_message_line line) lacks ∙ sym new) (one_further whole kept more rest line tail so_far is then)

  pub last_line : (whole kept more rest line : List ℕ) → kept ++ meant_from skip begun text (lines_of rest) ≡ whole → lines_of rest ≡ line ∷ [] → more ≡ kept ++ line → more ≡ whole
  last_line whole kept more rest line so_far is then = then ∙ ap (λ t. kept ++ t) (sym (ap (meant_from skip begun text) is)) ∙ so_far

-- one part behind another
pub put_two : (old mid new a b : List ℕ) → mid ≡ old ++ a → new ≡ mid ++ b → new ≡ old ++ (a ++ b)
put_two old mid new a b first then = then ∙ ap (λ m. m ++ b) first ∙ append_assoc old a b

-- the six messages of a start, one behind another
pub opening_put : (s : Start) (asks gives m0 m1 m2 m3 m4 m5 m6 : List ℕ) → asks ≡ asks_text s.kept → gives ≡ gives_text s.kept
    → m1 ≡ m0 ++ message_text (codes "M s A ") (codes " AcquireBlock ") asks [] s → m2 ≡ m1 ++ message_text (codes "M t A ") (codes " AcquireBlock ") asks [] s
    → m3 ≡ m2 ++ message_text (codes "M s D ") (codes " GrantData ") gives s.bytes s → m4 ≡ m3 ++ message_text (codes "M t D ") (codes " GrantData ") gives s.bytes s
    → m5 ≡ m4 ++ message_text (codes "M s E ") (codes " GrantAck ") [] [] s → m6 ≡ m5 ++ message_text (codes "M t E ") (codes " GrantAck ") [] [] s
    → m6 ≡ m0 ++ opening_text s
opening_put s asks gives m0 m1 m2 m3 m4 m5 m6 is_asks is_gives e1 e2 e3 e4 e5 e6 =
    put_two m0 m1 m6 _ _ (asked m1 m0 (codes "M s A ") e1)
    (put_two m1 m2 m6 _ _ (asked m2 m1 (codes "M t A ") e2)
    (put_two m2 m3 m6 _ _ (given m3 m2 (codes "M s D ") e3)
    (put_two m3 m4 m6 _ _ (given m4 m3 (codes "M t D ") e4)
    (put_two m4 m5 m6 _ _ e5 e6))))
  where
    asked : (new old lead : List ℕ) → new ≡ old ++ message_text lead (codes " AcquireBlock ") asks [] s → new ≡ old ++ message_text lead (codes " AcquireBlock ") (asks_text s.kept) [] s
    asked new old lead e = e ∙ ap (λ (more : List ℕ). old ++ message_text lead (codes " AcquireBlock ") more [] s) is_asks

    given : (new old lead : List ℕ) → new ≡ old ++ message_text lead (codes " GrantData ") gives s.bytes s → new ≡ old ++ message_text lead (codes " GrantData ") (gives_text s.kept) s.bytes s
    given new old lead e = e ∙ ap (λ (more : List ℕ). old ++ message_text lead (codes " GrantData ") more s.bytes s) is_gives
