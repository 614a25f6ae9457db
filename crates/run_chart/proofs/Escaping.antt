-- Escaped texts have no byte of markup but references.
use Rattle.std.proofs.Common.{◌≡◌, ◌∙◌, refl, ℕ, Bool, true, false, ◌==◌, List, [], ◌∷◌}
use Rattle.std.proofs.lemmas.List.Folds.{list_all-append}
use Rattle.std.specs.Prelude.{if◌then◌else◌, codes}
use Rattle.std.specs.List.{list_all}
use Rattle.run_chart.specs.Laws.{is_plain}
use Rattle.run_chart.specs.Markup.{escaped, escaped_byte}

plain_34 : (b : ℕ) (t : Bool) → (b == 34) ≡ t → (b == 60) ≡ false → (b == 62) ≡ false → list_all is_plain (if t then codes "&quot;" else b ∷ []) ≡ true
plain_34 b true e m g = refl
plain_34 b false e m g = rw (m, g, e) refl

plain_62 : (b : ℕ) (t : Bool) → (b == 62) ≡ t → (b == 60) ≡ false → list_all is_plain (if t then codes "&gt;" else if b == 34 then codes "&quot;" else b ∷ []) ≡ true
plain_62 b true e m = refl
plain_62 b false e m = plain_34 b (b == 34) refl m e

plain_60 : (b : ℕ) (t : Bool) → (b == 60) ≡ t → list_all is_plain (if t then codes "&lt;" else if b == 62 then codes "&gt;" else if b == 34 then codes "&quot;" else b ∷ []) ≡ true
plain_60 b true e = refl
plain_60 b false e = plain_62 b (b == 62) refl e

plain_38 : (b : ℕ) (t : Bool) → list_all is_plain (if t then codes "&amp;" else if b == 60 then codes "&lt;" else if b == 62 then codes "&gt;" else if b == 34 then codes "&quot;" else b ∷ []) ≡ true
plain_38 b true = refl
plain_38 b false = plain_60 b (b == 60) refl

plain_byte : (b : ℕ) → list_all is_plain (escaped_byte b) ≡ true
plain_byte b = plain_38 b (b == 38)

-- no byte of an escaped text is one that markup is made of, but for references
pub plain_text : (text : List ℕ) → list_all is_plain (escaped text) ≡ true
plain_text [] = refl
plain_text (b ∷ text) = list_all-append is_plain (escaped_byte b) (escaped text) ∙ rw (plain_byte b, plain_text text) refl
