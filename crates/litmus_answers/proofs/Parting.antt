-- Harts' parts, one by one.
use Rattle.std.proofs.Common.{◌≡◌, ◌∙◌, ◌+◌, ℕ, List, [], ◌∷◌, ◌++◌, Ok, ap, length, arith, subst, sym}
use Rattle.std.specs.Global.{Vec}
use Rattle.litmus_image.specs.declared.part.Part.{Part}
use Rattle.litmus_text.specs.Tests.{Meaning}
use Rattle.litmus_image.specs.Image.{words_of}
use Rattle.litmus_answers.specs.Layouts.{AreParts, ArePartsFrom, IsLayout, IsPart, addresses_of, beginnings_of, harts_told, locations_told}
use Rattle.litmus_answers.specs.Naming.{AreSorted, names_in}
use Rattle.litmus_answers.specs.declared.layout.Layout.{Layout}

behind : (t : Meaning) (names : List (Vec ℕ)) (hart : ℕ) (parts : List Part) (part : Part) → ArePartsFrom t names hart parts → IsPart t names (hart + length parts) part → ArePartsFrom t names hart (parts ++ part ∷ [])
behind t names hart [] part are is =
    let same : hart + 0 ≡ hart = omega arith in
    (subst (λ h. IsPart t names h part) same is, tt)
behind t names hart (p ∷ parts) part are is =
    let same : hart + length (p ∷ parts) ≡ hart + 1 + length parts = omega arith in
    (are.0, behind t names (hart + 1) parts part are.1 (subst (λ h. IsPart t names h part) same is))

-- one more hart has its part
pub one_more : (t : Meaning) (names : List (Vec ℕ)) (hart : ℕ) (parts : List Part) (part : Part) → ArePartsFrom t names 0 parts → length parts ≡ hart → IsPart t names hart part → ArePartsFrom t names 0 (parts ++ part ∷ [])
one_more t names hart parts part are count is =
    let same : hart ≡ 0 + length parts = omega arith in
    behind t names 0 parts part are (subst (λ h. IsPart t names h part) same is)

-- the whole
pub is_layout : (t : Meaning) (layout : Layout) (parts : List Part) (numbers : List ℕ) → AreSorted (names_in t) layout.names.items → AreParts t layout.names.items parts
    → numbers ≡ beginnings_of layout.names.items t.values layout.names.items → words_of parts numbers ≡ Ok layout.words.items
    → layout.told.items ≡ harts_told 0 parts ++ locations_told t 0 layout.names.items → layout.addresses.items ≡ addresses_of t.asking layout.names.items → IsLayout t layout
is_layout t layout parts numbers names are_parts same words told addresses = record {
  names = names;
  parts = parts;
  are_parts = are_parts;
  words = ap (words_of parts) (sym same) ∙ words;
  told = told;
  addresses = addresses;
}
