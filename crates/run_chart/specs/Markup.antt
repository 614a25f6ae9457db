-- Markup: elements with attributes and texts (Extensible Markup Language 1.0, sections 2.4, 3.1 and 4.6).
use Rattle.std.specs.Prelude.{ℕ, List, [], ◌∷◌, ◌++◌, ◌==◌, if◌then◌else◌, codes, decimal}
use Rattle.std.specs.List.{flat_map}
use Rattle.run_chart.specs.declared.markup.Value.{Value}
use Rattle.run_chart.specs.declared.markup.Value.TheVariants.{Number, Numbers, Text}
use Rattle.run_chart.specs.declared.markup.Attribute.{Attribute}

-- &, <, > and " stand as references to them (section 4.6), every other byte for itself
abbrev pub escaped_byte : ℕ → List ℕ
escaped_byte b =
    if b == 38 then codes "&amp;"
    else if b == 60 then codes "&lt;"
    else if b == 62 then codes "&gt;"
    else if b == 34 then codes "&quot;"
    else b ∷ []

abbrev pub escaped : List ℕ → List ℕ
escaped text = flat_map escaped_byte text

abbrev pub number : ℕ → List ℕ
number n = decimal n

-- a number of several
abbrev pub spaced : ℕ → List ℕ
spaced n = number n ++ 32 ∷ []

abbrev pub value : Value → List ℕ
value (Number n) = number n
value (Numbers ns) = flat_map spaced ns.now
value (Text text) = escaped text.now

-- a name and what it is set to, between quotation marks
abbrev pub attribute_set : List ℕ → List ℕ → List ℕ
attribute_set name text = 32 ∷ (name ++ (61 ∷ 34 ∷ (text ++ 34 ∷ [])))

abbrev pub attribute : Attribute → List ℕ
attribute a = attribute_set a.name.now (value a.value)

abbrev pub number_attribute : List ℕ → ℕ → List ℕ
number_attribute name n = attribute_set name (number n)

abbrev pub numbers_attribute : List ℕ → List ℕ → List ℕ
numbers_attribute name ns = attribute_set name (flat_map spaced ns)

abbrev pub text_attribute : List ℕ → List ℕ → List ℕ
text_attribute name text = attribute_set name (escaped text)

-- the tag that begins an element with these attributes
abbrev pub opened : List ℕ → List ℕ → List ℕ
opened name attributes = 60 ∷ (name ++ (attributes ++ 62 ∷ []))

-- the tag that ends it
abbrev pub closed : List ℕ → List ℕ
closed name = 60 ∷ 47 ∷ (name ++ 62 ∷ 10 ∷ [])

-- an element whose content is a text
abbrev pub element : List ℕ → List ℕ → List ℕ → List ℕ
element name attributes text = opened name attributes ++ (escaped text ++ closed name)
