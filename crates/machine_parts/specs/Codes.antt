-- How a cache is stored: as its fields, its copies each as its variant's fields. The codes of everything else are found.
use Rattle.std.specs.Prelude.{ℕ, Bool, true, false, ◌≡◌, ◌⊎◌, List, refl}
use Rattle.std.proofs.Common.{inl, inr}
use Rattle.std.specs.Coded.{Coded, code_by, coded×, coded⊎, coded_ℕ, coded_bool, coded_list}
use Rattle.client_cache.specs.Cache.{Cache, cache_code}
use Rattle.client_cache.specs.declared.held.Held.{Held}
use Rattle.client_cache.specs.declared.held.Held.TheVariants.{Branch, Trunk}
use Rattle.client_cache.specs.declared.shape.Shape.{Shape}
use Rattle.tl_types.specs.declared.line.LineData.{LineData}
use Rattle.tl_types.specs.declared.line.LineData.TheVariants as bytes
use Rattle.tl_types.specs.declared.line.LineSize.{LineSize}
use Rattle.tl_types.specs.declared.line.LineSize.TheVariants as size

abbrev pub size_to : LineSize → Bool
size_to size.Bytes16 = false
size_to size.Bytes64 = true

abbrev pub size_from : Bool → LineSize
size_from false = size.Bytes16
size_from true = size.Bytes64

pub size_again : (s : LineSize) → size_from (size_to s) ≡ s
size_again size.Bytes16 = refl
size_again size.Bytes64 = refl

abbrev pub shape_code : Coded Shape
shape_code = code_by (ℕ × (ℕ × LineSize)) (coded× coded_ℕ (coded× coded_ℕ (code_by Bool coded_bool size_to size_from size_again))) (λ s. (s.sets, (s.ways, s.size))) (λ p. record { sets = p.0; ways = p.1.0; size = p.1.1 }) (λ _. refl)

abbrev pub line_to : LineData → List ℕ ⊎ List ℕ
line_to (bytes.Bytes16 b) = inl b
line_to (bytes.Bytes64 b) = inr b

abbrev pub line_from : List ℕ ⊎ List ℕ → LineData
line_from (inl b) = bytes.Bytes16 b
line_from (inr b) = bytes.Bytes64 b

pub line_again : (d : LineData) → line_from (line_to d) ≡ d
line_again (bytes.Bytes16 b) = refl
line_again (bytes.Bytes64 b) = refl

abbrev pub line_code : Coded LineData
line_code = code_by (List ℕ ⊎ List ℕ) (coded⊎ (coded_list coded_ℕ) (coded_list coded_ℕ)) line_to line_from line_again

abbrev pub held_to : Held → LineData ⊎ (Bool × LineData)
held_to (Branch b) = inl b
held_to (Trunk dirty b) = inr (dirty, b)

abbrev pub held_from : LineData ⊎ (Bool × LineData) → Held
held_from (inl b) = Branch b
held_from (inr p) = Trunk p.0 p.1

pub held_again : (h : Held) → held_from (held_to h) ≡ h
held_again (Branch b) = refl
held_again (Trunk dirty b) = refl

abbrev pub held_code : Coded Held
held_code = code_by (LineData ⊎ (Bool × LineData)) (coded⊎ line_code (coded× coded_bool line_code)) held_to held_from held_again

abbrev pub cache_coded : Coded Cache
cache_coded = cache_code shape_code held_code
