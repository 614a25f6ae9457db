-- Which lines a file allows.
use Rattle.std.specs.Prelude.{ℕ, ◌==◌, ◌-◌, ◌&&◌, ◌||◌, ◌∷◌, [], Bool, List, codes, drop, if◌then◌else◌, length, map, nat_le, take}
use Rattle.std.specs.Borrow.{Bor}
use Rattle.std.specs.List.{list_any}
use Rattle.std.specs.Str.{bytes_eq}
use Rattle.bstr.specs.Text.{lines_of, without_terminator}
use Rattle.allowed_outcomes.specs.Patterns.{fits, is_pattern}

-- a digit or a space
abbrev pub is_of_number : ℕ → Bool
is_of_number b = b == 32 || nat_le 48 b && nat_le b 57

-- what stands behind the digits and spaces at the beginning
abbrev pub without_number : List ℕ → List ℕ
without_number [] = []
without_number (b ∷ bs) = if is_of_number b then without_number bs else b ∷ bs

-- what may stand behind an outcome where a search under a memory model prints it: who comes to it
abbrev pub sources : List (List ℕ)
sources = codes "   this machine" ∷ codes "   without a script" ∷ codes "   RVWMO alone" ∷ codes "   Ztso alone" ∷ codes "   RVWMO" ∷ codes "   Ztso" ∷ []

-- the line ends so
abbrev pub is_ended_by : List ℕ → List ℕ → Bool
is_ended_by line ending = bytes_eq (drop (length line - length ending) line) ending

-- the line without the first of these endings that it has, if it has one
abbrev pub without_ending : List (List ℕ) → List ℕ → List ℕ
without_ending [] line = line
without_ending (ending ∷ endings) line = if is_ended_by line ending then take (length line - length ending) line else without_ending endings line

abbrev pub without_source : List ℕ → List ℕ
without_source = without_ending sources

-- the outcome that a line tells: without its number, and without who comes to it
abbrev pub outcome_in : List ℕ → List ℕ
outcome_in line = without_source (without_number line)

-- the outcomes that the lines of a text tell
abbrev pub allowed_lines : List ℕ → List (List ℕ)
allowed_lines text = map outcome_in (map without_terminator (lines_of text))

-- a line of the text allows an outcome: it is the same, or has a * and fits it
abbrev pub allows : List ℕ → List ℕ → Bool
allows outcome line = bytes_eq outcome line || (is_pattern line && fits line outcome)

-- one of the lines of the text allows this outcome
abbrev pub is_allowed_line : List ℕ → List ℕ → Bool
is_allowed_line text outcome = list_any (allows outcome) (allowed_lines text)

abbrev pub has_line : List (Bor (List ℕ)) → List ℕ → Bool
has_line lines line = list_any (λ each. bytes_eq line each.now) lines

abbrev pub has_pattern : List (Bor (List ℕ)) → List ℕ → Bool
has_pattern patterns line = list_any (λ each. fits each.now line) patterns

-- it is one of the lines, or fits one of the patterns
abbrev pub knows : (lines patterns : List (Bor (List ℕ))) → List ℕ → Bool
knows lines patterns line = has_line lines line || has_pattern patterns line
