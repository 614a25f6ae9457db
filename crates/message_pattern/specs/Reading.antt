-- Reading from left to right. What is read is what is spelled so (`spelled` and `unread` of pattern_in say it).
use Rattle.std.specs.Prelude.{ℕ, List, [], ◌∷◌, None, Option, Some, codes}
use Rattle.std.specs.Option.{option_or}
use Rattle.message_pattern.specs.declared.pattern.MessageName.{MessageName}
use Rattle.message_pattern.specs.declared.pattern.MessageName.TheVariants as names
use Rattle.message_pattern.specs.declared.pattern.MessagePattern.{MessagePattern}
use Rattle.text_fields.specs.Reading.{◌>>=◌, after, number_at, pair_at, seen_at, table_at, word_at}

abbrev pub known_names : List (List ℕ × MessageName)
known_names =
    (codes "AcquireBlock ", names.AcquireBlock) ∷ (codes "ProbeBlock ", names.ProbeBlock) ∷ (codes "ProbeAck ", names.ProbeAck)
    ∷ (codes "ProbeAckData ", names.ProbeAckData) ∷ (codes "Release ", names.Release) ∷ (codes "ReleaseData ", names.ReleaseData)
    ∷ (codes "Grant ", names.Grant) ∷ (codes "GrantData ", names.GrantData) ∷ (codes "ReleaseAck ", names.ReleaseAck) ∷ (codes "GrantAck ", names.GrantAck) ∷ []

-- what a reader wants, or this text for any
abbrev pub any_at : {A : Type 0} → List ℕ → (List ℕ → Option (A × List ℕ)) → List ℕ → Option (Option A × List ℕ)
any_at any read bytes = option_or (seen_at (λ x. Some x) read bytes) (after any bytes >>= λ rest. Some (None, rest))

abbrev pub known_name_at : List ℕ → Option (MessageName × List ℕ)
known_name_at = table_at known_names

unfoldable pub name_at : List ℕ → Option (Option MessageName × List ℕ)
name_at bytes = any_at (codes "* ") known_name_at bytes

unfoldable pub hart_at : List ℕ → Option (Option ℕ × List ℕ)
hart_at bytes = any_at (codes "* ") (number_at 32 7) bytes

unfoldable pub address_at : List ℕ → Option (Option ℕ × List ℕ)
address_at bytes = any_at (codes "*") word_at bytes

unfoldable pub pattern_at : List ℕ → Option (MessagePattern × List ℕ)
pattern_at bytes = seen_at (λ p. record { name = p.0; hart = p.1.0; address = p.1.1 }) (pair_at name_at (pair_at hart_at address_at)) bytes

-- where nothing stands behind it
abbrev pub ended : MessagePattern × List ℕ → Option MessagePattern
ended (pattern, []) = Some pattern
ended (pattern, b ∷ rest) = None

abbrev pub pattern_in : List ℕ → Option MessagePattern
pattern_in text = pattern_at text >>= ended
