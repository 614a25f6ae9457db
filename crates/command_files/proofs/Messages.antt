-- A message that goes out in parts.
use Rattle.std.proofs.Common.{◌≡◌, ◌∙◌, ℕ, List, [], ◌++◌, Err, Ok, Option, Result, ap, append_assoc, subst, sym}
use Rattle.std.proofs.lemmas.List.{append-nil}
use Rattle.std.specs.Io.KnownBytes.{Appends}
use Rattle.std.specs.Result.{IsErr}
use Rattle.text_fields.proofs.Written.{begins_first, stops, writes_then}
use Rattle.text_fields.specs.Writing.{Begins, Writes}

named_text : (lead name rest : List ℕ) → (lead ++ (name ++ [])) ++ rest ≡ lead ++ (name ++ rest)
named_text lead name rest = append_assoc lead (name ++ []) rest ∙ ap (λ (t : List ℕ). lead ++ t) (append_assoc name [] rest)

module _ {T E : Type 0} (a b c : Option (List ℕ)) (lead name rest : List ℕ) (r : Result T E) where
  pub named_stops : IsErr r → Begins a b (lead ++ (name ++ [])) → Writes a b (lead ++ (name ++ rest)) r
  named_stops failed begun = stops a b _ r failed (subst (Begins a b) (named_text lead name rest) (begins_first a b (lead ++ (name ++ [])) rest begun))

  pub named_writes : Appends a b (lead ++ (name ++ [])) → Writes b c rest r → Writes a c (lead ++ (name ++ rest)) r
  named_writes sent now = subst (λ (t : List ℕ). Writes a c t r) (named_text lead name rest) (writes_then a b c (lead ++ (name ++ [])) rest r sent now)

-- whatever came of it, a beginning went out
pub begun_of : {T E : Type 0} (a b : Option (List ℕ)) (text : List ℕ) (r : Result T E) → Writes a b text r → Begins a b text
begun_of a b text (Ok _) sent = record { front = text; rest = []; parts = sym (append-nil text); sent = sent }
begun_of a b text (Err _) begun = begun
