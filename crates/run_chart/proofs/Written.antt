-- Texts that are written piece by piece.
use Rattle.std.proofs.Common.{◌≡◌, ◌∙◌, ℕ, List, [], ◌++◌, Ok, Err, ap, append_assoc, subst}
use Rattle.std.specs.Prelude.{IfOk, OnOk}
use Rattle.std.specs.declared.result.Result.{Result}

pub twice : (old mid new a b : List ℕ) → mid ≡ old ++ a → new ≡ mid ++ b → new ≡ old ++ (a ++ b)
twice old mid new a b e f = f ∙ ap (λ (t : List ℕ). t ++ b) e ∙ append_assoc old a b

-- the last piece may fail
pub then_last : {T E : Type 0} (r : Result T E) (old mid new a b : List ℕ) → mid ≡ old ++ a → OnOk r (new ≡ mid ++ b) → OnOk r (new ≡ old ++ (a ++ b))
then_last (Ok x) old mid new a b e f = twice old mid new a b e f
then_last (Err x) old mid new a b e f = tt

-- what was spelled onto an empty page
pub spelled : (read new empty a : List ℕ) → read ≡ new → new ≡ empty ++ a → empty ≡ [] → read ≡ a
spelled read new empty a e f g = e ∙ f ∙ ap (λ (t : List ℕ). t ++ a) g

pub if_ok : {T E : Type 0} (P Q : T → Type 0) (r : Result T E) → ((x : T) → P x → Q x) → IfOk r P → IfOk r Q
if_ok P Q (Ok x) law h = law x h
if_ok P Q (Err x) law h = tt
