-- Four texts and five, each put behind what was there.
use Rattle.std.proofs.Common.{◌≡◌, ◌∙◌, ap, ℕ, List, ◌++◌, append_assoc}
use Rattle.exploration_text.proofs.Joined.{joined}

pub four : (i a b d e w x y z : List ℕ) → w ≡ i ++ a → x ≡ w ++ b → y ≡ x ++ d → z ≡ y ++ e → z ≡ i ++ (a ++ (b ++ (d ++ e)))
four i a b d e w x y z f g h k = k ∙ (ap (λ xs. xs ++ e) (joined i a b d w x y f g h) ∙ simp append_assoc)

pub five : (i a b d e f v w x y z : List ℕ) → v ≡ i ++ a → w ≡ v ++ b → x ≡ w ++ d → y ≡ x ++ e → z ≡ y ++ f → z ≡ i ++ (a ++ (b ++ (d ++ (e ++ f))))
five i a b d e f v w x y z g h k l m = m ∙ (ap (λ xs. xs ++ f) (four i a b d e v w x y g h k l) ∙ simp append_assoc)
