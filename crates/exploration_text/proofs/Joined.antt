-- Three texts, each put behind what was there.
use Rattle.std.proofs.Common.{◌≡◌, ◌∙◌, ap, ℕ, List, ◌++◌}
use Rattle.std.proofs.lemmas.List.{append_assoc}

pub joined : (i a b d x y z : List ℕ) → x ≡ i ++ a → y ≡ x ++ b → z ≡ y ++ d → z ≡ i ++ (a ++ (b ++ d))
joined i a b d x y z e f g = g ∙ (ap (λ xs. xs ++ d) (f ∙ ap (λ xs. xs ++ b) e) ∙ (append_assoc (i ++ a) b d ∙ append_assoc i a (b ++ d)))

-- and four
pub joined_more : (i a b d f x y z w : List ℕ) → x ≡ i ++ a → y ≡ x ++ b → z ≡ y ++ d → w ≡ z ++ f → w ≡ i ++ (a ++ (b ++ (d ++ f)))
joined_more i a b d f x y z w e g h k = joined x b d f y z w g h k ∙ (ap (λ xs. xs ++ (b ++ (d ++ f))) e ∙ append_assoc i a (b ++ (d ++ f)))

-- and five
pub joined_five : (i a b d f g x y z w v : List ℕ) → x ≡ i ++ a → y ≡ x ++ b → z ≡ y ++ d → w ≡ z ++ f → v ≡ w ++ g → v ≡ i ++ (a ++ (b ++ (d ++ (f ++ g))))
joined_five i a b d f g x y z w v e h k l m = joined_more x b d f g y z w v h k l m ∙ (ap (λ xs. xs ++ (b ++ (d ++ (f ++ g)))) e ∙ append_assoc i a (b ++ (d ++ (f ++ g))))
