-- What several calls append, one behind another.
use Rattle.std.proofs.Common.{◌≡◌, ◌∙◌, ℕ, List, [], ◌++◌, Result, ap, append_assoc}
use Rattle.std.specs.Result.{OnOk}
use Rattle.std.proofs.lemmas.Result.{on_ok_weaker}

pub two_append : {T E : Type 0} (r : Result T E) (s a b x y : List ℕ) → a ≡ s ++ x → OnOk r (b ≡ a ++ y) → OnOk r (b ≡ s ++ (x ++ y))
two_append r s a b x y first last = on_ok_weaker r (λ is. is ∙ (ap (λ (l : List ℕ). l ++ y) first ∙ append_assoc s x y)) last

pub three_append : {T E : Type 0} (r : Result T E) (s a b c x y z : List ℕ) → a ≡ s ++ x → b ≡ a ++ y → OnOk r (c ≡ b ++ z) → OnOk r (c ≡ s ++ (x ++ (y ++ z)))
three_append r s a b c x y z first second last = two_append r s a c x (y ++ z) first (two_append r a b c y z second last)

pub four_append : {T E : Type 0} (r : Result T E) (s a b c d x y z w : List ℕ) → a ≡ s ++ x → b ≡ a ++ y → c ≡ b ++ z → OnOk r (d ≡ c ++ w) → OnOk r (d ≡ s ++ (x ++ (y ++ (z ++ w))))
four_append r s a b c d x y z w first second third last = two_append r s a d x (y ++ (z ++ w)) first (three_append r a b c d y z w second third last)

-- a text that a page spells by itself
pub spelt_alone : (empty page slice x : List ℕ) → empty ≡ [] → page ≡ empty ++ x → slice ≡ page → slice ≡ x
spelt_alone empty page slice x none spelt is = is ∙ (spelt ∙ ap (λ (l : List ℕ). l ++ x) none)

-- what is drawn of two such texts
pub both_told : {T E : Type 0} (r : Result T E) (f : List ℕ → List ℕ → List ℕ) (s new a b x y : List ℕ) → a ≡ x → b ≡ y → OnOk r (new ≡ s ++ f a b) → OnOk r (new ≡ s ++ f x y)
both_told r f s new a b x y first second told = on_ok_weaker r (λ is. is ∙ ap (λ (l : List ℕ). s ++ l) (ap (λ (k : List ℕ). f k b) first ∙ ap (f x) second)) told
