-- Pieces that are spelled one behind another.
use Rattle.std.proofs.Common.{◌≡◌, ℕ, List, ◌++◌, append_assoc}

pub joined : (p a b c : List ℕ) → ((p ++ a) ++ b) ++ c ≡ p ++ (a ++ (b ++ c))
joined p a b c = simp append_assoc
