use Rattle.std.proofs.Common.{Bool, true, false, List, ℕ, ◌≡◌, refl}
use Rattle.std.specs.Prelude.{◌↔◌, IsTrue, nat_eq}
use Rattle.std.specs.Cmp.Lexicographic.{other_text, pointwise, same_text}
use Rattle.coherent_log.proofs.lines.is_beginning_of.Goals as goal

tells : (b : Bool) (xs ys : List ℕ) → b ≡ pointwise nat_eq xs ys → IsTrue b ↔ (xs ≡ ys)
tells true xs ys e = (λ t. same_text xs ys e, λ s. refl)
tells false xs ys e = (λ t. cc t, λ s. absurd (other_text xs ys e s))

pub returns : goal.returns
returns c = tells c.starts_with.result _ _ c.starts_with.ensures.value
