use Rattle.std.proofs.Common.{inr, map, subst}
use Rattle.std.specs.String.{string_bytes}
use Rattle.rvtl.specs.Words.{AreRefused}
use Rattle.rvtl.proofs.words.told.Goals as goal

-- both were refused
pub returns-then-is_refused-2 : goal.returns-then-is_refused-2
returns-then-is_refused-2 c =
    inr (
      subst (λ items. AreRefused (map string_bytes items)) c.deref-then-ne.ensures.value (c.is_refused.ensures c.if-is_refused.true),
      subst (λ items. AreRefused (map string_bytes items)) c.deref-then-is_refused.ensures.value (c.is_refused-then-is_refused.ensures c.if-is_refused-2.true),
    )
