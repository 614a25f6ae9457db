use Rattle.std.proofs.Common.{sym, ◌∙◌}
use Rattle.trace_text.proofs.Refusals.{not_both}
use Rattle.trace_text.proofs.trace_faults.code_at.Goals as goal

pub returns-then-not-contains : goal.returns-then-not-contains
returns-then-not-contains c = sym c.contains.ensures.value ∙ c.if-not-contains.true

pub returns-then-not-is_known : goal.returns-then-not-is_known
returns-then-not-is_known c =
    (sym c.contains.ensures.value ∙ c.if-not-contains.false, λ known. not_both _ (c.is_known.ensures.1 known) c.if-not-is_known.true)

pub returns-then-is_good : goal.returns-then-is_good
returns-then-is_good c =
    (sym c.contains.ensures.value ∙ c.if-not-contains.false, c.is_known.ensures.0 c.if-not-is_known.false, c.is_good.ensures.0 c.if-is_good.true)

pub returns-else-is_good : goal.returns-else-is_good
returns-else-is_good c =
    (sym c.contains.ensures.value ∙ c.if-not-contains.false, c.is_known.ensures.0 c.if-not-is_known.false, λ line. not_both _ (c.is_good.ensures.1 line) c.if-is_good.false)
