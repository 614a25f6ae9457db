use Rattle.std.proofs.Common.{◌∙◌, sym}
use Rattle.rvwmo_order.proofs.Judged.{legal-from_nothing}
use Rattle.rvwmo_order.proofs.judging.judge.Goals as goal

pub returns : goal.returns
returns c = sym (legal-from_nothing _ _ _ (sym c.in_ok-rule.ensures ∙ c.in_default.is) (sym c.wrong_load.ensures ∙ c.in_default-wrong_load.is) (sym c.broken_pair.ensures ∙ c.in_default-broken_pair.is))
