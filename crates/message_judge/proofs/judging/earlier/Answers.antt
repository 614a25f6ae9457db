use Rattle.std.proofs.Common.{subst}
use Rattle.message_judge.specs.Laws.{IsLogVerdict}
use Rattle.message_judge.proofs.judging.earlier.Goals as goal

pub returns-in-Lawful : goal.returns-in-Lawful
returns-in-Lawful c = λ profile image log order copies. c.where_lawful.ensures profile image log (subst (IsLogVerdict profile log) c.in-Lawful.is order) copies

pub returns-in-Unlawful : goal.returns-in-Unlawful
returns-in-Unlawful c = λ profile image log order copies. c.where_unlawful.ensures profile image log (subst (IsLogVerdict profile log) c.in-Unlawful.is order) copies
