use Rattle.std.proofs.Common.{subst}
use Rattle.message_judge.proofs.Told.{unlawful_alone}
use Rattle.message_judge.specs.Laws.{IsCoherenceVerdict}
use Rattle.message_judge.proofs.judging.where_unlawful.Goals as goal

pub returns-in-Coherent : goal.returns-in-Coherent
returns-in-Coherent c = λ profile image log order copies. unlawful_alone profile image log c.args.rule c.args.index order (subst (IsCoherenceVerdict image log) c.in-Coherent.is copies)

pub returns-in-Incoherent : goal.returns-in-Incoherent
returns-in-Incoherent c = λ profile image log order copies. c.first_of.ensures profile image log order (subst (IsCoherenceVerdict image log) c.in-Incoherent.is copies)
