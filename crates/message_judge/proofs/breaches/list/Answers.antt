use Rattle.std.proofs.Common.{◌++◌, Option, subst, sym}
use Rattle.message_judge.proofs.Breaching.{told_same}
use Rattle.message_judge.specs.Breaches.{AreTold, numbered}
use Rattle.message_judge.specs.declared.verdict.MessageBreach.{MessageBreach}
use Rattle.message_judge.proofs.breaches.list.Goals as goal

pub returns-in-None-clause-list : goal.returns-in-None-clause-list
returns-in-None-clause-list c = λ all told.
    subst (λ (o : Option MessageBreach). AreTold (all ++ numbered c.args.index o) c.args.listed.now.items c.args.count) (sym c.in-None.is) (told_same all c.args.listed.now.items c.args.count c.args.index told)
