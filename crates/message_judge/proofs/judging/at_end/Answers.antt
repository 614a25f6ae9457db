use Rattle.std.proofs.Common.{Some, subst}
use Rattle.message_judge.proofs.Ended.{all_answered, first_open}
use Rattle.open_questions.specs.Open.{LeavesOpen, open_from}
use Rattle.message_judge.proofs.judging.at_end.Goals as goal

pub returns-in-None : goal.returns-in-None
returns-in-None c = λ profile image log lawful leaves. all_answered profile image log lawful (subst (LeavesOpen (open_from 0 log)) c.in-None.is leaves)

pub returns-in-Some : goal.returns-in-Some
returns-in-Some c = λ profile image log lawful leaves.
    let some : LeavesOpen (open_from 0 log) (Some c.in-Some.questions) = subst (LeavesOpen (open_from 0 log)) c.in-Some.is leaves in
    first_open profile image log c.in-Some.questions.first some.0 lawful some.1
