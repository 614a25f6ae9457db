use Rattle.std.proofs.Common.{◌≡◌, ◌∙◌, ap, inl, inr, ℕ, Ok, subst}
use Rattle.std.specs.Prelude.{OnErr}
use Rattle.host_threads.proofs.Reasons.{was_bad}
use Rattle.host_threads.proofs.Pace.{paced_applied}
use Rattle.host_threads.proofs.Telling.{applied_seen, same_of}
use Rattle.locked_fabric.specs.Port.{share_of}
use Rattle.host_threads.proofs.worker.Worker.go_alone.Goals as goal

pub invariant_of-self-clause-paced : goal.invariant_of-self-clause-paced
invariant_of-self-clause-paced g c =
    let answers = c.apply.ensures.answers in
    paced_applied c.commit.new.self.common.now.limit c.args.event c.apply.result c.commit.new.self.port c.apply.new.self c.apply.ensures.seat (answers.0, answers.1, answers.2.0) c.in-Err-Limit.ensures.err

pub returns-in-Ok-clause-came : goal.returns-in-Ok-clause-came
returns-in-Ok-clause-came g c = λ _. c.in-Ok.ensures.came

pub returns-in-Err-Limit-clause-came : goal.returns-in-Err-Limit-clause-came
returns-in-Err-Limit-clause-came g c =
    let answers = c.apply.ensures.answers in
    λ _.
    applied_seen c.args.event c.apply.result (share_of c.args.self.now.port) (share_of c.commit.new.self.port) (share_of c.apply.new.self) c.commit.new.self.turn.hart c.args.self.now.hart c.apply.new.turn.seen c.apply.new.turn.is_spent c.in-Err-Limit.ensures.uncounted
    (c.commit.new.self.own.1 ∙ c.commit.ensures.hart)
    (answers.0, answers.1, (answers.2.0, same_of answers.2.1 (λ turn. turn.seen), same_of answers.2.1 (λ turn. turn.is_spent)))

pub returns-in-Err-Limit-clause-bad : goal.returns-in-Err-Limit-clause-bad
returns-in-Err-Limit-clause-bad g c =
    let applied = c.apply.ensures.answers.2.0 in
    was_bad c.args.event c.apply.result applied.old c.apply.ensures.answers.0 applied.kept applied.answered

pub returns-in-Err-Limit-clause-err : goal.returns-in-Err-Limit-clause-err
returns-in-Err-Limit-clause-err g c = subst (λ (n : ℕ). OnErr c.apply.result (share_of c.apply.new.self ≡ n)) c.in-Err-Limit.ensures.uncounted c.apply.ensures.err

pub returns-in-Ok-clause-answered : goal.returns-in-Ok-clause-answered
returns-in-Ok-clause-answered g c = λ _. inr (ap Ok c.in-Ok.ensures.retired, c.in-Ok.ensures.row)

pub returns-in-Err-NoMemory-clause-answered : goal.returns-in-Err-NoMemory-clause-answered
returns-in-Err-NoMemory-clause-answered g c = λ fine. absurd (cc fine)

pub returns-in-Err-Limit-clause-answered : goal.returns-in-Err-Limit-clause-answered
returns-in-Err-Limit-clause-answered g c =
    let answers = c.apply.ensures.answers in
    λ _. inl (answers.2.0.old, answers.2.0.kept, answers.0, answers.2.0.answered)
