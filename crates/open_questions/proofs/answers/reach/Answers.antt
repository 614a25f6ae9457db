use Rattle.std.proofs.Common.{List, ap, refl, ◌∙◌}
use Rattle.open_questions.proofs.Listed.{client_behind}
use Rattle.open_questions.specs.Answers.{answered_at, nothing_answered}
use Rattle.open_questions.specs.declared.answers.Answered.{Answered}
use Rattle.open_questions.proofs.answers.reach.Goals as goal

pub loop-clients-preserved : goal.loop-clients-preserved
loop-clients-preserved c = λ h. ap (λ (clients : List Answered). answered_at clients h) c.in_ok-push.ensures.items ∙ client_behind c.loop-clients.clients.items nothing_answered refl h ∙ c.loop-clients.invariant h
