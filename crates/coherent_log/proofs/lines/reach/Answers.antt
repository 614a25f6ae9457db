use Rattle.std.proofs.Common.{List, ap, refl, ◌∙◌}
use Rattle.coherent_log.proofs.Listed.{client_behind}
use Rattle.coherent_log.specs.Followed.{client_at, nothing_told}
use Rattle.coherent_log.specs.declared.clients.ClientLog.{ClientLog}
use Rattle.coherent_log.proofs.lines.reach.Goals as goal

pub loop-clients-preserved : goal.loop-clients-preserved
loop-clients-preserved c = λ h. ap (λ (clients : List ClientLog). client_at clients h) c.in_ok-push.ensures.items ∙ client_behind c.loop-clients.clients.items nothing_told refl h ∙ c.loop-clients.invariant h
