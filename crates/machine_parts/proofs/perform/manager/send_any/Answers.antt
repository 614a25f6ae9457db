use Rattle.std.proofs.Common.{subst}
use Rattle.directory.specs.declared.answer.Sent.{Sent}
use Rattle.machine_model.specs.Deliveries.{sent_any}
use Rattle.machine_model.specs.Laws.{QueuesFit}
use Rattle.machine_parts.proofs.perform.manager.send_any.Goals as goal

pub send_probes-requires-clause-queues : goal.send_probes-requires-clause-queues
send_probes-requires-clause-queues c = subst (λ (sends : Sent). QueuesFit (sent_any c.args.line sends c.args.parts.now.state)) c.in-Probes.is c.requires.queues

pub send_grant-requires-clause-queues : goal.send_grant-requires-clause-queues
send_grant-requires-clause-queues c = subst (λ (sends : Sent). QueuesFit (sent_any c.args.line sends c.args.parts.now.state)) c.in-Granting.is c.requires.queues
