use Rattle.std.proofs.Common.{sym, subst, ◌∙◌}
use Rattle.client_cache.specs.Cache.{probed}
use Rattle.client_cache.specs.declared.answers.Probed.{Probed}
use Rattle.machine_model.specs.Deliveries.{sent_if_answered, with_less}
use Rattle.machine_model.specs.Laws.{QueuesFit}
use Rattle.machine_model.specs.Views.{node_at}
use Rattle.machine_parts.specs.Handled.{shrunk}
use Rattle.machine_parts.specs.Unstalled.{IsAnswered}
use Rattle.machine_parts.proofs.Rooms.{had_room_after}
use Rattle.machine_parts.proofs.perform.client.on_probe.Goals as goal

pub send-requires-clause-queue : goal.send-requires-clause-queue
send-requires-clause-queue c =
    let h = c.args.hart in
    let line = c.args.line in
    let s = c.args.parts.now.state in
    let n = node_at s h in
    had_room_after h (record { line = line; body = c.probe_ack_body.result }) (with_less (probed n.cache line c.args.cap).1 line n) s _ c.shrink-answer.ensures.state c.requires.hart
    (rw c.probe_ack_body.ensures (subst (λ (p : Probed). QueuesFit (sent_if_answered h line p (shrunk h line c.args.cap s))) (sym c.shrink-answer.ensures.answer ∙ c.in-Answered.is) c.requires.queues))

pub unreachable-requires : goal.unreachable-requires
unreachable-requires c = subst IsAnswered (sym c.shrink-answer.ensures.answer ∙ c.in_default.is) c.requires.unstalled
