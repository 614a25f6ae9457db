use Rattle.std.proofs.Common.{◌≡◌, ◌<◌, ◌≤◌, ◌∙◌, ℕ, ap, arith, subst, sym}
use Rattle.machine_model.specs.Deliveries.{handled}
use Rattle.machine_model.specs.Laws.{QueuesFit}
use Rattle.machine_model.specs.Ready.{IsReadyBody}
use Rattle.machine_model.specs.Views.{State}
use Rattle.machine_parts.specs.Unstalled.{IsUnstalledBody}
use Rattle.tl_types.specs.declared.message.Body.{Body}
use Rattle.machine_parts.proofs.perform.deliver.handle.Goals as goal

-- the body is this one
fit_of : (h line : ℕ) (body is : Body) (s : State) → body ≡ is → QueuesFit (handled h line body s) → QueuesFit (handled h line is s)
fit_of h line body is s e = subst (λ (b : Body). QueuesFit (handled h line b s)) e

ready_of : (h line : ℕ) (body is : Body) (s : State) → body ≡ is → IsReadyBody h line body s → IsReadyBody h line is s
ready_of h line body is s e = subst (λ (b : Body). IsReadyBody h line b s) e

unstalled_of : (h line : ℕ) (body is : Body) (s : State) → body ≡ is → IsUnstalledBody h line body s → IsUnstalledBody h line is s
unstalled_of h line body is s e = subst (λ (b : Body). IsUnstalledBody h line b s) e

handled_of : (h line : ℕ) (body is : Body) (s new : State) → body ≡ is → new ≡ handled h line is s → new ≡ handled h line body s
handled_of h line body is s new e done = done ∙ sym (ap (λ (b : Body). handled h line b s) e)

-- the hart is one of so many
noted : (h harts nodes : ℕ) → harts ≡ nodes → h < nodes → h < harts
noted h harts nodes e l = subst (λ n. h < n) (sym e) l

room_left : (h nodes log : ℕ) → h < nodes → nodes ≤ log → 0 < log
room_left h nodes log l few = omega arith

pub on_acquire-requires-clause-unstalled : goal.on_acquire-requires-clause-unstalled
on_acquire-requires-clause-unstalled c = unstalled_of c.args.hart c.args.message.now.line c.args.message.now.body _ c.args.parts.now.state c.in-AcquireBlock.is c.requires.unstalled

pub on_probe-requires-clause-unstalled : goal.on_probe-requires-clause-unstalled
on_probe-requires-clause-unstalled c = unstalled_of c.args.hart c.args.message.now.line c.args.message.now.body _ c.args.parts.now.state c.in-ProbeBlock.is c.requires.unstalled

pub on_acquire-requires-clause-queues : goal.on_acquire-requires-clause-queues
on_acquire-requires-clause-queues c = fit_of c.args.hart c.args.message.now.line c.args.message.now.body _ c.args.parts.now.state c.in-AcquireBlock.is c.requires.queues

pub on_probe-requires-clause-queues : goal.on_probe-requires-clause-queues
on_probe-requires-clause-queues c = fit_of c.args.hart c.args.message.now.line c.args.message.now.body _ c.args.parts.now.state c.in-ProbeBlock.is c.requires.queues

pub on_probe_ack-requires-clause-queues : goal.on_probe_ack-requires-clause-queues
on_probe_ack-requires-clause-queues c = fit_of c.args.hart c.args.message.now.line c.args.message.now.body _ c.args.parts.now.state c.in-ProbeAck.is c.requires.queues

pub on_probe_ack-requires-in-ProbeAckData-clause-queues : goal.on_probe_ack-requires-in-ProbeAckData-clause-queues
on_probe_ack-requires-in-ProbeAckData-clause-queues c = fit_of c.args.hart c.args.message.now.line c.args.message.now.body _ c.args.parts.now.state c.in-ProbeAckData.is c.requires.queues

pub on_release-requires-clause-queues : goal.on_release-requires-clause-queues
on_release-requires-clause-queues c = fit_of c.args.hart c.args.message.now.line c.args.message.now.body _ c.args.parts.now.state c.in-Release.is c.requires.queues

pub on_release-requires-in-ReleaseData-clause-queues : goal.on_release-requires-in-ReleaseData-clause-queues
on_release-requires-in-ReleaseData-clause-queues c = fit_of c.args.hart c.args.message.now.line c.args.message.now.body _ c.args.parts.now.state c.in-ReleaseData.is c.requires.queues

pub on_grant-requires-clause-queues : goal.on_grant-requires-clause-queues
on_grant-requires-clause-queues c = fit_of c.args.hart c.args.message.now.line c.args.message.now.body _ c.args.parts.now.state c.in-Grant.is c.requires.queues

pub on_grant-requires-in-GrantData-clause-queues : goal.on_grant-requires-in-GrantData-clause-queues
on_grant-requires-in-GrantData-clause-queues c = fit_of c.args.hart c.args.message.now.line c.args.message.now.body _ c.args.parts.now.state c.in-GrantData.is c.requires.queues

pub on_probe_ack-requires-clause-shrinks : goal.on_probe_ack-requires-clause-shrinks
on_probe_ack-requires-clause-shrinks c = ready_of c.args.hart c.args.message.now.line c.args.message.now.body _ c.args.parts.now.state c.in-ProbeAck.is c.requires.body

pub on_probe_ack-requires-in-ProbeAckData-clause-shrinks : goal.on_probe_ack-requires-in-ProbeAckData-clause-shrinks
on_probe_ack-requires-in-ProbeAckData-clause-shrinks c = (ready_of c.args.hart c.args.message.now.line c.args.message.now.body _ c.args.parts.now.state c.in-ProbeAckData.is c.requires.body).0

pub on_probe_ack-requires-in-ProbeAckData-clause-bytes : goal.on_probe_ack-requires-in-ProbeAckData-clause-bytes
on_probe_ack-requires-in-ProbeAckData-clause-bytes c = (ready_of c.args.hart c.args.message.now.line c.args.message.now.body _ c.args.parts.now.state c.in-ProbeAckData.is c.requires.body).1

pub on_release-requires-in-ReleaseData-clause-bytes : goal.on_release-requires-in-ReleaseData-clause-bytes
on_release-requires-in-ReleaseData-clause-bytes c = ready_of c.args.hart c.args.message.now.line c.args.message.now.body _ c.args.parts.now.state c.in-ReleaseData.is c.requires.body

pub on_grant-requires-clause-tracked : goal.on_grant-requires-clause-tracked
on_grant-requires-clause-tracked c = ready_of c.args.hart c.args.message.now.line c.args.message.now.body _ c.args.parts.now.state c.in-Grant.is c.requires.body

pub on_grant-requires-in-GrantData-clause-tracked : goal.on_grant-requires-in-GrantData-clause-tracked
on_grant-requires-in-GrantData-clause-tracked c = ready_of c.args.hart c.args.message.now.line c.args.message.now.body _ c.args.parts.now.state c.in-GrantData.is c.requires.body

pub returns-in-AcquireBlock : goal.returns-in-AcquireBlock
returns-in-AcquireBlock c = handled_of c.args.hart c.args.message.now.line c.args.message.now.body _ c.args.parts.now.state c.on_acquire.new.parts.state c.in-AcquireBlock.is c.on_acquire.ensures

pub returns-in-ProbeBlock : goal.returns-in-ProbeBlock
returns-in-ProbeBlock c = handled_of c.args.hart c.args.message.now.line c.args.message.now.body _ c.args.parts.now.state c.on_probe.new.parts.state c.in-ProbeBlock.is c.on_probe.ensures

pub returns-in-ProbeAck : goal.returns-in-ProbeAck
returns-in-ProbeAck c = handled_of c.args.hart c.args.message.now.line c.args.message.now.body _ c.args.parts.now.state c.on_probe_ack.new.parts.state c.in-ProbeAck.is c.on_probe_ack.ensures

pub returns-in-ProbeAckData : goal.returns-in-ProbeAckData
returns-in-ProbeAckData c = handled_of c.args.hart c.args.message.now.line c.args.message.now.body _ c.args.parts.now.state c.on_probe_ack-in-ProbeAckData.new.parts.state c.in-ProbeAckData.is c.on_probe_ack-in-ProbeAckData.ensures

pub returns-in-Release : goal.returns-in-Release
returns-in-Release c = handled_of c.args.hart c.args.message.now.line c.args.message.now.body _ c.args.parts.now.state c.on_release.new.parts.state c.in-Release.is c.on_release.ensures

pub returns-in-ReleaseData : goal.returns-in-ReleaseData
returns-in-ReleaseData c = handled_of c.args.hart c.args.message.now.line c.args.message.now.body _ c.args.parts.now.state c.on_release-in-ReleaseData.new.parts.state c.in-ReleaseData.is c.on_release-in-ReleaseData.ensures

pub returns-in-Grant : goal.returns-in-Grant
returns-in-Grant c = handled_of c.args.hart c.args.message.now.line c.args.message.now.body _ c.args.parts.now.state c.on_grant.new.parts.state c.in-Grant.is c.on_grant.ensures

pub returns-in-GrantData : goal.returns-in-GrantData
returns-in-GrantData c = handled_of c.args.hart c.args.message.now.line c.args.message.now.body _ c.args.parts.now.state c.on_grant-in-GrantData.new.parts.state c.in-GrantData.is c.on_grant-in-GrantData.ensures

pub returns-in-ReleaseAck : goal.returns-in-ReleaseAck
returns-in-ReleaseAck c = handled_of c.args.hart c.args.message.now.line c.args.message.now.body _ c.args.parts.now.state c.on_release_ack.new.parts.state c.in-ReleaseAck.is c.on_release_ack.ensures

pub returns-in-GrantAck : goal.returns-in-GrantAck
returns-in-GrantAck c = handled_of c.args.hart c.args.message.now.line c.args.message.now.body _ c.args.parts.now.state c.on_grant_ack.new.parts.state c.in-GrantAck.is c.on_grant_ack.ensures

pub on_acquire-requires-clause-hart : goal.on_acquire-requires-clause-hart
on_acquire-requires-clause-hart c = noted c.args.hart _ _ c.requires.harts c.requires.hart

pub on_probe_ack-requires-clause-hart : goal.on_probe_ack-requires-clause-hart
on_probe_ack-requires-clause-hart c = noted c.args.hart _ _ c.requires.harts c.requires.hart

pub on_probe_ack-requires-in-ProbeAckData-clause-hart : goal.on_probe_ack-requires-in-ProbeAckData-clause-hart
on_probe_ack-requires-in-ProbeAckData-clause-hart c = noted c.args.hart _ _ c.requires.harts c.requires.hart

pub on_release-requires-clause-noted : goal.on_release-requires-clause-noted
on_release-requires-clause-noted c = noted c.args.hart _ _ c.requires.harts c.requires.hart

pub on_release-requires-in-ReleaseData-clause-noted : goal.on_release-requires-in-ReleaseData-clause-noted
on_release-requires-in-ReleaseData-clause-noted c = noted c.args.hart _ _ c.requires.harts c.requires.hart

pub on_probe-requires-clause-log : goal.on_probe-requires-clause-log
on_probe-requires-clause-log c = room_left c.args.hart _ _ c.requires.hart c.requires.log

pub on_probe_ack-requires-clause-log : goal.on_probe_ack-requires-clause-log
on_probe_ack-requires-clause-log c = room_left c.args.hart _ _ c.requires.hart c.requires.log

pub on_probe_ack-requires-in-ProbeAckData-clause-log : goal.on_probe_ack-requires-in-ProbeAckData-clause-log
on_probe_ack-requires-in-ProbeAckData-clause-log c = room_left c.args.hart _ _ c.requires.hart c.requires.log

pub on_release-requires-clause-log : goal.on_release-requires-clause-log
on_release-requires-clause-log c = room_left c.args.hart _ _ c.requires.hart c.requires.log

pub on_release-requires-in-ReleaseData-clause-log : goal.on_release-requires-in-ReleaseData-clause-log
on_release-requires-in-ReleaseData-clause-log c = room_left c.args.hart _ _ c.requires.hart c.requires.log

pub on_grant-requires-clause-log : goal.on_grant-requires-clause-log
on_grant-requires-clause-log c = room_left c.args.hart _ _ c.requires.hart c.requires.log

pub on_grant-requires-in-GrantData-clause-log : goal.on_grant-requires-in-GrantData-clause-log
on_grant-requires-in-GrantData-clause-log c = room_left c.args.hart _ _ c.requires.hart c.requires.log
