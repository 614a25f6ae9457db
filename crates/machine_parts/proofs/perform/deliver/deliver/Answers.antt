use Rattle.std.proofs.Common.{subst, sym}
use Rattle.machine_model.specs.Deliveries.{handled}
use Rattle.machine_model.specs.Laws.{QueuesFit}
use Rattle.machine_model.specs.Views.{State}
use Rattle.machine_parts.proofs.Taken.{body_taken, line_taken, size_taken, unstalled_taken}
use Rattle.machine_parts.proofs.perform.deliver.deliver.Goals as goal

pub handle-requires-clause-queues : goal.handle-requires-clause-queues
handle-requires-clause-queues c = subst (λ (s : State). QueuesFit (handled c.args.hart c.args.message.now.line c.args.message.now.body s)) (sym c.take.ensures.state) c.requires.queues

pub handle-requires-clause-line : goal.handle-requires-clause-line
handle-requires-clause-line c = line_taken c.args.hart c.args.message.now c.args.parts.now.state c.take.new.parts.state c.take.ensures.state c.requires.ready.line c.requires.sound

pub handle-requires-clause-size : goal.handle-requires-clause-size
handle-requires-clause-size c = size_taken c.args.hart c.args.message.now c.args.parts.now.state c.take.new.parts.state c.take.ensures.state c.requires.hart c.requires.sound

pub handle-requires-clause-body : goal.handle-requires-clause-body
handle-requires-clause-body c = body_taken c.args.hart c.args.message.now c.args.parts.now.state c.take.new.parts.state c.take.ensures.state c.requires.hart c.requires.ready.body

pub handle-requires-clause-unstalled : goal.handle-requires-clause-unstalled
handle-requires-clause-unstalled c = unstalled_taken c.args.hart c.args.message.now c.args.parts.now.state c.take.new.parts.state c.take.ensures.state c.requires.hart c.requires.unstalled
