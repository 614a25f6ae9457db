use Rattle.std.proofs.Common.{◌∙◌, ap}
use Rattle.trace_recorder.specs.History.{Recorded}
use Rattle.trace_recorder.specs.declared.logged.Direction.TheVariants.{Sent}
use Rattle.machine_model.specs.Views.{Node}
use Rattle.machine_parts.specs.Parts.{standing_of}
use Rattle.machine_parts.proofs.Nodes.{changed, logged_at}
use Rattle.tilelink_channels.specs.Queues.{Waiting, pushed}
use Rattle.machine_parts.proofs.perform.messages.send.Goals as goal

pub returns-clause-state : goal.returns-clause-state
returns-clause-state c =
    let moved = changed c.args.hart (standing_of c.parts.inside) c.args.parts.now _ _ (λ (w : Waiting) (n : Node). record n { queues = w }) (λ (n : Node). pushed n.queues c.args.message.now) c.push.new.self c.parts.view_is c.requires.hart (c.behind-parts.view_is ∙ c.index_mut.ensures.value) c.push.ensures in
    logged_at (record { direction = Sent; hart = c.args.hart; message = c.args.message.now }) c.send.new.self.history _ _ (ap (λ (r : Recorded). r.history) c.send.ensures) moved
