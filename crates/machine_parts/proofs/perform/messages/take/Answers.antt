use Rattle.std.proofs.Common.{◌∙◌, ap}
use Rattle.trace_recorder.specs.History.{Recorded}
use Rattle.trace_recorder.specs.declared.logged.Direction.TheVariants.{Taken}
use Rattle.machine_model.specs.Views.{Node}
use Rattle.machine_parts.specs.Parts.{standing_of}
use Rattle.machine_parts.proofs.Nodes.{changed, logged_at}
use Rattle.tilelink_channels.specs.Queues.{Waiting, popped}
use Rattle.tl_types.specs.Message.{channel_of}
use Rattle.machine_parts.proofs.perform.messages.take.Goals as goal

pub returns-clause-state : goal.returns-clause-state
returns-clause-state c =
    let moved = changed c.args.hart (standing_of c.parts.inside) c.args.parts.now _ _ (λ (w : Waiting) (n : Node). record n { queues = w }) (λ (n : Node). popped n.queues (channel_of c.args.message.now)) c.pop.new.self c.parts.view_is c.requires.hart (c.behind-parts.view_is ∙ c.index_mut.ensures.value) (c.pop.ensures.rest ∙ ap (popped c.behind-parts.inside.queues) c.channel.ensures) in
    logged_at (record { direction = Taken; hart = c.args.hart; message = c.args.message.now }) c.take.new.self.history _ _ (ap (λ (r : Recorded). r.history) c.take.ensures) moved
