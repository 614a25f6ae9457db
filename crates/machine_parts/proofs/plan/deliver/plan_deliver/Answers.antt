use Rattle.std.proofs.Common.{Option, ap, ◌∙◌, sym}
use Rattle.machine_model.specs.Deliveries.{plan_front}
use Rattle.machine_model.specs.Views.{Node, node_at}
use Rattle.machine_model.specs.declared.act.Act.TheVariants as act
use Rattle.machine_model.specs.declared.act.Plan.TheVariants.{Changes}
use Rattle.machine_types.specs.declared.outcome.Outcome.{Outcome}
use Rattle.tilelink_channels.specs.Queues.{front_of, queue_of}
use Rattle.tl_types.specs.declared.message.Msg.{Msg}
use Rattle.tl_types.specs.declared.message.Channel.{Channel}
use Rattle.machine_parts.specs.Deciding.{unless_stalled}
use Rattle.machine_parts.proofs.Fronts.{front_waits, from_base, noted_line}
use Rattle.machine_parts.proofs.plan.deliver.plan_deliver.Goals as goal

-- the message in front of a node's queue of a channel
abbrev front_in : Channel → Node → Option Msg
front_in channel n = front_of (queue_of n.queues channel)

pub stalled-requires-clause-from : goal.stalled-requires-clause-from
stalled-requires-clause-from c = from_base c.args.parts.now.state.trace.image _ _ (c.requires.sound.queued c.args.hart c.args.channel c.in-Some.message (front_waits _ _ (sym (c.front.ensures ∙ ap (front_in c.args.channel) (c.node.view_is ∙ c.node-node.ensures.node)) ∙ c.in-Some.is)))

pub stalled-requires-clause-line : goal.stalled-requires-clause-line
stalled-requires-clause-line c = noted_line c.args.parts.now.state.trace.image _ _ _ (c.requires.sound.queued c.args.hart c.args.channel c.in-Some.message (front_waits _ _ (sym (c.front.ensures ∙ ap (front_in c.args.channel) (c.node.view_is ∙ c.node-node.ensures.node)) ∙ c.in-Some.is))) c.requires.sound.noted_lines

pub returns-in-None : goal.returns-in-None
returns-in-None c =
    let s = c.args.parts.now.state in
    let h = c.args.hart in
    let go = Changes (act.Deliver c.in-Some.message) in
    sym (ap (plan_front s h (node_at s h)) (sym (c.front.ensures ∙ ap (front_in c.args.channel) (c.node.view_is ∙ c.node-node.ensures.node)) ∙ c.in-Some.is) ∙ (c.stalled.ensures go ∙ ap (λ (o : Option Outcome). unless_stalled o go) c.in-None.is))

pub returns-in-Some-stalled : goal.returns-in-Some-stalled
returns-in-Some-stalled c =
    let s = c.args.parts.now.state in
    let h = c.args.hart in
    let go = Changes (act.Deliver c.in-Some.message) in
    sym (ap (plan_front s h (node_at s h)) (sym (c.front.ensures ∙ ap (front_in c.args.channel) (c.node.view_is ∙ c.node-node.ensures.node)) ∙ c.in-Some.is) ∙ (c.stalled.ensures go ∙ ap (λ (o : Option Outcome). unless_stalled o go) c.in-Some-stalled.is))
