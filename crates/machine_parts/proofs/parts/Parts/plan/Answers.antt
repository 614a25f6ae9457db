use Rattle.std.proofs.Common.{◌∙◌, ap, sym, ℕ}
use Rattle.elf_loader.specs.Image.{Initial}
use Rattle.machine_model.specs.Changing.{next_place}
use Rattle.machine_model.specs.Deliveries.{plan_deliver}
use Rattle.machine_model.specs.Events.{hart_of, plan_drain, plan_evict, plan_local, plan_of}
use Rattle.machine_model.specs.Steps.{plan_step}
use Rattle.machine_model.specs.Views.{Node, node_at}
use Rattle.machine_parts.specs.Standing.{Standing}
use Rattle.machine_parts.proofs.Decided.{hart_there}
use Rattle.machine_parts.proofs.parts.Parts.plan.Goals as goal

pub node-node-requires-clause-hart : goal.node-node-requires-clause-hart
node-node-requires-clause-hart c = hart_there c.args.self.now.state c.args.event.now c.hart_of-hart.result c.hart_of-hart.ensures c.requires.good

pub place_at-requires-clause-hart : goal.place_at-requires-clause-hart
place_at-requires-clause-hart c = hart_there c.args.self.now.state c.args.event.now c.hart_of-hart.result c.hart_of-hart.ensures c.requires.good

pub plan_deliver-requires-clause-hart : goal.plan_deliver-requires-clause-hart
plan_deliver-requires-clause-hart c = hart_there c.args.self.now.state c.args.event.now c.hart_of-hart.result c.hart_of-hart.ensures c.requires.good

pub plan_step-requires : goal.plan_step-requires
plan_step-requires c = record { line = c.node-node.ensures.line ∙ sym (ap (λ (p : Standing). p.state.views.config.line) c.self.view_is) }

pub plan_drain-requires : goal.plan_drain-requires
plan_drain-requires c = record { line = c.node-node.ensures.line ∙ sym (ap (λ (p : Standing). p.state.views.config.line) c.self.view_is) }

pub returns-in-Step : goal.returns-in-Step
returns-in-Step c =
    let s = c.args.self.now.state in
    let model = s.views.config.model in
    let image = s.trace.image in
    c.plan_step.ensures
    ∙ (ap (λ (p : Standing). plan_step p.state.views.config.model c.image.result.now c.node-node.result.now c.place_at.result) c.self.view_is
    ∙ (ap (λ (i : Initial). plan_step model i c.node-node.result.now c.place_at.result) (c.image.ensures ∙ ap (λ (p : Standing). p.state.trace.image) c.self.view_is)
    ∙ (ap (λ (n : Node). plan_step model image n c.place_at.result) c.node-node.ensures.node
    ∙ (ap (plan_step model image (node_at s c.hart_of-hart.result)) c.place_at.ensures
    ∙ (ap (λ (h : ℕ). plan_step model image (node_at s h) (next_place s h)) (c.hart_of-hart.ensures ∙ ap hart_of c.in-Step.is) ∙ sym (ap (plan_of s) c.in-Step.is))))))

pub returns-in-Drain : goal.returns-in-Drain
returns-in-Drain c =
    let s = c.args.self.now.state in
    c.plan_drain.ensures
    ∙ (ap (λ (n : Node). plan_drain n c.in-Drain.word) c.node-node.ensures.node
    ∙ (ap (λ (h : ℕ). plan_drain (node_at s h) c.in-Drain.word) (c.hart_of-hart.ensures ∙ ap hart_of c.in-Drain.is) ∙ sym (ap (plan_of s) c.in-Drain.is)))

pub returns-in-Evict : goal.returns-in-Evict
returns-in-Evict c =
    let s = c.args.self.now.state in
    c.plan_evict.ensures
    ∙ (ap (λ (n : Node). plan_evict n c.in-Evict.line) c.node-node.ensures.node
    ∙ (ap (λ (h : ℕ). plan_evict (node_at s h) c.in-Evict.line) (c.hart_of-hart.ensures ∙ ap hart_of c.in-Evict.is) ∙ sym (ap (plan_of s) c.in-Evict.is)))

pub returns-in-Deliver : goal.returns-in-Deliver
returns-in-Deliver c =
    let s = c.args.self.now.state in
    c.plan_deliver.ensures ∙ (ap (λ (h : ℕ). plan_deliver s h (node_at s h) c.in-Deliver.channel) (c.hart_of-hart.ensures ∙ ap hart_of c.in-Deliver.is) ∙ sym (ap (plan_of s) c.in-Deliver.is))

pub returns-in-Local : goal.returns-in-Local
returns-in-Local c =
    let s = c.args.self.now.state in
    c.plan_local.ensures
    ∙ (ap (λ (i : Initial). plan_local i c.node-node.result.now c.in-Local.count) (c.image-in-Local.ensures ∙ ap (λ (p : Standing). p.state.trace.image) c.self.view_is)
    ∙ (ap (λ (n : Node). plan_local s.trace.image n c.in-Local.count) c.node-node.ensures.node
    ∙ (ap (λ (h : ℕ). plan_local s.trace.image (node_at s h) c.in-Local.count) (c.hart_of-hart.ensures ∙ ap hart_of c.in-Local.is) ∙ sym (ap (plan_of s) c.in-Local.is))))
