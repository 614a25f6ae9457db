use Rattle.std.proofs.Common.{◌<◌, ◌∙◌, ap, length, subst, sym}
use Rattle.std.proofs.lemmas.List.{get_or_default}
use Rattle.machine_model.specs.Views.{Node, no_node, with_node}
use Rattle.machine_parts.specs.Parts.{standing_of}
use Rattle.machine_parts.specs.Standing.{Standing}
use Rattle.machine_parts.proofs.Nodes.{less_is}
use Rattle.machine_parts.proofs.perform.client.shrink.Goals as goal

pub returns-clause-state : goal.returns-clause-state
returns-clause-state c =
    let s = (standing_of c.parts.inside).state in
    let here = c.index_mut-node.ensures.value ∙ get_or_default s.views.nodes c.args.hart _ (no_node s) (subst (λ (p : Standing). c.args.hart < length p.state.views.nodes) (sym c.parts.view_is) c.requires.hart) in
    rw (← c.parts.view_is) (ap (λ (n : Node). with_node c.args.hart n s)
    (c.keep_reservation.ensures ∙ less_is _ _ c.on_probe-answer.result c.on_probe-answer.new.self c.args.line c.args.cap (c.node.view_is ∙ here) c.on_probe-answer.ensures))
