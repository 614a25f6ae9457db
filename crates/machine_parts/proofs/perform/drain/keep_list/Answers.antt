use Rattle.std.proofs.Common.{List, ap, slice_set, ◌∙◌}
use Rattle.std.proofs.lemmas.List.{set-get_or}
use Rattle.machine_model.specs.Views.{Node}
use Rattle.machine_parts.specs.Parts.{standing_of}
use Rattle.machine_parts.proofs.perform.drain.keep_list.Goals as goal

pub returns : goal.returns
returns c =
    let s = (standing_of c.parts.inside).state in
    let with_nodes = λ (nodes : List Node). record s { views = record s.views { nodes = nodes } } in
    let with_hart = λ (n : Node). with_nodes (slice_set s.views.nodes c.args.hart n) in
    rw (← c.parts.view_is, c.keep.ensures) (ap with_hart c.behind-parts.view_is ∙ (ap with_hart c.index_mut.ensures.value ∙ ap with_nodes (set-get_or s.views.nodes c.args.hart c.index_mut.result.now)))
