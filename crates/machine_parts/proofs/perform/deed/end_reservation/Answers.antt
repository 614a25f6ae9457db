use Rattle.std.proofs.Common.{ℕ, ◌∙◌, Option, None}
use Rattle.machine_model.specs.Views.{Node}
use Rattle.machine_parts.specs.Parts.{standing_of}
use Rattle.machine_parts.proofs.Nodes.{changed, lists_kept}
use Rattle.machine_parts.proofs.perform.deed.end_reservation.Goals as goal

pub returns-clause-state : goal.returns-clause-state
returns-clause-state c = changed c.args.hart (standing_of c.parts.inside) c.args.parts.now _ _ (λ (r : Option ℕ) (n : Node). record n { reserved = r }) (λ (n : Node). None) c.clear.new.self c.parts.view_is c.requires.hart (c.behind-parts.view_is ∙ c.index_mut.ensures.value) c.clear.ensures

pub returns-clause-kept : goal.returns-clause-kept
returns-clause-kept c = lists_kept c.args.hart _ (standing_of c.parts.inside) c.args.parts.now c.parts.view_is
