use Rattle.std.proofs.Common.{ℕ, List, [], ◌∷◌, ◌++◌, ◌∙◌}
use Rattle.machine_model.specs.Views.{Node}
use Rattle.machine_parts.specs.Parts.{standing_of}
use Rattle.machine_parts.proofs.Nodes.{changed, lists_kept}
use Rattle.machine_parts.proofs.perform.deed.put_out.Goals as goal

pub returns-in_err-push-clause-kept : goal.returns-in_err-push-clause-kept
returns-in_err-push-clause-kept c = lists_kept c.args.hart _ (standing_of c.parts.inside) c.args.parts.now c.parts.view_is

pub returns-clause-ok : goal.returns-clause-ok
returns-clause-ok c = changed c.args.hart (standing_of c.parts.inside) c.args.parts.now _ _ (λ (numbers : List ℕ) (n : Node). record n { output = numbers }) (λ (n : Node). n.output ++ c.args.number ∷ []) c.push.new.self.items c.parts.view_is c.requires.hart (c.behind-parts.view_is ∙ c.index_mut.ensures.value) c.in_ok-push.ensures.items

pub returns-clause-kept : goal.returns-clause-kept
returns-clause-kept c = lists_kept c.args.hart _ (standing_of c.parts.inside) c.args.parts.now c.parts.view_is
