use Rattle.std.proofs.Common.{ℕ, ◌<◌, ◌∙◌, Option, Some, ap, subst, sym}
use Rattle.machine_model.specs.Changing.{with_reservation}
use Rattle.machine_model.specs.Views.{Node}
use Rattle.machine_parts.specs.Parts.{standing_of}
use Rattle.machine_parts.proofs.Nodes.{changed}
use Rattle.machine_parts.proofs.perform.deed.reserve_word.Goals as goal

pub perform_own-requires-clause-hart : goal.perform_own-requires-clause-hart
perform_own-requires-clause-hart c = subst (λ (n : ℕ). c.args.hart < n) (c.requires.sound.nodes ∙ sym c.requires.sound.entries) c.requires.hart

pub returns-clause-state : goal.returns-clause-state
returns-clause-state c =
    let there = subst (λ (n : ℕ). c.args.hart < n) (sym c.perform_own.ensures.kept.nodes) c.requires.hart in
    changed c.args.hart (standing_of c.parts.inside) c.perform_own.new.parts _ _ (λ (r : Option ℕ) (n : Node). record n { reserved = r }) (λ (n : Node). Some c.args.word) c.set.new.self c.parts.view_is there (c.behind-parts.view_is ∙ c.index_mut.ensures.value) c.set.ensures
    ∙ ap (with_reservation c.args.hart (Some c.args.word)) c.perform_own.ensures.state
