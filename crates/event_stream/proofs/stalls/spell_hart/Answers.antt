use Rattle.std.proofs.Common.{List, ℕ, [], ◌∷◌, ◌++◌, ap, ◌∙◌, append_assoc}
use Rattle.std.specs.Prelude.{decimal}
use Rattle.event_stream.proofs.stalls.spell_hart.Goals as goal

pub returns : goal.returns
returns c = c.decimal.ensures.value ∙ (ap (λ (t : List ℕ). t ++ decimal c.args.hart) c.text.ensures.value ∙ append_assoc c.args.page.now (32 ∷ []) (decimal c.args.hart))
