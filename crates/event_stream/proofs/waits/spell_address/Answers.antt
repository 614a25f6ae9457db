use Rattle.std.proofs.Common.{List, ℕ, [], ◌∷◌, ◌++◌, ap, ◌∙◌, append_assoc}
use Rattle.text_fields.specs.Fields.{word}
use Rattle.event_stream.proofs.waits.spell_address.Goals as goal

pub returns : goal.returns
returns c = c.word.ensures.value ∙ (ap (λ (t : List ℕ). t ++ word c.args.address) c.text.ensures.value ∙ append_assoc c.args.page.now (32 ∷ []) (word c.args.address))
