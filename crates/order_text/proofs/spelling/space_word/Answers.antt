use Rattle.std.proofs.Common.{List, ℕ, [], ◌∷◌, ◌++◌, ap, ◌∙◌, append_assoc}
use Rattle.text_fields.specs.Fields.{word}
use Rattle.order_text.proofs.spelling.space_word.Goals as goal

pub returns-clause-value : goal.returns-clause-value
returns-clause-value c = c.word.ensures.value ∙ (ap (λ (t : List ℕ). t ++ word c.args.n) c.text.ensures.value ∙ append_assoc c.args.page.now (32 ∷ []) (word c.args.n))
