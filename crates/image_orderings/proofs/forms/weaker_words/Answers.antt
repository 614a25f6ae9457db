use Rattle.std.proofs.Common.{All}
use Rattle.image_orderings.proofs.Inside.{if_made}
use Rattle.image_orderings.proofs.Variants.{weaker_variants}
use Rattle.image_orderings.specs.Forms.{IsVariant}
use Rattle.image_orderings.proofs.forms.weaker_words.Goals as goal

pub returns-clause-variants : goal.returns-clause-variants
returns-clause-variants c =
    if_made c.forms_below.result (λ words. words.items) _ (All (IsVariant c.args.word)) (weaker_variants c.args.word) c.forms_below.ensures
