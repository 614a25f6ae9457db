use Rattle.text_words.proofs.Names.{padded}
use Rattle.text_words.proofs.name.Name.of.Goals as goal

pub invariant_of-result : goal.invariant_of-result
invariant_of-result c = padded c.args.text.now c.copy_from_slice.new.self c.requires c.copy_from_slice.ensures.after
