use Rattle.std.proofs.Common.{◌++◌, ◌∙◌, List, ap, codes, ℕ}
use Rattle.exploration_text.proofs.Joined.{joined_more}
use Rattle.exploration_text.specs.Words.{name_text}
use Rattle.text_fields.specs.Fields.{word}
use Rattle.exploration_text.proofs.wording.spell_word.Goals as goal

pub returns : goal.returns
returns c =
    joined_more c.args.into.now.items (codes "   ") (name_text c.args.name.now) (codes " = ") (word c.args.value) _ _ _ _ c.in_ok-extend_from_slice.ensures.items c.in_ok-spell_name.ensures c.in_ok-extend_from_slice-2.ensures.items
    (c.in_ok-extend_from_slice-3.ensures.items ∙ ap (λ (xs : List ℕ). c.extend_from_slice-2.new.self.items ++ xs) c.word_text.ensures)
