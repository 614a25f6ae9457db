use Rattle.std.proofs.Common.{◌≡◌, ℕ, List, [], ◌∷◌, ◌++◌, append_assoc}
use Rattle.std.specs.Prelude.{codes}
use Rattle.text_fields.specs.Fields.{number, word}
use Rattle.event_stream.proofs.holding.spell_value.Goals as goal

grouped : (p a b n w : List ℕ) (e f : ℕ) → (((((p ++ a) ++ b) ++ n) ++ e ∷ []) ++ w) ++ f ∷ [] ≡ p ++ (a ++ (b ++ (n ++ (e ∷ (w ++ f ∷ [])))))
grouped p a b n w e f = simp append_assoc

pub returns : goal.returns
returns c =
    rw (c.text-4.ensures.value, c.word.ensures.value, c.text-3.ensures.value, c.text-2.ensures.value, c.number.ensures.value, c.text.ensures.value)
    (grouped c.args.page.now (codes "X ") (number 32 c.args.hart) c.args.name.now (word c.args.value) 32 10)
