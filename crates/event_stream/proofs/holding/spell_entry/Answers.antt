use Rattle.std.proofs.Common.{◌≡◌, ℕ, List, [], ◌∷◌, ◌++◌, append_assoc}
use Rattle.std.specs.Prelude.{codes}
use Rattle.text_fields.specs.Fields.{number, word}
use Rattle.event_stream.specs.Holding.{byte_text}
use Rattle.event_stream.proofs.holding.spell_entry.Goals as goal

grouped : (p a b g w k l m n : List ℕ) (e f : ℕ)
    → (((((((((p ++ a) ++ b) ++ g) ++ w) ++ e ∷ []) ++ k) ++ l) ++ m) ++ n) ++ f ∷ [] ≡ p ++ (a ++ (b ++ (g ++ (w ++ (e ∷ (k ++ (l ++ (m ++ (n ++ f ∷ [])))))))))
grouped p a b g w k l m n e f = simp append_assoc

pub returns : goal.returns
returns c =
    let e = c.args.entry.now in
    rw (c.text-3.ensures.value, c.spell_byte-4.ensures.value, c.spell_byte-3.ensures.value, c.spell_byte-2.ensures.value, c.spell_byte.ensures.value, c.text-2.ensures.value, c.word.ensures.value, c.number-2.ensures.value, c.number.ensures.value, c.text.ensures.value)
    (grouped c.args.page.now (codes "B ") (number 32 c.args.hart) (number 32 c.args.group) (word e.word) (byte_text e 0) (byte_text e 1) (byte_text e 2) (byte_text e 3) 32 10)
