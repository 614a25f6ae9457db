use Rattle.std.proofs.Common.{◌≡◌, ℕ, List, [], ◌∷◌, ◌++◌, append_assoc}
use Rattle.text_fields.specs.Fields.{word, hex}
use Rattle.trace_text.proofs.trace_writing.spell_set_line.Goals as goal

regrouped : (s w d : List ℕ) → ((((s ++ 73 ∷ 32 ∷ []) ++ w) ++ 32 ∷ []) ++ d) ++ 10 ∷ [] ≡ s ++ (73 ∷ 32 ∷ (w ++ (32 ∷ (d ++ 10 ∷ []))))
regrouped s w d = simp append_assoc

pub returns : goal.returns
returns c =
    rw (c.text-3.ensures.value, c.hex.ensures.value, c.text-2.ensures.value, c.word.ensures.value, c.text.ensures.value)
    (regrouped c.args.page.now (word c.args.address) (hex c.args.bytes.now))
