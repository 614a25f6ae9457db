use Rattle.std.proofs.Common.{◌≡◌, ℕ, List, [], ◌∷◌, ◌++◌, append_assoc}
use Rattle.text_fields.specs.Fields.{number, word}
use Rattle.trace_text.proofs.script_writing.spell_place.Goals as goal

regrouped : (s n w : List ℕ) (e : ℕ) → ((s ++ n) ++ w) ++ e ∷ [] ≡ s ++ (n ++ (w ++ e ∷ []))
regrouped s n w e = simp append_assoc

pub returns-clause-value : goal.returns-clause-value
returns-clause-value c =
    rw (c.text.ensures.value, c.word.ensures.value, c.number.ensures.value) (regrouped c.args.page.now (number 32 c.args.hart) (word c.args.address) c.args.end)
