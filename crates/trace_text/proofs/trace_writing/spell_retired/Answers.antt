use Rattle.std.proofs.Common.{◌≡◌, ℕ, List, [], ◌∷◌, ◌++◌, append_assoc}
use Rattle.std.specs.Prelude.{decimal}
use Rattle.text_fields.specs.Fields.{word}
use Rattle.trace_text.specs.Words as words
use Rattle.trace_text.proofs.trace_writing.spell_retired.Goals as goal

regrouped : (s n p w l a : List ℕ) (e : ℕ) → (((((((((s ++ 82 ∷ 32 ∷ []) ++ (n ++ 32 ∷ [])) ++ p) ++ 32 ∷ []) ++ w) ++ 32 ∷ []) ++ l) ++ 32 ∷ []) ++ a) ++ e ∷ [] ≡ s ++ ((82 ∷ 32 ∷ (n ++ 32 ∷ [])) ++ ((p ++ 32 ∷ []) ++ ((w ++ 32 ∷ []) ++ ((l ++ 32 ∷ []) ++ (a ++ e ∷ [])))))
regrouped s n p w l a e = simp append_assoc

pub returns-clause-value : goal.returns-clause-value
returns-clause-value c =
    rw (c.text-5.ensures.value, c.spell_answer.ensures.value, c.text-4.ensures.value, c.spell_loaded.ensures.value, c.text-3.ensures.value, c.word-2.ensures.value, c.text-2.ensures.value, c.word.ensures.value, c.number.ensures.value, c.text.ensures.value)
    (regrouped c.args.page.now (decimal c.args.hart) (word c.args.entry.now.pc) (word c.args.entry.now.word) (words.loaded c.args.entry.now.loaded) (words.answer c.args.entry.now.sc_ok) c.args.end)
