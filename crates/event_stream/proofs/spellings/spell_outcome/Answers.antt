use Rattle.std.proofs.Common.{◌≡◌, ℕ, List, [], ◌∷◌, ◌++◌, append_assoc}
use Rattle.text_fields.specs.Fields.{word}
use Rattle.std.specs.Prelude.{codes}
use Rattle.event_stream.proofs.spellings.spell_outcome.Goals as goal

behind : (p n d : List ℕ) (e : ℕ) → ((p ++ n) ++ e ∷ []) ++ d ≡ p ++ (n ++ (e ∷ d))
behind p n d e = simp append_assoc

pub returns-in-Missed-clause-value : goal.returns-in-Missed-clause-value
returns-in-Missed-clause-value c =
    rw (c.word.ensures.value, c.text-in-Missed.ensures.value, c.text.ensures.value, c.as_bytes.ensures.value, c.outcome_name.ensures.value, c.in-Missed.is)
    (behind c.args.page.now (codes "Missed") (word c.in-Missed.line) 32)
