use Rattle.std.proofs.Common.{◌≡◌, ℕ, List, ◌++◌, append_assoc}
use Rattle.std.specs.Prelude.{codes}
use Rattle.text_fields.specs.Fields.{word}
use Rattle.event_stream.specs.Stalls.{transaction_text}
use Rattle.event_stream.proofs.stalls.spell_lead.Goals as goal

grouped : (p s w t : List ℕ) → ((p ++ s) ++ w) ++ t ≡ p ++ (s ++ (w ++ t))
grouped p s w t = simp append_assoc

pub returns : goal.returns
returns c =
    rw (c.spell_transaction.ensures, c.word.ensures.value, c.text.ensures.value)
    (grouped c.args.page.now (codes " ; ") (word c.args.line) (transaction_text c.args.transaction))
