use Rattle.std.proofs.Common.{◌≡◌, ℕ, List, [], ◌∷◌, ◌++◌, append_assoc}
use Rattle.std.specs.Prelude.{codes}
use Rattle.text_fields.specs.Fields.{hex, word}
use Rattle.tl_types.specs.Line.{bytes_of}
use Rattle.event_stream.proofs.state.spell_data.Goals as goal

grouped : (p d w h : List ℕ) (e f : ℕ) → ((((p ++ d) ++ w) ++ e ∷ []) ++ h) ++ f ∷ [] ≡ p ++ (d ++ (w ++ (e ∷ (h ++ f ∷ []))))
grouped p d w h e f = simp append_assoc

pub returns : goal.returns
returns c =
    rw (c.text-3.ensures.value, c.spell_bytes.ensures.value, c.text-2.ensures.value, c.word.ensures.value, c.text.ensures.value)
    (grouped c.args.page.now (codes "D ") (word c.args.line) (hex (bytes_of c.args.bytes.now)) 32 10)
