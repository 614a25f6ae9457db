use Rattle.std.proofs.Common.{◌∙◌, ◌++◌, List, ℕ, subst}
use Rattle.std.specs.Prelude.{codes}
use Rattle.text_fields.specs.Writing.{Writes}
use Rattle.log_text.proofs.unanswered.put_missing.Goals as goal

pub returns : goal.returns
returns g c = subst (λ (t : List ℕ). Writes (g.W.Write.contents c.args.out.now) (g.W.Write.contents c.put_pieces.new.out) (codes ": its " ++ (t ++ codes " wasn't taken by the end")) c.put_pieces.result)
    (c.as_bytes.ensures.value ∙ c.answer_to.ensures) c.put_pieces.ensures
