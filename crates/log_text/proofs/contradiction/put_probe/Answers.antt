use Rattle.std.proofs.Common.{◌∙◌, ◌++◌, List, ℕ, subst}
use Rattle.std.specs.Prelude.{codes}
use Rattle.text_fields.specs.Writing.{Writes}
use Rattle.log_text.proofs.contradiction.put_probe.Goals as goal

pub returns : goal.returns
returns g c = subst (λ (t : List ℕ). Writes (g.W.Write.contents c.args.out.now) (g.W.Write.contents c.put_pieces.new.out) (codes ", so the Probe" ++ (t ++ codes " of ")) c.put_pieces.result)
    (c.as_bytes.ensures.value ∙ c.cap_name.ensures) c.put_pieces.ensures
