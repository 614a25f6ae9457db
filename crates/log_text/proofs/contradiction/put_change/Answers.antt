use Rattle.std.proofs.Common.{◌≡◌, ◌∙◌, ◌++◌, [], List, ℕ, ap, subst}
use Rattle.std.proofs.lemmas.List.{append-nil}
use Rattle.std.specs.Prelude.{codes}
use Rattle.text_fields.specs.Writing.{Writes}
use Rattle.tl_types.specs.declared.permission.Change.{Change}
use Rattle.tl_types.specs.declared.permission.Perm.{Perm}
use Rattle.trace_text.specs.Words as words
use Rattle.log_text.proofs.contradiction.put_change.Goals as goal

pub returns : goal.returns
returns g c = subst (λ (t : List ℕ). Writes (g.W.Write.contents c.args.out.now) (g.W.Write.contents c.put_pieces.new.out) (codes " is answered by" ++ t) c.put_pieces.result)
    (append-nil c.as_bytes.result.now ∙ (c.as_bytes.ensures.value ∙ (c.change_name.ensures ∙ ap (λ (p : Perm × Change). words.change p.1) c.shrink-change.ensures))) c.put_pieces.ensures
