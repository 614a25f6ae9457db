use Rattle.std.proofs.Common.{◌∙◌, ◌++◌, ℕ, List, codes, subst}
use Rattle.std.proofs.lemmas.List.{append-nil}
use Rattle.text_fields.specs.Writing.{Writes}
use Rattle.command_files.proofs.message.put_unshown.Goals as goal

pub returns : goal.returns
returns g c = λ plain. subst (λ (t : List ℕ). Writes (g.E.Write.contents c.args.err.now) (g.E.Write.contents c.put_named.new.err) (codes "rvtl: --show " ++ (c.args.word.now ++ (codes ": " ++ t))) c.put_named.result)
    (append-nil c.as_bytes.result.now ∙ c.as_bytes.ensures.value ∙ c.unshown_text.ensures) (c.put_named.ensures plain)
