use Rattle.std.proofs.Common.{◌∷◌, [], ◌++◌, ap, sym, ◌∙◌, arith}
use Rattle.std.proofs.lemmas.Fmt.{decimal_digit}
use Rattle.text_fields.proofs.page.Page.number.Goals as goal

pub returns-then-n-lt10-clause-value : goal.returns-then-n-lt10-clause-value
returns-then-n-lt10-clause-value c = c.text.ensures.value ∙ ap (λ t. c.args.self.now ++ (t ++ c.args.end ∷ [])) (sym (decimal_digit c.args.n (omega arith)))
