use Rattle.std.proofs.Common.{◌∙◌, ◌++◌, ap, sym}
use Rattle.run_chart.specs.Texts.{note}
use Rattle.run_chart.specs.declared.rows.Note.{Note}
use Rattle.run_chart.proofs.Written.{twice}
use Rattle.run_chart.proofs.texts.spell_note.Goals as goal

pub returns-in-Lost : goal.returns-in-Lost
returns-in-Lost c =
    twice _ _ _ _ _ c.text-in-Lost.ensures.value c.spell_address-in-Lost.ensures.value ∙ ap (λ (n : Note). c.args.page.now ++ note c.args.manner c.args.names.now.symbols.now n) (sym c.in-Lost.is)
