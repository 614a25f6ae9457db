use Rattle.std.proofs.Common.{◌≡◌, ◌∙◌, ℕ, List, ◌++◌, ap}
use Rattle.std.specs.Prelude.{codes, decimal}
use Rattle.run_chart.proofs.Written.{twice}
use Rattle.run_chart.proofs.texts.spell_description.Goals as goal

pub returns : goal.returns
returns c =
    twice _ _ _ _ _ c.text.ensures.value c.decimal.ensures.value
    ∙ ap (λ (n : ℕ). c.args.page.now ++ (codes "Time goes down. Each hart has a lane for its core and one for its cache. Events drawn: " ++ decimal n)) c.len.ensures
