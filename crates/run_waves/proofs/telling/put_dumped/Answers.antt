use Rattle.std.proofs.Common.{◌∙◌, ℕ, List, ap, subst}
use Rattle.std.specs.List.{flat_map}
use Rattle.text_fields.specs.Pages.{Spells}
use Rattle.run_waves.specs.Telling.{told}
use Rattle.run_waves.specs.Values.{values}
use Rattle.run_waves.specs.declared.signals.Signal.{Signal}
use Rattle.run_waves.proofs.telling.put_dumped.Goals as goal

pub returns : goal.returns
returns g c =
    let W = g.W.Write.contents in
    subst (λ (t : List ℕ). Spells (W c.args.out.now) (W c.put_values.new.out) c.args.page.now c.put_values.new.page t c.put_values.result)
    (ap (λ (v : List ℕ). flat_map (told c.args.group v) c.signals.result.now) c.values_of-values.ensures ∙ ap (λ (xs : List Signal). flat_map (told c.args.group (values c.args.machine.now c.args.group)) xs) c.signals.ensures)
    c.put_values.ensures
