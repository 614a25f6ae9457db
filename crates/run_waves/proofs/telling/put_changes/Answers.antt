use Rattle.std.proofs.Common.{◌∙◌, ℕ, List, ap, subst}
use Rattle.std.specs.List.{flat_map}
use Rattle.text_fields.specs.Pages.{Spells}
use Rattle.run_waves.specs.Telling.{changed}
use Rattle.run_waves.specs.Values.{values}
use Rattle.run_waves.specs.declared.signals.Signal.{Signal}
use Rattle.run_waves.proofs.telling.put_changes.Goals as goal

pub returns : goal.returns
returns g c =
    let W = g.W.Write.contents in
    let seen = c.args.seen.now in
    subst (λ (t : List ℕ). Spells (W c.args.out.now) (W c.put_changed.new.out) c.args.page.now c.put_changed.new.page t c.put_changed.result)
    (ap (λ (v : List ℕ). flat_map (changed seen.group seen.values v) c.signals.result.now) c.values_of-values.ensures ∙ ap (λ (xs : List Signal). flat_map (changed seen.group seen.values (values c.args.machine.now seen.group)) xs) c.signals.ensures)
    c.put_changed.ensures
