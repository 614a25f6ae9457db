use Rattle.std.proofs.Common.{ℕ, List, ◌++◌, subst}
use Rattle.std.specs.List.{flat_map}
use Rattle.text_fields.specs.Pages.{Paged}
use Rattle.text_fields.specs.Writing.{Begins}
use Rattle.run_waves.specs.Naming.{declaration}
use Rattle.run_waves.specs.declared.signals.Signal.{Signal}
use Rattle.run_waves.proofs.Paging.{spells_fails, spells_then}
use Rattle.run_waves.proofs.telling.put_declared.Goals as goal

pub returns-in_err-put_module : goal.returns-in_err-put_module
returns-in_err-put_module g c = spells_fails _ _ _ _ _ _ _ c.from_residual.ensures.0 c.in_err-put_module.ensures

pub returns-in_err-put_declarations : goal.returns-in_err-put_declarations
returns-in_err-put_declarations g c =
    let W = g.W.Write.contents in
    spells_then _ _ _ _ _ _ _ _ _ c.in_ok-put_module.ensures
    (spells_fails _ _ _ _ _ _ _ c.from_residual-in_err-put_declarations.ensures.0
    (subst (λ (xs : List Signal). Begins (W c.put_module.new.out) (W c.put_declarations.new.out) (c.put_module.new.page ++ flat_map (declaration c.args.group) xs)) c.signals.ensures c.in_err-put_declarations.ensures))

pub returns : goal.returns
returns g c =
    let W = g.W.Write.contents in
    spells_then _ _ _ _ _ _ _ _ _ c.in_ok-put_module.ensures
    (spells_then _ _ _ _ _ _ _ _ _
    (subst (λ (xs : List Signal). Paged (W c.put_module.new.out) (W c.put_declarations.new.out) c.put_module.new.page c.put_declarations.new.page (flat_map (declaration c.args.group) xs)) c.signals.ensures c.in_ok-put_declarations.ensures)
    c.put_end.ensures)
