use Rattle.std.proofs.Common.{◌∙◌, ℕ, List, ap, subst}
use Rattle.machine_model.specs.Views.{State}
use Rattle.text_fields.specs.Writing.{Writes}
use Rattle.run_waves.specs.Touched.{parts_of}
use Rattle.run_waves.specs.Waves.{waves_from}
use Rattle.run_waves.specs.declared.groups.Group.{Group}
use Rattle.run_waves.proofs.Paging.{writes_nothing}
use Rattle.run_waves.proofs.writing.tell_again.Goals as goal

pub returns-in_err-parts : goal.returns-in_err-parts
returns-in_err-parts g c = writes_nothing _ _ _ c.from_residual.ensures.0

pub returns-in_err-machine : goal.returns-in_err-machine
returns-in_err-machine g c = writes_nothing _ _ _ c.from_residual-in_err-machine.ensures.0

pub returns : goal.returns
returns g c =
    subst (λ (t : List ℕ). Writes (g.W.Write.contents c.args.out.now) (g.W.Write.contents c.put_waves.new.out) t c.put_waves.result)
    (ap (λ (ps : List Group). waves_from ps c.in_ok-machine.machine c.args.events.now) (c.as_slice.ensures.value ∙ c.in_ok-parts.ensures)
    ∙ ap (λ (s : State). waves_from (parts_of c.args.reached) s c.args.events.now) c.in_ok-machine.ensures)
    c.put_waves.ensures
