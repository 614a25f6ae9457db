use Rattle.std.proofs.Common.{rules, [], ap, sym}
use Rattle.machine_model.specs.LawfulLog.{IsLawfulLog}
use Rattle.machine_model.specs.Views.{State}
use Rattle.coherent_machine.specs.Machine.{Replayed}
use Rattle.coherent_machine.proofs.Reached.{headline_from, headline_of, law_of, reached_opening}
use Rattle.coherent_machine.proofs.machine.Machine.new.Goals as goal

pub invariant_of-result : goal.invariant_of-result
invariant_of-result c = rw c.in_ok-parts.ensures (reached_opening c.args.image c.args.config (rw (← c.image.view_is) c.image.invariant))

pub returns-clause-headline : goal.returns-clause-headline
returns-clause-headline c =
    headline_from c.image_and_config_stay.ensures c.args.image c.args.config [] c.in_ok-parts.parts.state
    (ap (λ (s : State). Replayed.Reached s) (sym c.in_ok-parts.ensures))
    (headline_of c.headline.ensures c.in_ok-parts.parts.state (invariant_of-result c))

pub returns-clause-log : goal.returns-clause-log
returns-clause-log c = law_of (λ image config s. IsLawfulLog s.trace.log) c.log_lawful_always.ensures c.in_ok-parts.parts.state (invariant_of-result c)

pub returns-clause-reached : goal.returns-clause-reached
returns-clause-reached c = invariant_of-result c

pub returns-in_err-outputs-clause-ok : goal.returns-in_err-outputs-clause-ok
returns-in_err-outputs-clause-ok c = search rules

pub returns-in_err-outputs-clause-reached : goal.returns-in_err-outputs-clause-reached
returns-in_err-outputs-clause-reached c = search rules

pub returns-in_err-outputs-clause-headline : goal.returns-in_err-outputs-clause-headline
returns-in_err-outputs-clause-headline c = search rules

pub returns-in_err-outputs-clause-log : goal.returns-in_err-outputs-clause-log
returns-in_err-outputs-clause-log c = search rules

pub returns-in_err-parts-clause-ok : goal.returns-in_err-parts-clause-ok
returns-in_err-parts-clause-ok c = search rules

pub returns-in_err-parts-clause-reached : goal.returns-in_err-parts-clause-reached
returns-in_err-parts-clause-reached c = search rules

pub returns-in_err-parts-clause-headline : goal.returns-in_err-parts-clause-headline
returns-in_err-parts-clause-headline c = search rules

pub returns-in_err-parts-clause-log : goal.returns-in_err-parts-clause-log
returns-in_err-parts-clause-log c = search rules

pub returns-clause-ok : goal.returns-clause-ok
returns-clause-ok c = search rules
