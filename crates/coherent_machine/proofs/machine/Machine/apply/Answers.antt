use Rattle.std.proofs.Common.{rules}
use Rattle.machine_model.specs.LawfulLog.{IsLawfulLog}
use Rattle.machine_model.specs.Ready.{AreReady, IsSound}
use Rattle.coherent_machine.proofs.Reached.{grows_after, happened_on_ok, headline_of, kept_on_error, law_of, reached_after, stays_after}
use Rattle.coherent_machine.proofs.machine.Machine.apply.Goals as goal

pub apply-requires-clause-sound : goal.apply-requires-clause-sound
apply-requires-clause-sound c = law_of (λ image config s. IsSound s) c.sound_always.ensures c.self.inside.parts.state c.self.invariant

pub apply-requires-clause-ready : goal.apply-requires-clause-ready
apply-requires-clause-ready c = law_of (λ image config s. AreReady s) c.ready_always.ensures c.self.inside.parts.state c.self.invariant

pub invariant_of-self : goal.invariant_of-self
invariant_of-self c = reached_after c.image_and_config_stay.ensures c.self.inside.parts.state c.apply.new.self.state c.args.event c.apply.result c.apply.ensures c.self.invariant

pub returns-clause-headline : goal.returns-clause-headline
returns-clause-headline c = headline_of c.headline.ensures c.apply.new.self.state (invariant_of-self c)

pub returns-clause-err : goal.returns-clause-err
returns-clause-err c = rw (← c.self.view_is) (kept_on_error c.self.inside.parts.state c.apply.new.self.state c.args.event c.apply.result c.apply.ensures)

pub returns-clause-grows : goal.returns-clause-grows
returns-clause-grows c = rw (← c.self.view_is) (grows_after c.nothing_is_rewritten.ensures c.self.inside.parts.state c.apply.new.self.state c.args.event c.apply.result c.apply.ensures)

pub returns-clause-stays : goal.returns-clause-stays
returns-clause-stays c = rw (← c.self.view_is) (stays_after c.image_and_config_stay.ensures c.self.inside.parts.state c.apply.new.self.state c.args.event c.apply.result c.apply.ensures)

pub returns-clause-log : goal.returns-clause-log
returns-clause-log c = law_of (λ image config s. IsLawfulLog s.trace.log) c.log_lawful_always.ensures c.apply.new.self.state (invariant_of-self c)

pub returns-clause-reached : goal.returns-clause-reached
returns-clause-reached c = invariant_of-self c

pub returns-clause-ok : goal.returns-clause-ok
returns-clause-ok c = rw (← c.self.view_is) (happened_on_ok c.self.inside.parts.state c.apply.new.self.state c.args.event c.apply.result c.apply.ensures)

pub returns-clause-answers : goal.returns-clause-answers
returns-clause-answers c = search rules
