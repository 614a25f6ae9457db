use Rattle.std.proofs.Common.{arith, ◌≡◌, IfOk, OnOk, rules, subst, sym}
use Rattle.std.proofs.lemmas.Grind.{common_steps}
use Rattle.std.specs.declared.result.Result.{Result}
use Rattle.machine_types.specs.declared.outcome.Outcome.{Outcome}
use Rattle.machine_types.specs.declared.outcome.Outcome.TheVariants as outcome
use Rattle.machine_model.specs.Events.{happens, verdict}
use Rattle.machine_model.specs.Events.Verdict.{Moves}
use Rattle.machine_model.specs.LawfulLog.{IsLawfulLog}
use Rattle.machine_model.specs.Views.{State}
use Rattle.machine_parts.specs.Applying.{Answers}
use Rattle.machine_parts.specs.declared.errors.ApplyError.{ApplyError}
use Rattle.coherent_machine.specs.Adopting.{local_of}
use Rattle.coherent_machine.specs.declared.errors.AdoptError.{AdoptError}
use Rattle.coherent_machine.proofs.Batches.{fits_by, moved_when, never_bad, next_row}
use Rattle.coherent_machine.proofs.Reached.{grows_after, happened_on_ok, headline_of, law_of, reached_after, stays_after}
use Rattle.coherent_machine.proofs.machine.Machine.adopt.Goals.{in-Ok, in-Err-Limit, in-Err-NoMemory}
use Rattle.coherent_machine.proofs.machine.Machine.adopt.Goals as goal

pub returns-then-not-is_current-clause-headline : goal.returns-then-not-is_current-clause-headline
returns-then-not-is_current-clause-headline c = rw (← c.self.view_is) (headline_of c.headline.ensures c.self.inside.parts.state c.self.invariant)

pub returns-then-is_empty-clause-headline : goal.returns-then-is_empty-clause-headline
returns-then-is_empty-clause-headline c = rw (← c.self.view_is) (headline_of c.headline.ensures c.self.inside.parts.state c.self.invariant)

pub returns-then-not-is_current-clause-log : goal.returns-then-not-is_current-clause-log
returns-then-not-is_current-clause-log c = rw (← c.self.view_is) (law_of (λ image config s. IsLawfulLog s.trace.log) c.log_lawful_always.ensures c.self.inside.parts.state c.self.invariant)

pub returns-then-is_empty-clause-log : goal.returns-then-is_empty-clause-log
returns-then-is_empty-clause-log c = rw (← c.self.view_is) (law_of (λ image config s. IsLawfulLog s.trace.log) c.log_lawful_always.ensures c.self.inside.parts.state c.self.invariant)

pub returns-then-not-is_current-clause-stale : goal.returns-then-not-is_current-clause-stale
returns-then-not-is_current-clause-stale c = search rules

pub returns-then-not-is_current-clause-ok : goal.returns-then-not-is_current-clause-ok
returns-then-not-is_current-clause-ok c = search rules

pub returns-then-not-is_current-clause-retired : goal.returns-then-not-is_current-clause-retired
returns-then-not-is_current-clause-retired c = search rules

pub returns-then-not-is_current-clause-err : goal.returns-then-not-is_current-clause-err
returns-then-not-is_current-clause-err c = search rules

pub returns-then-not-is_current-clause-reached : goal.returns-then-not-is_current-clause-reached
returns-then-not-is_current-clause-reached c = search rules

pub returns-then-not-is_current-clause-grows : goal.returns-then-not-is_current-clause-grows
returns-then-not-is_current-clause-grows c = search rules

pub returns-then-not-is_current-clause-stays : goal.returns-then-not-is_current-clause-stays
returns-then-not-is_current-clause-stays c = search rules

pub returns-then-is_empty-clause-limit : goal.returns-then-is_empty-clause-limit
returns-then-is_empty-clause-limit c = search rules

pub returns-then-is_empty-clause-ok : goal.returns-then-is_empty-clause-ok
returns-then-is_empty-clause-ok c = search rules

pub returns-then-is_empty-clause-retired : goal.returns-then-is_empty-clause-retired
returns-then-is_empty-clause-retired c = search rules

pub returns-then-is_empty-clause-err : goal.returns-then-is_empty-clause-err
returns-then-is_empty-clause-err c = search rules

pub returns-then-is_empty-clause-reached : goal.returns-then-is_empty-clause-reached
returns-then-is_empty-clause-reached c = search rules

pub returns-then-is_empty-clause-grows : goal.returns-then-is_empty-clause-grows
returns-then-is_empty-clause-grows c = search rules

pub returns-then-is_empty-clause-stays : goal.returns-then-is_empty-clause-stays
returns-then-is_empty-clause-stays c = search rules

pub commit-requires-clause-row : goal.commit-requires-clause-row
commit-requires-clause-row c = next_row c.args.hart c.args.batch.now c.self.inside.parts.state c.entries.ensures.row (c.is_current.ensures.0 c.if-not-is_current.false)

pub unreachable-requires : goal.unreachable-requires
unreachable-requires c =
    let e = local_of c.args.hart c.args.batch.now in
    let fits = fits_by c.args.hart c.args.batch.now c.args.self.now c.self.inside.parts.state c.entries.result.now c.is_empty.result c.entries.ensures.row c.entries.ensures.entries c.self.view_is (c.is_current.ensures.0 c.if-not-is_current.false) c.is_empty.ensures c.if-is_empty.false in
    never_bad c.args.hart c.args.batch.now c.args.self.now c.commit.new.self.state c.commit.result fits
    (subst (λ (s : State). Answers (verdict s e) s c.commit.result c.commit.new.self.state) c.self.view_is c.commit.ensures)
    (cc (c.in-Err-BadEvent.is, c.in-Err-BadEvent.field-0-is))

pub invariant_of-self : goal.invariant_of-self
invariant_of-self c = reached_after c.image_and_config_stay.ensures c.self.inside.parts.state c.commit.new.self.state (local_of c.args.hart c.args.batch.now) c.commit.result c.commit.ensures c.self.invariant

pub returns-clause-ok : goal.returns-clause-ok
returns-clause-ok c =
    let e = local_of c.args.hart c.args.batch.now in
    let led = λ (r : Result Outcome AdoptError). OnOk r (c.commit.new.self.state ≡ happens c.args.self.now e) in
    let done = happened_on_ok c.self.inside.parts.state c.commit.new.self.state e c.commit.result c.commit.ensures in
    elim c.match-commit.branch [
      | in-Ok w ↦ subst led (sym w.result-is) (subst (λ (s : State). c.commit.new.self.state ≡ happens s e) c.self.view_is (subst (λ (r : Result Outcome ApplyError). OnOk r (c.commit.new.self.state ≡ happens c.self.inside.parts.state e)) w.in-Ok.is done))
      | in-Err-Limit w ↦ subst led (sym w.result-is) tt
      | in-Err-NoMemory w ↦ subst led (sym w.result-is) tt
    ]

pub returns-clause-retired : goal.returns-clause-retired
returns-clause-retired c =
    let e = local_of c.args.hart c.args.batch.now in
    let now = c.args.self.now in
    let new = c.commit.new.self.state in
    let retired = λ (r : Result Outcome AdoptError). IfOk r (λ (o : Outcome). (verdict now e ≡ Moves o new) × (o ≡ outcome.Retired)) in
    let fits = fits_by c.args.hart c.args.batch.now now c.self.inside.parts.state c.entries.result.now c.is_empty.result c.entries.ensures.row c.entries.ensures.entries c.self.view_is (c.is_current.ensures.0 c.if-not-is_current.false) c.is_empty.ensures c.if-is_empty.false in
    let answers = subst (λ (s : State). Answers (verdict s e) s c.commit.result new) c.self.view_is c.commit.ensures in
    elim c.match-commit.branch [
      | in-Ok w ↦ subst retired (sym w.result-is) (moved_when c.args.hart c.args.batch.now now new w.in-Ok.outcome c.commit.result fits answers w.in-Ok.is)
      | in-Err-Limit w ↦ subst retired (sym w.result-is) tt
      | in-Err-NoMemory w ↦ subst retired (sym w.result-is) tt
    ]

pub returns-clause-reached : goal.returns-clause-reached
returns-clause-reached c = invariant_of-self c

pub returns-clause-headline : goal.returns-clause-headline
returns-clause-headline c = headline_of c.headline.ensures c.commit.new.self.state (invariant_of-self c)

pub returns-clause-log : goal.returns-clause-log
returns-clause-log c = law_of (λ image config s. IsLawfulLog s.trace.log) c.log_lawful_always.ensures c.commit.new.self.state (invariant_of-self c)

pub returns-clause-grows : goal.returns-clause-grows
returns-clause-grows c = rw (← c.self.view_is) (grows_after c.nothing_is_rewritten.ensures c.self.inside.parts.state c.commit.new.self.state (local_of c.args.hart c.args.batch.now) c.commit.result c.commit.ensures)

pub returns-clause-stays : goal.returns-clause-stays
returns-clause-stays c = rw (← c.self.view_is) (stays_after c.image_and_config_stay.ensures c.self.inside.parts.state c.commit.new.self.state (local_of c.args.hart c.args.batch.now) c.commit.result c.commit.ensures)

pub returns-then-not-is_current-clause-empty : goal.returns-then-not-is_current-clause-empty
returns-then-not-is_current-clause-empty c = grind (arith, common_steps)

pub returns-then-not-is_current-clause-limit : goal.returns-then-not-is_current-clause-limit
returns-then-not-is_current-clause-limit c = grind (arith, common_steps)

pub returns-then-is_empty-clause-stale : goal.returns-then-is_empty-clause-stale
returns-then-is_empty-clause-stale c = grind (arith, common_steps)

pub returns-then-is_empty-clause-empty : goal.returns-then-is_empty-clause-empty
returns-then-is_empty-clause-empty c = grind (arith, common_steps)

pub commit-requires-clause-sound : goal.commit-requires-clause-sound
commit-requires-clause-sound c = search rules

pub commit-requires-clause-hart : goal.commit-requires-clause-hart
commit-requires-clause-hart c = search rules

pub commit-requires-clause-some : goal.commit-requires-clause-some
commit-requires-clause-some c = search rules

pub returns-clause-stale : goal.returns-clause-stale
returns-clause-stale c = grind (arith, common_steps)

pub returns-clause-empty : goal.returns-clause-empty
returns-clause-empty c = search rules

pub returns-clause-limit : goal.returns-clause-limit
returns-clause-limit c = grind (arith, common_steps)

pub returns-clause-err : goal.returns-clause-err
returns-clause-err c = search rules
