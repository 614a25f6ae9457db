use Rattle.std.proofs.Common.{◌≡◌, Err, refl, rules}
use Rattle.coherent_machine.specs.Adopting.{local_of}
use Rattle.locked_fabric.specs.FabricState.{FabricState}
use Rattle.locked_fabric.proofs.Kept.{kept_moved}
use Rattle.locked_fabric.proofs.fabric.Fabric.commit.Goals as goal

pub invariant_of-self-2 : goal.invariant_of-self-2
invariant_of-self-2 g c =
    let was : FabricState = record { machine = c.self.inside.machine; journal = c.self.inside.journal.items; book = c.self.inside.book.total } in (
      rw (c.push_reserved.ensures.items, c.reserve.ensures.items, c.add.ensures.book, c.first.ensures.first, c.entries.ensures.entries)
          (kept_moved c.changes_are_counted.ensures was (local_of c.args.batch.now.first.id c.args.batch.now) c.in_ok-outcome.outcome c.adopt.new.self
          (rw c.first.ensures.first at c.in_ok-outcome.ensures.retired).0
          c.adopt.ensures.stays c.adopt.ensures.headline c.adopt.ensures.log c.self.invariant.0),
      c.self.invariant.1,
      c.self.invariant.2,
      c.self.invariant.3,
      search rules,
    )

pub returns-clause-left : goal.returns-clause-left
returns-clause-left g c = (invariant_of-self-2 g c).0

pub returns-clause-stale : goal.returns-clause-stale
returns-clause-stale g c = λ _. rw (← c.self.view_is) (rw c.first.ensures.first at c.in_ok-outcome.ensures.stale)

pub returns-clause-retired : goal.returns-clause-retired
returns-clause-retired g c = rw (← c.self.view_is) (rw c.first.ensures.first at c.in_ok-outcome.ensures.retired)

pub returns-clause-empty : goal.returns-clause-empty
returns-clause-empty g c = λ _. rw (← c.self.view_is) (rw c.first.ensures.first at c.in_ok-outcome.ensures.empty)

pub returns-clause-limit : goal.returns-clause-limit
returns-clause-limit g c = λ _. rw (← c.self.view_is) (rw c.first.ensures.first at c.in_ok-outcome.ensures.limit)

pub returns-clause-ok : goal.returns-clause-ok
returns-clause-ok g c = search rules

pub returns-clause-err : goal.returns-clause-err
returns-clause-err g c = tt

pub returns-clause-share : goal.returns-clause-share
returns-clause-share g c = search rules

pub returns-clause-stays : goal.returns-clause-stays
returns-clause-stays g c = search rules

pub invariant_of-self : goal.invariant_of-self
invariant_of-self g c = search rules

pub returns-then-is_err-clause-stale : goal.returns-then-is_err-clause-stale
returns-then-is_err-clause-stale g c = λ other. absurd (other refl)

pub returns-then-is_err-clause-empty : goal.returns-then-is_err-clause-empty
returns-then-is_err-clause-empty g c = λ other. absurd (other refl)

pub returns-then-is_err-clause-limit : goal.returns-then-is_err-clause-limit
returns-then-is_err-clause-limit g c = λ other. absurd (other refl)

pub returns-then-is_err-clause-retired : goal.returns-then-is_err-clause-retired
returns-then-is_err-clause-retired g c = tt

pub returns-then-is_err-clause-ok : goal.returns-then-is_err-clause-ok
returns-then-is_err-clause-ok g c = tt

pub returns-then-is_err-clause-err : goal.returns-then-is_err-clause-err
returns-then-is_err-clause-err g c = search rules

pub returns-then-is_err-clause-share : goal.returns-then-is_err-clause-share
returns-then-is_err-clause-share g c = search rules

pub returns-then-is_err-clause-stays : goal.returns-then-is_err-clause-stays
returns-then-is_err-clause-stays g c = search rules

pub returns-then-is_err-clause-found : goal.returns-then-is_err-clause-found
returns-then-is_err-clause-found g c = search rules

pub returns-then-is_err-clause-left : goal.returns-then-is_err-clause-left
returns-then-is_err-clause-left g c = search rules

pub invariant_of-self-in_err-outcome : goal.invariant_of-self-in_err-outcome
invariant_of-self-in_err-outcome g c = search rules

pub returns-in_err-outcome-clause-stale : goal.returns-in_err-outcome-clause-stale
returns-in_err-outcome-clause-stale g c =
    let answer : c.from_residual.result ≡ Err c.in_err-outcome.field-0.0 = search rules in
    λ _. rw (← c.self.view_is, answer) (rw c.first.ensures.first at c.in_err-outcome.ensures.stale)

pub returns-in_err-outcome-clause-empty : goal.returns-in_err-outcome-clause-empty
returns-in_err-outcome-clause-empty g c =
    let answer : c.from_residual.result ≡ Err c.in_err-outcome.field-0.0 = search rules in
    λ _. rw (← c.self.view_is, answer) (rw c.first.ensures.first at c.in_err-outcome.ensures.empty)

pub returns-in_err-outcome-clause-limit : goal.returns-in_err-outcome-clause-limit
returns-in_err-outcome-clause-limit g c =
    let answer : c.from_residual.result ≡ Err c.in_err-outcome.field-0.0 = search rules in
    λ _. rw (← c.self.view_is, answer) (rw c.first.ensures.first at c.in_err-outcome.ensures.limit)

pub returns-in_err-outcome-clause-retired : goal.returns-in_err-outcome-clause-retired
returns-in_err-outcome-clause-retired g c = search rules

pub returns-in_err-outcome-clause-ok : goal.returns-in_err-outcome-clause-ok
returns-in_err-outcome-clause-ok g c = search rules

pub returns-in_err-outcome-clause-err : goal.returns-in_err-outcome-clause-err
returns-in_err-outcome-clause-err g c = search rules

pub returns-in_err-outcome-clause-share : goal.returns-in_err-outcome-clause-share
returns-in_err-outcome-clause-share g c = search rules

pub returns-in_err-outcome-clause-stays : goal.returns-in_err-outcome-clause-stays
returns-in_err-outcome-clause-stays g c = search rules

pub returns-in_err-outcome-clause-found : goal.returns-in_err-outcome-clause-found
returns-in_err-outcome-clause-found g c = search rules

pub returns-in_err-outcome-clause-left : goal.returns-in_err-outcome-clause-left
returns-in_err-outcome-clause-left g c = search rules

pub returns-clause-found : goal.returns-clause-found
returns-clause-found g c = search rules
