use Rattle.std.proofs.Common.{rules, ◌∙◌, ap, sym}
use Rattle.machine_model.specs.Views.{State}
use Rattle.locked_fabric.specs.FabricState.{FabricState}
use Rattle.locked_fabric.proofs.Answering.{answered_moved, answered_still, moves, still}
use Rattle.locked_fabric.proofs.Kept.{kept_moved, kept_still}
use Rattle.locked_fabric.proofs.fabric.Fabric.apply.Goals as goal

pub invariant_of-self-then-moved : goal.invariant_of-self-then-moved
invariant_of-self-then-moved g c =
    let was : FabricState = record { machine = c.self.inside.machine; journal = c.self.inside.journal.items; book = c.self.inside.book.total } in
    let after = c.changes.ensures ∙ ap (λ (s : State). s.views.changes) c.views-2.ensures in
    let before = c.changes-changes.ensures ∙ ap (λ (s : State). s.views.changes) c.views.ensures in
    let is = moves was.machine c.args.event c.in_ok-outcome.outcome c.apply.new.self c.in_ok-outcome.ensures.answers (λ same. c.if-moved.true (after ∙ same ∙ sym before)) in (
      rw (c.push_reserved.ensures.items, c.reserve.ensures.items, c.add.ensures.book)
          (kept_moved c.changes_are_counted.ensures was c.args.event c.in_ok-outcome.outcome c.apply.new.self is c.apply.ensures.stays c.apply.ensures.headline c.apply.ensures.log c.self.invariant.0),
      c.self.invariant.1,
      c.self.invariant.2,
      c.self.invariant.3,
      search rules,
    )

pub invariant_of-self-else-moved : goal.invariant_of-self-else-moved
invariant_of-self-else-moved g c =
    let was : FabricState = record { machine = c.self.inside.machine; journal = c.self.inside.journal.items; book = c.self.inside.book.total } in
    let after = c.changes.ensures ∙ ap (λ (s : State). s.views.changes) c.views-2.ensures in
    let before = c.changes-changes.ensures ∙ ap (λ (s : State). s.views.changes) c.views.ensures in
    let is = still c.changes_are_counted.ensures was.machine c.args.event c.in_ok-outcome.outcome c.apply.new.self c.in_ok-outcome.ensures.answers (sym after ∙ c.if-moved.false ∙ before) in (
      rw c.reserve.ensures.items (kept_still was c.apply.new.self is c.self.invariant.0),
      c.self.invariant.1,
      c.self.invariant.2,
      c.self.invariant.3,
      search rules,
    )

pub returns-else-moved-clause-answers : goal.returns-else-moved-clause-answers
returns-else-moved-clause-answers g c =
    let was : FabricState = record { machine = c.self.inside.machine; journal = c.self.inside.journal.items; book = c.self.inside.book.total } in
    let after = c.changes.ensures ∙ ap (λ (s : State). s.views.changes) c.views-2.ensures in
    let before = c.changes-changes.ensures ∙ ap (λ (s : State). s.views.changes) c.views.ensures in
    rw (← c.self.view_is, c.reserve.ensures.items)
    (answered_still c.changes_are_counted.ensures was c.args.event c.in_ok-outcome.outcome c.apply.new.self c.in_ok-outcome.ensures.answers (sym after ∙ c.if-moved.false ∙ before))

pub returns-then-moved-clause-answers : goal.returns-then-moved-clause-answers
returns-then-moved-clause-answers g c =
    let was : FabricState = record { machine = c.self.inside.machine; journal = c.self.inside.journal.items; book = c.self.inside.book.total } in
    let after = c.changes.ensures ∙ ap (λ (s : State). s.views.changes) c.views-2.ensures in
    let before = c.changes-changes.ensures ∙ ap (λ (s : State). s.views.changes) c.views.ensures in
    let is = moves was.machine c.args.event c.in_ok-outcome.outcome c.apply.new.self c.in_ok-outcome.ensures.answers (λ same. c.if-moved.true (after ∙ same ∙ sym before)) in
    rw (← c.self.view_is, c.push_reserved.ensures.items, c.reserve.ensures.items, c.add.ensures.book) (answered_moved was c.args.event c.in_ok-outcome.outcome c.apply.new.self is)

pub returns-then-moved-clause-left : goal.returns-then-moved-clause-left
returns-then-moved-clause-left g c = (invariant_of-self-then-moved g c).0

pub returns-then-moved-clause-ok : goal.returns-then-moved-clause-ok
returns-then-moved-clause-ok g c = search rules

pub returns-then-moved-clause-err : goal.returns-then-moved-clause-err
returns-then-moved-clause-err g c = tt

pub returns-then-moved-clause-share : goal.returns-then-moved-clause-share
returns-then-moved-clause-share g c = search rules

pub returns-then-moved-clause-stays : goal.returns-then-moved-clause-stays
returns-then-moved-clause-stays g c = search rules

pub returns-else-moved-clause-left : goal.returns-else-moved-clause-left
returns-else-moved-clause-left g c = (invariant_of-self-else-moved g c).0

pub returns-else-moved-clause-ok : goal.returns-else-moved-clause-ok
returns-else-moved-clause-ok g c = search rules

pub returns-else-moved-clause-err : goal.returns-else-moved-clause-err
returns-else-moved-clause-err g c = tt

pub returns-else-moved-clause-share : goal.returns-else-moved-clause-share
returns-else-moved-clause-share g c = search rules

pub returns-else-moved-clause-stays : goal.returns-else-moved-clause-stays
returns-else-moved-clause-stays g c = search rules

pub invariant_of-self : goal.invariant_of-self
invariant_of-self g c = search rules

pub returns-in_err-reserve-clause-answers : goal.returns-in_err-reserve-clause-answers
returns-in_err-reserve-clause-answers g c = search rules

pub returns-in_err-reserve-clause-ok : goal.returns-in_err-reserve-clause-ok
returns-in_err-reserve-clause-ok g c = search rules

pub returns-in_err-reserve-clause-err : goal.returns-in_err-reserve-clause-err
returns-in_err-reserve-clause-err g c = search rules

pub returns-in_err-reserve-clause-share : goal.returns-in_err-reserve-clause-share
returns-in_err-reserve-clause-share g c = search rules

pub returns-in_err-reserve-clause-stays : goal.returns-in_err-reserve-clause-stays
returns-in_err-reserve-clause-stays g c = search rules

pub returns-in_err-reserve-clause-found : goal.returns-in_err-reserve-clause-found
returns-in_err-reserve-clause-found g c = search rules

pub returns-in_err-reserve-clause-left : goal.returns-in_err-reserve-clause-left
returns-in_err-reserve-clause-left g c = search rules

pub invariant_of-self-in_err-outcome : goal.invariant_of-self-in_err-outcome
invariant_of-self-in_err-outcome g c = search rules

pub returns-in_err-outcome-clause-answers : goal.returns-in_err-outcome-clause-answers
returns-in_err-outcome-clause-answers g c = search rules

pub returns-in_err-outcome-clause-ok : goal.returns-in_err-outcome-clause-ok
returns-in_err-outcome-clause-ok g c = search rules

pub returns-in_err-outcome-clause-err : goal.returns-in_err-outcome-clause-err
returns-in_err-outcome-clause-err g c = search rules

pub returns-in_err-outcome-clause-share : goal.returns-in_err-outcome-clause-share
returns-in_err-outcome-clause-share g c = search rules

pub returns-in_err-outcome-clause-stays : goal.returns-in_err-outcome-clause-stays
returns-in_err-outcome-clause-stays g c = search rules

pub returns-in_err-outcome-clause-found : goal.returns-in_err-outcome-clause-found
returns-in_err-outcome-clause-found g c = search rules

pub returns-in_err-outcome-clause-left : goal.returns-in_err-outcome-clause-left
returns-in_err-outcome-clause-left g c = search rules

pub returns-then-moved-clause-found : goal.returns-then-moved-clause-found
returns-then-moved-clause-found g c = search rules

pub returns-else-moved-clause-found : goal.returns-else-moved-clause-found
returns-else-moved-clause-found g c = search rules
