use Rattle.std.proofs.Common.{All, subst, take}
use Rattle.std.proofs.lemmas.List.{take_all}
use Rattle.std.proofs.lemmas.List.Elements.{All-more, All-nil}
use Rattle.fence_audit.proofs.Told.{each_asked_stays, grows_on, none_more}
use Rattle.fence_audit.specs.Auditing.{IsLeftOut}
use Rattle.fence_audit.proofs.searches.Asking.ask_each.Goals as goal

pub loop-ordering-init : goal.loop-ordering-init
loop-ordering-init g c = record { asked = All-nil (IsLeftOut c.args.searches.now.items c.args.patches.now); grown = none_more c.args.searches.now.items; searched = λ was. was }

pub loop-ordering-preserved : goal.loop-ordering-preserved
loop-ordering-preserved g c =
    let was = c.loop-ordering.invariant in
    let old = c.loop-ordering.searches.items in
    let new = c.ask_without.new.searches.items in
    let orderings = c.args.orderings.now in
    let i = c.loop-ordering.ordering-index in
    record {
      asked = All-more (IsLeftOut new c.args.patches.now) orderings i _ c.loop-ordering-test.true (each_asked_stays old new c.args.patches.now (take i orderings) c.in_ok-ask_without.ensures.grown was.asked) c.in_ok-ask_without.ensures.asked;
      grown = grows_on c.args.searches.now.items old new was.grown c.in_ok-ask_without.ensures.grown;
      searched = λ first. c.in_ok-ask_without.ensures.searched (was.searched first);
    }

pub returns-clause-asked : goal.returns-clause-asked
returns-clause-asked g c =
    subst (All (IsLeftOut c.loop-ordering.searches.items c.args.patches.now)) (take_all c.loop-ordering.ordering-index c.args.orderings.now c.loop-ordering-test.false) c.loop-ordering.invariant.asked
