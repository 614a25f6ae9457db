use Rattle.std.proofs.Common.{All, subst, take}
use Rattle.std.proofs.lemmas.List.{take_all}
use Rattle.std.proofs.lemmas.List.Elements.{All-more, All-nil}
use Rattle.fence_audit.proofs.Told.{each_are_weighed_stay, grows_on, none_more}
use Rattle.fence_audit.specs.Auditing.{AreWeighed}
use Rattle.fence_audit.proofs.searches.Asking.weigh_each.Goals as goal

pub loop-ordering-init : goal.loop-ordering-init
loop-ordering-init g c = record { weighed = All-nil (AreWeighed c.args.self.now.question.image.now c.args.searches.now.items c.args.own.now); grown = none_more c.args.searches.now.items; searched = λ was. was }

pub loop-ordering-preserved : goal.loop-ordering-preserved
loop-ordering-preserved g c =
    let was = c.loop-ordering.invariant in
    let image = c.args.self.now.question.image.now in
    let old = c.loop-ordering.searches.items in
    let new = c.weigh.new.searches.items in
    let orderings = c.args.orderings.now in
    let i = c.loop-ordering.ordering-index in
    record {
      weighed = All-more (AreWeighed image new c.args.own.now) orderings i _ c.loop-ordering-test.true (each_are_weighed_stay image old new c.args.own.now (take i orderings) c.in_ok-weigh.ensures.grown was.weighed) c.in_ok-weigh.ensures.weighed;
      grown = grows_on c.args.searches.now.items old new was.grown c.in_ok-weigh.ensures.grown;
      searched = λ first. c.in_ok-weigh.ensures.searched (was.searched first);
    }

pub returns-clause-weighed : goal.returns-clause-weighed
returns-clause-weighed g c =
    subst (All (AreWeighed c.args.self.now.question.image.now c.loop-ordering.searches.items c.args.own.now)) (take_all c.loop-ordering.ordering-index c.args.orderings.now c.loop-ordering-test.false) c.loop-ordering.invariant.weighed
