use Rattle.std.proofs.Common.{All, subst, take}
use Rattle.std.proofs.lemmas.List.{take_all}
use Rattle.std.proofs.lemmas.List.Elements.{All-more, All-nil}
use Rattle.fence_audit.proofs.Told.{each_reverted_stays, grows_on, none_more}
use Rattle.fence_audit.specs.Adding.{IsReverted}
use Rattle.fence_audit.proofs.searches.Asking.ask_reverted.Goals as goal

pub loop-patch-init : goal.loop-patch-init
loop-patch-init g c = record { asked = All-nil (IsReverted c.args.searches.now.items c.args.patches.now); grown = none_more c.args.searches.now.items; searched = λ was. was }

pub loop-patch-preserved : goal.loop-patch-preserved
loop-patch-preserved g c =
    let was = c.loop-patch.invariant in
    let old = c.loop-patch.searches.items in
    let new = c.ask_with.new.searches.items in
    let own = c.args.own.now in
    let i = c.loop-patch.patch-index in
    record {
      asked = All-more (IsReverted new c.args.patches.now) own i _ c.loop-patch-test.true (each_reverted_stays old new c.args.patches.now (take i own) c.in_ok-ask_with.ensures.grown was.asked) c.in_ok-ask_with.ensures.asked;
      grown = grows_on c.args.searches.now.items old new was.grown c.in_ok-ask_with.ensures.grown;
      searched = λ first. c.in_ok-ask_with.ensures.searched (was.searched first);
    }

pub returns-clause-asked : goal.returns-clause-asked
returns-clause-asked g c =
    subst (All (IsReverted c.loop-patch.searches.items c.args.patches.now)) (take_all c.loop-patch.patch-index c.args.own.now c.loop-patch-test.false) c.loop-patch.invariant.asked
