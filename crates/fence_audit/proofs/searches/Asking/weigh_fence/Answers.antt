use Rattle.std.proofs.Common.{◌∙◌, All, subst, take}
use Rattle.std.proofs.lemmas.List.{take_all}
use Rattle.std.proofs.lemmas.List.Elements.{All-more}
use Rattle.fence_audit.proofs.Told.{each_weighed_stays, grows_on}
use Rattle.fence_audit.specs.Auditing.{IsWeighed}
use Rattle.fence_audit.proofs.searches.Asking.weigh_fence.Goals as goal

pub loop-form-preserved : goal.loop-form-preserved
loop-form-preserved g c =
    let was = c.loop-form.invariant in
    let made = c.in_ok-weigh_form.ensures in
    let old = c.loop-form.searches.items in
    let new = c.weigh_form.new.searches.items in
    let forms = c.as_slice-form-items.result.now in
    let i = c.loop-form.form-index in
    record {
      weighed = All-more (IsWeighed new c.args.own.now c.args.address) forms i _ c.loop-form-test.true (each_weighed_stays old new c.args.own.now c.args.address (take i forms) made.grown was.weighed) made.weighed;
      same = made.same;
      grown = grows_on c.args.searches.now.items old new was.grown made.grown;
      searched = λ first. made.searched (was.searched first);
    }

pub returns-clause-weighed : goal.returns-clause-weighed
returns-clause-weighed g c =
    subst (All (IsWeighed c.loop-form.searches.items c.args.own.now c.args.address))
    (take_all c.loop-form.form-index c.as_slice-form-items.result.now c.loop-form-test.false ∙ (c.as_slice-form-items.ensures.value ∙ c.in_ok-words.ensures.words)) c.loop-form.invariant.weighed
