use Rattle.std.proofs.Common.{◌≡◌, ◌∙◌, All, List, Some, ap, inl, inr, subst, sym, true}
use Rattle.std.proofs.lemmas.List.Elements.{All-push}
use Rattle.std.specs.List.{list_any}
use Rattle.fence_audit.proofs.Told.{answered, below_enough, each_same_stays}
use Rattle.fence_audit.specs.Auditing.{IsSame, is_below}
use Rattle.fence_audit.specs.Searches.{answer_in}
use Rattle.image_orderings.specs.Programs.{patches_with}
use Rattle.image_orderings.specs.declared.replacing.Patch.{Patch}
use Rattle.fence_audit.proofs.searches.Asking.weigh_form.Goals as goal

pub returns-then-has_weaker-clause-weighed : goal.returns-then-has_weaker-clause-weighed
returns-then-has_weaker-clause-weighed g c =
    let below : list_any (is_below c.args.form) c.args.enough.now.items ≡ true = cc in
    inr (below_enough c.args.searches.now.items c.args.own.now c.args.address c.args.form c.args.enough.now.items c.requires.same below)

pub returns-in-Same-clause-same : goal.returns-in-Same-clause-same
returns-in-Same-clause-same g c =
    let old = c.args.searches.now.items in
    let new = c.ask.new.searches.items in
    let answer = c.in_ok-ask.field-0 in
    let tried : c.deref-2.result.now ≡ patches_with c.args.address c.args.form c.args.own.now = c.deref-2.ensures.value ∙ c.in_ok-tried.ensures.made in
    let asked : answer_in new (patches_with c.args.address c.args.form c.args.own.now) ≡ Some answer = subst (λ (patches : List Patch). answer_in new patches ≡ Some answer) tried c.in_ok-ask.ensures.asked in
    subst (All (IsSame new c.args.own.now c.args.address)) (sym c.in_ok-push-in-Same.ensures.items)
    (All-push (IsSame new c.args.own.now c.args.address) c.args.enough.now.items c.args.form (each_same_stays old new c.args.own.now c.args.address c.args.enough.now.items c.in_ok-ask.ensures.grown c.requires.same) (asked ∙ ap Some c.in-Same.is))

pub returns : goal.returns
returns g c =
    let old = c.args.searches.now.items in
    let new = c.ask.new.searches.items in
    let answer = c.in_ok-ask.field-0 in
    let tried : c.deref-2.result.now ≡ patches_with c.args.address c.args.form c.args.own.now = c.deref-2.ensures.value ∙ c.in_ok-tried.ensures.made in
    let asked : answer_in new (patches_with c.args.address c.args.form c.args.own.now) ≡ Some answer = subst (λ (patches : List Patch). answer_in new patches ≡ Some answer) tried c.in_ok-ask.ensures.asked in
    record {
      weighed = inl (answered new (patches_with c.args.address c.args.form c.args.own.now) answer asked);
      same = each_same_stays old new c.args.own.now c.args.address c.args.enough.now.items c.in_ok-ask.ensures.grown c.requires.same;
      grown = c.in_ok-ask.ensures.grown;
      searched = c.in_ok-ask.ensures.searched;
    }
