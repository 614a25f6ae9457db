use Rattle.std.proofs.Common.{subst, sym}
use Rattle.std.proofs.lemmas.List.Elements.{All-nil}
use Rattle.fence_audit.proofs.Told.{grows_on, reduction}
use Rattle.fence_audit.specs.Searches.{AreSearched, IsSearchedBy}
use Rattle.fence_audit.proofs.searches.Asking.reduction.Goals as goal

pub returns : goal.returns
returns g c =
    let asking = c.args.self.now in
    let none : AreSearched asking c.new-searches.result.items = subst (AreSearched asking) (sym c.new-searches.ensures.items) (All-nil (IsSearchedBy asking)) in
    reduction asking c.args.orderings.now c.args.own.now c.in_ok-last.last.items _ _ _ _ _
    c.in_ok-ask_each.ensures.asked (grows_on c.ask_each.new.searches.items c.prepare_forms.new.searches.items c.weigh_each.new.searches.items c.in_ok-prepare_forms.ensures.grown c.in_ok-weigh_each.ensures.grown)
    c.in_ok-weigh_each.ensures.weighed c.in_ok-last.ensures.grown c.in_ok-last.ensures.enough
    (grows_on c.reduced.new.searches.items c.prepare-2.new.searches.items c.ask_each-2.new.searches.items c.in_ok-prepare-2.ensures.grown c.in_ok-ask_each-2.ensures.grown)
    c.deref-2.ensures.value c.in_ok-ask_each-2.ensures.asked
    (c.in_ok-ask_each-2.ensures.searched (c.in_ok-prepare-2.ensures.searched (c.in_ok-last.ensures.searched (c.in_ok-weigh_each.ensures.searched (c.in_ok-prepare_forms.ensures.searched (c.in_ok-ask_each.ensures.searched (c.in_ok-prepare.ensures.searched none)))))))
