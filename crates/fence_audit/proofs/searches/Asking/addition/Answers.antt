use Rattle.std.proofs.Common.{◌≡◌, ◌∙◌, Some, ap, rules, subst, sym}
use Rattle.std.proofs.lemmas.List.Elements.{All-nil}
use Rattle.fence_audit.proofs.Told.{addition, not_added, same_of}
use Rattle.fence_audit.specs.Searches.{AreSearched, IsSearchedBy}
use Rattle.fence_audit.proofs.searches.Asking.addition.Goals as goal

pub returns-then-not-is_enough : goal.returns-then-not-is_enough
returns-then-not-is_enough g c =
    let asking = c.args.self.now in
    let none : AreSearched asking c.new-searches.result.items = subst (AreSearched asking) (sym c.new-searches.ensures.items) (All-nil (IsSearchedBy asking)) in
    let same : c.in_ok-last.last.items ≡ c.args.most.now = search rules in
    not_added asking c.args.own.now c.args.most.now c.in_ok-last.last.items c.ask_for.new.searches.items c.in_ok-answer.answer c.is_enough.result c.in_ok-answer.ensures.asked c.is_enough.ensures
    c.if-not-is_enough.true same (c.in_ok-answer.ensures.searched none)

pub returns : goal.returns
returns g c =
    let asking = c.args.self.now in
    let none : AreSearched asking c.new-searches.result.items = subst (AreSearched asking) (sym c.new-searches.ensures.items) (All-nil (IsSearchedBy asking)) in
    addition asking c.args.own.now c.args.most.now c.in_ok-last-2.last.items c.ask_for.new.searches.items c.trimmed.new.searches.items
    (c.in_ok-answer.ensures.asked ∙ ap Some (same_of c.in_ok-answer.answer c.is_enough.result c.is_enough.ensures c.if-not-is_enough.false))
    c.in_ok-last-2.ensures.grown c.in_ok-last-2.ensures.enough c.in_ok-last-2.ensures.each (c.in_ok-last-2.ensures.searched (c.in_ok-answer.ensures.searched none))
