use Rattle.std.proofs.Common.{◌≡◌, None, rules, subst, sym}
use Rattle.std.proofs.lemmas.List.Elements.{All-push}
use Rattle.fence_audit.proofs.Told.{first_asked}
use Rattle.fence_audit.specs.Searches.{AreSearched, IsSearchedBy, search_in}
use Rattle.fence_audit.proofs.searches.Asking.ask_for.Goals as goal

pub returns-clause-asked : goal.returns-clause-asked
returns-clause-asked g c =
    let none : None ≡ search_in c.args.searches.now.items c.args.patches.now = search rules in
    first_asked c.args.searches.now.items _ c.in_ok-search.search c.args.patches.now none c.in_ok-search.ensures.patches c.in_ok-push.ensures.items

pub returns-clause-searched : goal.returns-clause-searched
returns-clause-searched g c = λ was.
    subst (AreSearched c.args.self.now) (sym c.in_ok-push.ensures.items) (All-push (IsSearchedBy c.args.self.now) c.args.searches.now.items c.in_ok-search.search was c.in_ok-search.ensures.searched)
