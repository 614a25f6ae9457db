use Rattle.std.proofs.Common.{◌≡◌, ◌++◌, ℕ, [], List, Some, ap, map, sym, subst}
use Rattle.std.proofs.lemmas.List.Elements.{All-nil, All-push}
use Rattle.command_files.proofs.Left.{handed_up}
use Rattle.search_files.proofs.Words.{first_is, first_unshown, none_shown, one_placed, one_shown}
use Rattle.search_files.specs.Targets.{name_of, place_of}
use Rattle.performed_words.specs.Words.{CanShow, CanShowEach}
use Rattle.search_files.proofs.targets.places_of.Goals as goal

pub loop-rest-init : goal.loop-rest-init
loop-rest-init c =
    let none : c.new-addresses.result.items ≡ [] = c.new-addresses.ensures.items in
    record {
      placed = ap (λ (xs : List ℕ). map Some xs ++ map (λ word. place_of c.args.symbols.now (name_of word)) c.args.words.now) none;
      inside = subst (CanShowEach c.args.image.now) (sym none) (All-nil (CanShow c.args.image.now));
      shown = none_shown c.args.image.now c.args.symbols.now c.args.words.now;
    }

pub loop-rest-preserved : goal.loop-rest-preserved
loop-rest-preserved c =
    let image = c.args.image.now in
    let symbols = c.args.symbols.now in
    let words = c.args.words.now in
    let rest = c.loop-rest.rest.now in
    let old = c.loop-rest.addresses.items in
    let place = c.in_ok-address.address in
    let was = c.loop-rest.invariant in
    let first = first_is rest _ c.in-len1-up.len_at_least in
    record {
      placed = one_placed symbols words rest _ _ old c.push.new.self.items place first c.in-Ok.ensures.items c.in_ok-address.ensures.placed was.placed;
      inside = subst (CanShowEach image) (sym c.in-Ok.ensures.items) (All-push (CanShow image) old place was.inside c.in_ok-address.ensures.inside);
      shown = one_shown image symbols words rest _ _ place first c.in_ok-address.ensures.placed c.in_ok-address.ensures.inside was.shown;
    }

pub returns-in_err-address-clause-told : goal.returns-in_err-address-clause-told
returns-in_err-address-clause-told c =
    let rest = c.loop-rest.rest.now in
    handed_up _ c.from_residual.result _ c.from_residual.ensures.1
    (first_unshown c.args.image.now c.args.symbols.now c.args.words.now rest _ _ _ (first_is rest _ c.in-len1-up.len_at_least) c.loop-rest.invariant.shown c.in_err-address.ensures.told)
