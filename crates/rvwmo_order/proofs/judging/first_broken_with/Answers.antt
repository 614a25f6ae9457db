use Rattle.std.proofs.Common.{◌∙◌, List, None, Some, ap, cond, refl, subst, sym}
use Rattle.std.specs.Prelude.{option_and_then, option_copied}
use Rattle.memory_model.specs.declared.operation.Operation.{Operation}
use Rattle.memory_model.specs.Items.{Item}
use Rattle.memory_model.specs.Rules.{paired}
use Rattle.rvwmo_order.specs.Bounds.{IsGiven}
use Rattle.rvwmo_order.specs.Scans.{is_broken_pair}
use Rattle.rvwmo_order.proofs.Bytes.{is_in}
use Rattle.rvwmo_order.proofs.Behind.{no_pair_without_sc}
use Rattle.rvwmo_order.proofs.Pairs.{found_there, named_at}
use Rattle.rvwmo_order.proofs.judging.first_broken_with.Goals as goal

pub returns-then-not-is_sc : goal.returns-then-not-is_sc
returns-then-not-is_sc c = no_pair_without_sc c.args.harts.now c.args.ranking.now c.args.w.now (sym c.is_sc.ensures ∙ c.if-not-is_sc.true)

pub broken_with-requires : goal.broken_with-requires
broken_with-requires c = is_in c.args.ranking.now _ _ c.requires.distinct (sym (c.named.ensures (named_at c.args.w.now c.pair_place-place.result) refl) ∙ ap option_copied c.in-Some.is)

pub returns-in-Some : goal.returns-in-Some
returns-in-Some c =
    let w = c.args.w.now in
    let place = c.pair_place-place.result in
    let list = c.items_of.ensures.list in
    let order = c.args.ranking.now in
    let there = found_there c.args.harts.now order w place (λ r given pairs. c.pair_place-place.ensures r (subst (λ (is : List Item). IsGiven is r) (sym list) given) (ap (λ (is : List Item). paired is r w) list ∙ pairs)) order c.requires.gives c.requires.distinct in
    let known = sym (c.named.ensures (named_at w place) refl) ∙ ap option_copied c.in-Some.is in
    c.broken_with.ensures ∙ sym (there ∙ ap (option_and_then (λ (r : Operation). cond (is_broken_pair c.args.harts.now order r w) (Some r) None)) known)

pub returns-in-None : goal.returns-in-None
returns-in-None c =
    let w = c.args.w.now in
    let place = c.pair_place-place.result in
    let list = c.items_of.ensures.list in
    let order = c.args.ranking.now in
    let there = found_there c.args.harts.now order w place (λ r given pairs. c.pair_place-place.ensures r (subst (λ (is : List Item). IsGiven is r) (sym list) given) (ap (λ (is : List Item). paired is r w) list ∙ pairs)) order c.requires.gives c.requires.distinct in
    let known = sym (c.named.ensures (named_at w place) refl) ∙ ap option_copied c.in-None.is in
    sym (there ∙ ap (option_and_then (λ (r : Operation). cond (is_broken_pair c.args.harts.now order r w) (Some r) None)) known)
