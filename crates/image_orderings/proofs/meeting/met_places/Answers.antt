use Rattle.std.proofs.Common.{◌∙◌, All, ap, filter, subst, sym}
use Rattle.std.proofs.lemmas.List.Elements.{All-filter, All-weaker}
use Rattle.std.proofs.lemmas.Result.{IfOk-weaker}
use Rattle.elf_loader.specs.Image.{HasWord}
use Rattle.image_orderings.proofs.Parting.{each_met_or_never}
use Rattle.image_orderings.specs.Flow.{comes_by}
use Rattle.image_orderings.specs.Replaced.{IsPatchOf}
use Rattle.image_orderings.specs.declared.replacing.Patch.{Patch}
use Rattle.image_orderings.proofs.meeting.met_places.Goals as goal

pub returns-clause-met : goal.returns-clause-met
returns-clause-met c =
    IfOk-weaker c.places_by.result _ _ (λ met e. e ∙ ap (λ table. filter (λ (p : Patch). comes_by table p.address) c.args.places.now) c.in_ok-flow.ensures) c.places_by.ensures

pub returns-clause-of_image : goal.returns-clause-of_image
returns-clause-of_image c =
    let P = IsPatchOf c.args.image.now in
    IfOk-weaker c.places_by.result _ _
    (λ met e. subst (All P) (sym e) (All-filter (λ (p : Patch). comes_by c.in_ok-flow.flow.table.items p.address) P c.args.places.now c.requires.of_image)) c.places_by.ensures

pub returns-clause-never : goal.returns-clause-never
returns-clause-never c =
    let image = c.args.image.now in
    each_met_or_never c.none_comes.ensures image (λ (p : Patch). p.address) c.args.places.now
    (All-weaker (IsPatchOf image) (λ (p : Patch). HasWord image p.address) (λ p is. is.place) c.args.places.now c.requires.of_image)

pub returns-in_err-flow-clause-never : goal.returns-in_err-flow-clause-never
returns-in_err-flow-clause-never c =
    let image = c.args.image.now in
    each_met_or_never c.none_comes.ensures image (λ (p : Patch). p.address) c.args.places.now
    (All-weaker (IsPatchOf image) (λ (p : Patch). HasWord image p.address) (λ p is. is.place) c.args.places.now c.requires.of_image)
