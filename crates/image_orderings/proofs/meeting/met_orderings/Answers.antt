use Rattle.std.proofs.Common.{◌∙◌, All, ap, filter, subst, sym}
use Rattle.std.proofs.lemmas.List.Elements.{All-filter}
use Rattle.std.proofs.lemmas.Result.{IfOk-weaker}
use Rattle.elf_loader.specs.Image.{HasWord}
use Rattle.image_orderings.proofs.Parting.{each_met_or_never}
use Rattle.image_orderings.specs.Flow.{comes_by}
use Rattle.image_orderings.specs.declared.orderings.ImageOrdering.{ImageOrdering}
use Rattle.image_orderings.proofs.meeting.met_orderings.Goals as goal

pub returns-clause-met : goal.returns-clause-met
returns-clause-met c =
    IfOk-weaker c.orderings_by.result _ _ (λ met e. e ∙ ap (λ table. filter (λ (o : ImageOrdering). comes_by table o.address) c.args.orderings.now) c.in_ok-flow.ensures) c.orderings_by.ensures

pub returns-clause-inside : goal.returns-clause-inside
returns-clause-inside c =
    let image = c.args.image.now in
    let P = λ (o : ImageOrdering). HasWord image o.address in
    IfOk-weaker c.orderings_by.result _ _
    (λ met e. subst (All P) (sym e) (All-filter (λ (o : ImageOrdering). comes_by c.in_ok-flow.flow.table.items o.address) P c.args.orderings.now c.requires.inside)) c.orderings_by.ensures

pub returns-clause-never : goal.returns-clause-never
returns-clause-never c = each_met_or_never c.none_comes.ensures c.args.image.now (λ (o : ImageOrdering). o.address) c.args.orderings.now c.requires.inside

pub returns-in_err-flow-clause-never : goal.returns-in_err-flow-clause-never
returns-in_err-flow-clause-never c = each_met_or_never c.none_comes.ensures c.args.image.now (λ (o : ImageOrdering). o.address) c.args.orderings.now c.requires.inside
