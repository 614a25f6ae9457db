use Rattle.std.proofs.Common.{◌∙◌, List, ap, subst, sym}
use Rattle.architecture_outcomes.specs.declared.outcome.Way.{Way}
use Rattle.architecture_outcomes.specs.declared.outcome.Way.TheVariants.{Machine}
use Rattle.fences_command.specs.Witnesses.{IsShownAt}
use Rattle.image_orderings.specs.Programs.{patches_without}
use Rattle.image_orderings.specs.declared.replacing.Patch.{Patch}
use Rattle.search_files.proofs.Files.{on_ok}
use Rattle.fences_command.proofs.needed_runs.Shelf.keep_way.Goals as goal

pub returns-in-Machine-clause-kept : goal.returns-in-Machine-clause-kept
returns-in-Machine-clause-kept g c =
    let shelf = c.args.self.now in
    let folder = shelf.folder in
    let left = g.F.Files.held c.keep_run.new.files in
    let at = λ (words : List Patch) (way : Way). IsShownAt left shelf.wanted folder.config folder.kib shelf.image.now shelf.file.now words folder.name.now c.args.number way in
    let made = c.deref-in-Machine.ensures.value ∙ (c.in-Ok.ensures.made ∙ ap (patches_without c.args.ordering) c.deref.ensures.value) in
    on_ok _ _ c.keep_run.result
    (λ kept. subst (at (patches_without c.args.ordering c.args.audit.now.own.items)) (sym c.in-Machine.is) (subst (λ (words : List Patch). at words (Machine c.in-Machine.script)) made kept))
    c.keep_run.ensures.kept
