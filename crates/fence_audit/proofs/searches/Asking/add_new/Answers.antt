use Rattle.std.proofs.Common.{subst, sym}
use Rattle.std.proofs.lemmas.List.Elements.{All-push}
use Rattle.std.specs.Global.{Vec}
use Rattle.fence_audit.specs.Searches.{ArePatchesOf}
use Rattle.fence_audit.specs.SideBySide.{ArePrograms}
use Rattle.image_orderings.specs.declared.replacing.Patch.{Patch}
use Rattle.fence_audit.proofs.searches.Asking.add_new.Goals as goal

pub returns : goal.returns
returns c =
    let question = c.args.self.now.question in
    subst (ArePrograms question) (sym c.in_ok-push.ensures.items) (All-push (λ (p : Vec Patch). ArePatchesOf question p.items) c.args.programs.now.items c.args.program c.requires.programs c.requires.of_image)
