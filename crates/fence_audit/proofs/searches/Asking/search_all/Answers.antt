use Rattle.std.proofs.Common.{subst, sym}
use Rattle.std.proofs.lemmas.List.Elements.{All-drop}
use Rattle.std.specs.Global.{Vec}
use Rattle.fence_audit.proofs.Told.{grows_on, none_more}
use Rattle.fence_audit.specs.Searches.{ArePatchesOf}
use Rattle.fence_audit.specs.SideBySide.{ArePrograms}
use Rattle.image_orderings.specs.declared.replacing.Patch.{Patch}
use Rattle.fence_audit.proofs.searches.Asking.search_all.Goals as goal

pub loop-rest-init : goal.loop-rest-init
loop-rest-init g c = record { of_image = c.requires.of_image; grown = none_more c.args.searches.now.items; searched = λ was. was }

pub loop-rest-preserved : goal.loop-rest-preserved
loop-rest-preserved g c =
    let question = c.args.self.now.question in
    let was = c.loop-rest.invariant in
    let old = c.loop-rest.searches.items in
    let new = c.search_batch.new.searches.items in
    record {
      of_image = subst (ArePrograms question) (sym c.split_at.ensures.back) (All-drop (λ (p : Vec Patch). ArePatchesOf question p.items) _ c.loop-rest.rest.now was.of_image);
      grown = grows_on c.args.searches.now.items old new was.grown c.in_ok-search_batch.ensures.grown;
      searched = λ first. c.in_ok-search_batch.ensures.searched (was.searched first);
    }
