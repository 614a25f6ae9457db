use Rattle.std.proofs.Common.{subst, sym}
use Rattle.fence_audit.proofs.Told.{fence_weighed, grows_on, ok_more}
use Rattle.fence_audit.specs.Searches.{ArePatchesOf}
use Rattle.fence_audit.proofs.searches.Asking.weigh.Goals as goal

pub ask-requires-clause-of_image : goal.ask-requires-clause-of_image
ask-requires-clause-of_image g c κs within =
    let question = c.args.self.now.question in
    subst (ArePatchesOf question) (sym c.deref.ensures.value) (c.in_ok-without.ensures.of_image question.image.now c.requires.of_image)

pub returns-in-Fence : goal.returns-in-Fence
returns-in-Fence g c =
    let r = c.weigh_fence.result in
    let old = c.args.searches.now.items in
    let mid = c.ask.new.searches.items in
    let new = c.weigh_fence.new.searches.items in
    record {
      weighed = ok_more _ _ r (λ all. fence_weighed c.args.self.now.question.image.now new c.args.own.now c.args.ordering c.word-fence.result c.in-Fence.is c.word-fence.ensures all) c.weigh_fence.ensures.weighed;
      grown = ok_more _ _ r (λ so. grows_on old mid new c.in_ok-answer.ensures.grown so) c.weigh_fence.ensures.grown;
      searched = ok_more _ _ r (λ so first. so (c.in_ok-answer.ensures.searched first)) c.weigh_fence.ensures.searched;
    }
