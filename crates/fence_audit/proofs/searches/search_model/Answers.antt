use Rattle.fence_audit.proofs.Found.{searched}
use Rattle.fence_audit.proofs.searches.search_model.Goals as goal

pub returns : goal.returns
returns g c =
    let is = c.explore_architecture.ensures in
    searched c.args.image.now c.args.config c.args.addresses.now c.args.window c.args.exploring.limit
    c.explore_architecture.result is.shown is.machine is.alone is.allowed is.failing is.stopped is.bounded is.order is.model is.window
