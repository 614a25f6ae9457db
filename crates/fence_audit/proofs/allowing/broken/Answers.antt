use Rattle.fence_audit.proofs.Told.{broken}
use Rattle.fence_audit.specs.Answers.{answer_of}
use Rattle.fence_audit.proofs.allowing.broken.Goals as goal

pub returns : goal.returns
returns g c =
    let q = c.args.question in
    broken q.world q.image.now q.config q.addresses.now q.window q.limit (answer_of c.args.standard) c.args.known c.args.place c.in_ok-missing.missing
    c.requires.refused c.requires.known c.in_ok-missing.ensures
