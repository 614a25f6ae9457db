use Rattle.fence_audit.proofs.Told.{kept}
use Rattle.fence_audit.specs.Answers.{answer_of}
use Rattle.fence_audit.proofs.allowing.kept.Goals as goal

pub returns : goal.returns
returns g c =
    let q = c.args.question in
    kept q.world q.image.now q.config q.addresses.now q.window q.limit (answer_of c.args.standard) c.args.known c.in_ok-parts.parts c.audit_with.result c.is_whole.result
    c.requires.allowed c.requires.known c.in_ok-parts.ensures c.is_whole.ensures c.audit_with.ensures
