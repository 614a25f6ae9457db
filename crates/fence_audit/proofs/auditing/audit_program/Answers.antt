use Rattle.fence_audit.proofs.Told.{audited_as}
use Rattle.fence_audit.proofs.auditing.audit_program.Goals as goal

pub returns : goal.returns
returns g c =
    let q = c.args.question in
    audited_as q.world q.image.now q.config q.addresses.now q.window q.limit c.in_ok-known.known c.in_ok-parts.parts c.audit_with.result c.is_whole.result
    c.in_ok-known.ensures c.in_ok-parts.ensures c.is_whole.ensures c.audit_with.ensures
