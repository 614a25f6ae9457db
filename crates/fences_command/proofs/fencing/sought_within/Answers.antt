use Rattle.fences_command.proofs.Told.{of_allowed}
use Rattle.fences_command.proofs.fencing.sought_within.Goals as goal

pub returns : goal.returns
returns g c =
    let q = c.args.question in
    of_allowed q.world q.image.now q.config q.addresses.now q.window q.limit c.args.names.now _ _ c.audit_allowed.result c.in_ok-allowed.ensures c.audit_allowed.ensures
