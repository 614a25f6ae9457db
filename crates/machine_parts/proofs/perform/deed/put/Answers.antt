use Rattle.machine_parts.specs.Parts.{standing_of}
use Rattle.machine_parts.proofs.Nodes.{lists_kept}
use Rattle.machine_parts.proofs.perform.deed.put.Goals as goal

pub returns-in_err-put_store-clause-kept : goal.returns-in_err-put_store-clause-kept
returns-in_err-put_store-clause-kept c = lists_kept c.args.hart _ (standing_of c.parts.inside) c.args.parts.now c.parts.view_is

pub returns-clause-kept : goal.returns-clause-kept
returns-clause-kept c = lists_kept c.args.hart _ (standing_of c.parts.inside) c.args.parts.now c.parts.view_is
