use Rattle.std.proofs.Common.{◌+◌, arith}
use Rattle.order_text.specs.Links.{byte_line}
use Rattle.order_text.proofs.Told.{bytes_next, more_told}
use Rattle.order_text.proofs.links.push_bytes.Goals as goal

pub loop-x-preserved : goal.loop-x-preserved
loop-x-preserved c =
    let end = c.end_of-x-end.ensures in
    more_told c.loop-x.lines.items _ _ _ _ _ (rw (c.name_of.ensures, c.name_linked-other.ensures) at c.in_ok-push_link.ensures)
    (bytes_next (byte_line c.args.relations.now c.args.link c.args.a.now) c.loop-x.x (c.args.a.now.address + c.args.a.now.size) (omega (arith, end)))
    c.loop-x.invariant
