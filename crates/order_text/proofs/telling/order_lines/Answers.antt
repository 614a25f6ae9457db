use Rattle.std.proofs.Common.{◌≡◌, arith, length}
use Rattle.order_text.proofs.Whole.{told_whole}
use Rattle.order_text.proofs.telling.order_lines.Goals as goal

pub returns-clause-lines : goal.returns-clause-lines
returns-clause-lines c =
    let order = c.in_ok-order.order in
    let len : c.len.result ≡ order.len = c.len.ensures in
    let many : c.len.result ≡ length order.items = omega (arith, len, order.ok.0) in
    told_whole c.args.model c.args.trace.now.history order.items c.in_ok-verdict.verdict c.new-lines.result.items c.push_head.new.lines.items c.push_body.new.lines.items c.len.result
    c.in_ok-order.ensures (rw c.as_slice.ensures.value at c.in_ok-verdict.ensures.first)
    many c.new-lines.ensures.items c.in_ok-push_head.ensures (rw c.as_slice-2.ensures.value at c.in_ok-push_body.ensures)
