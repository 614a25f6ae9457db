use Rattle.std.proofs.Common.{◌∙◌}
use Rattle.order_text.proofs.Told.{operation_told}
use Rattle.order_text.proofs.telling.push_operation.Goals as goal

pub returns : goal.returns
returns c =
    rw (c.in_ok-push_overtaking.ensures, c.in_ok-push_neighbour.ensures, c.in_ok-push_links-3.ensures, c.in_ok-push_links-2.ensures, c.in_ok-push_links.ensures, c.in_ok-push.ensures.items, c.requires, c.items_of.ensures.list)
    (operation_told _ _ _ _ _ _ _)
