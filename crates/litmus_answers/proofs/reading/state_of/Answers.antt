use Rattle.std.proofs.Common.{◌≡◌, ◌∙◌, ◌++◌, ◌<◌, ℕ, List, ap, arith, length}
use Rattle.litmus_answers.specs.Logs.{item_in}
use Rattle.litmus_answers.specs.Naming.{plain}
use Rattle.litmus_answers.proofs.Logs.{items_next}
use Rattle.litmus_answers.proofs.reading.state_of.Goals as goal

pub loop-rest-preserved : goal.loop-rest-preserved
loop-rest-preserved c =
    let old = plain c.loop-rest.items.items in
    let some : 0 < length c.loop-rest.rest.now = grind arith in
    items_next old (plain c.add_item.new.items.items) _ c.loop-rest.rest.now c.split_behind.result.0.now c.split_behind.result.1.now some c.split_behind.ensures.front c.split_behind.ensures.behind
    (c.in_ok-add_item.ensures ∙ ap (λ (l : List ℕ). old ++ item_in l) c.skip_blanks.ensures)
    c.loop-rest.invariant
