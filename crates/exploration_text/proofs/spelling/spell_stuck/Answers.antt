use Rattle.std.proofs.Common.{◌++◌, ◌∙◌, ap, sym, Option}
use Rattle.exploration_text.proofs.Joined.{joined}
use Rattle.exploration_text.specs.Text.{stuck_line}
use Rattle.explorer.specs.declared.exploration.Stuck.{Stuck}
use Rattle.exploration_text.proofs.spelling.spell_stuck.Goals as goal

pub returns-in_ok-extend_from_slice-2 : goal.returns-in_ok-extend_from_slice-2
returns-in_ok-extend_from_slice-2 c =
    joined _ _ _ _ _ _ _ c.in_ok-extend_from_slice.ensures.items c.in_ok-spell_number.ensures c.in_ok-extend_from_slice-2.ensures.items
    ∙ ap (λ (o : Option Stuck). c.args.into.now.items ++ stuck_line o) (sym c.in-Some.is)
