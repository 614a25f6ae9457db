use Rattle.std.proofs.Common.{◌++◌, ◌∙◌, ap, sym}
use Rattle.exploration_text.proofs.Joined.{joined}
use Rattle.exploration_text.specs.Text.{last_line}
use Rattle.state_search.specs.declared.findings.Extent.{Extent}
use Rattle.exploration_text.proofs.spelling.spell_extent.Goals as goal

pub returns-in_ok-extend_from_slice-in-LimitMet-2 : goal.returns-in_ok-extend_from_slice-in-LimitMet-2
returns-in_ok-extend_from_slice-in-LimitMet-2 c =
    joined _ _ _ _ _ _ _ c.in_ok-extend_from_slice-in-LimitMet.ensures.items c.in_ok-spell_number-in-LimitMet.ensures c.in_ok-extend_from_slice-in-LimitMet-2.ensures.items
    ∙ ap (λ (e : Extent). c.args.into.now.items ++ last_line e c.args.outcomes c.args.failures c.args.states) (sym c.in-LimitMet.is)

pub returns-in_ok-extend_from_slice-in-OutOfMemory : goal.returns-in_ok-extend_from_slice-in-OutOfMemory
returns-in_ok-extend_from_slice-in-OutOfMemory c =
    c.in_ok-extend_from_slice-in-OutOfMemory.ensures.items ∙ ap (λ (e : Extent). c.args.into.now.items ++ last_line e c.args.outcomes c.args.failures c.args.states) (sym c.in-OutOfMemory.is)

pub returns-in_ok-extend_from_slice-in-Ended : goal.returns-in_ok-extend_from_slice-in-Ended
returns-in_ok-extend_from_slice-in-Ended c =
    joined _ _ _ _ _ _ _ c.in_ok-spell_ending-in-Ended.ensures c.in_ok-spell_number-in-Ended.ensures c.in_ok-extend_from_slice-in-Ended.ensures.items
    ∙ ap (λ (e : Extent). c.args.into.now.items ++ last_line e c.args.outcomes c.args.failures c.args.states) (sym c.in-Ended.is)
