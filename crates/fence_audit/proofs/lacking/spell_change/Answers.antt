use Rattle.std.proofs.Common.{◌∙◌, ◌++◌, ap}
use Rattle.exploration_text.proofs.Joined.{joined}
use Rattle.fence_audit.specs.Lacking.{new_text}
use Rattle.fence_audit.proofs.lacking.spell_change.Goals as goal

pub returns : goal.returns
returns c =
    joined _ _ _ _ _ _ _ c.in_ok-spell_missing.ensures c.in_ok-spell_place.ensures (c.in_ok-spell_new.ensures ∙ ap (λ w. c.spell_place.new.into.items ++ new_text w) c.word_in.ensures.word)
