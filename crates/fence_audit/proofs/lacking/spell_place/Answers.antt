use Rattle.exploration_text.proofs.Joined.{joined_more}
use Rattle.fence_audit.proofs.lacking.spell_place.Goals as goal

pub returns : goal.returns
returns c = joined_more _ _ _ _ _ _ _ _ _ c.in_ok-spell_address.ensures c.in_ok-spell_text.ensures c.in_ok-spell_symbol.ensures c.in_ok-spell_own.ensures
