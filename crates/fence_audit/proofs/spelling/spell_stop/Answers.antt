use Rattle.exploration_text.proofs.Joined.{joined}
use Rattle.fence_audit.proofs.spelling.spell_stop.Goals as goal

pub returns : goal.returns
returns c = joined _ _ _ _ _ _ _ c.in_ok-spell_text.ensures c.in_ok-spell_stopped.ensures c.in_ok-spell_text-2.ensures
