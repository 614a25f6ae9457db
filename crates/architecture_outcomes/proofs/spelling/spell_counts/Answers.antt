use Rattle.architecture_outcomes.proofs.Pieces.{five}
use Rattle.architecture_outcomes.proofs.spelling.spell_counts.Goals as goal

pub returns : goal.returns
returns c = five _ _ _ _ _ _ _ _ _ _ _ c.in_ok-spell_number.ensures c.in_ok-extend_from_slice.ensures.items c.in_ok-spell_failure_count.ensures c.in_ok-spell_number-2.ensures c.in_ok-extend_from_slice-2.ensures.items
