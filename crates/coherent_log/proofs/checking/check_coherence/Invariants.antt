use Rattle.std.proofs.Common.{take}
use Rattle.std.specs.Option.{option_copied}
use Rattle.coherent_log.specs.Followed.{Follows}
use Rattle.coherent_log.specs.Laws.{IsCoherentLog}
use Rattle.coherent_log.proofs.checking.check_coherence.Given as goal

-- the log up to here is followed, and coherent
abbrev pub invariant-loop-index : goal.invariant-loop-index
invariant-loop-index l = Follows l.followed (take l.index l.log) × IsCoherentLog (option_copied l.image) (take l.index l.log)
