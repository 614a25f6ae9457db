use Rattle.std.proofs.Common.{take}
use Rattle.lawful_log.specs.Followed.{Follows}
use Rattle.lawful_log.specs.Rules.{IsLawfulBy}
use Rattle.lawful_log.proofs.checking.check_log.Given as goal

-- the log up to here is followed, and lawful
abbrev pub invariant-loop-index : goal.invariant-loop-index
invariant-loop-index l = Follows l.followed (take l.index l.log) × IsLawfulBy l.profile (take l.index l.log)
