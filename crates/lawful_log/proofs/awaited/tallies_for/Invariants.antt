use Rattle.std.proofs.Common.{◌≡◌, take}
use Rattle.machine_model.specs.LawfulLog.{concerns}
use Rattle.lawful_log.specs.Facts.{tallies_of}
use Rattle.lawful_log.proofs.awaited.tallies_for.Given as goal

abbrev pub invariant-loop-entry : goal.invariant-loop-entry
invariant-loop-entry l = l.tallies ≡ tallies_of (concerns l.hart l.line) (take l.entry-index l.log)
