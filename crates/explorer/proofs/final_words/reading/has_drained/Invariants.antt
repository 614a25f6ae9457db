use Rattle.explorer.proofs.Drained.{IsIdleBelow}
use Rattle.explorer.proofs.final_words.reading.has_drained.Given as goal

abbrev pub invariant-loop-hart : goal.invariant-loop-hart
invariant-loop-hart l = IsIdleBelow l.views.views.nodes l.hart
