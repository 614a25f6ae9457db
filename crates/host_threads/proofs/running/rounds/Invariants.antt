use Rattle.std.proofs.Common.{◌≡◌, vec_len}
use Rattle.host_threads.proofs.running.rounds.Given as goal

abbrev pub invariant-loop-hart : goal.invariant-loop-hart
invariant-loop-hart l = vec_len l.turns ≡ l.hart
