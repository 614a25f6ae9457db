use Rattle.std.proofs.Common.{◌≡◌, ◌<◌, length, map}
use Rattle.litmus_command.specs.Requests.{read_on}
use Rattle.litmus_command.specs.Wishes.{request_in}
use Rattle.litmus_command.proofs.wanted.request_of.Given as goal

abbrev pub invariant-loop-rest : goal.invariant-loop-rest
invariant-loop-rest g l = record {
  read : read_on l.reading (map g.S.AsStr.text l.rest) ≡ request_in (map g.S.AsStr.text l.words);
  states : 0 < l.reading.wanted.states;
}

abbrev pub decreases-loop-rest : goal.decreases-loop-rest
decreases-loop-rest g l = length l.rest
