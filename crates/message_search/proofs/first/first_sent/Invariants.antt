use Rattle.std.proofs.Common.{◌≡◌, ◌+◌, length}
use Rattle.machine_model.specs.Views.{opening}
use Rattle.message_search.proofs.Sending.{Unsent}
use Rattle.message_search.proofs.first.first_sent.Given as goal

abbrev pub invariant-loop-rest : goal.invariant-loop-rest
invariant-loop-rest l = record {
  unsent : Unsent l.sought (opening l.fn.image l.fn.config) l.events l.count l.machine l.rest;
  place : l.count + length l.rest ≡ length l.events;
}

abbrev pub decreases-loop-rest : goal.decreases-loop-rest
decreases-loop-rest l = length l.rest
