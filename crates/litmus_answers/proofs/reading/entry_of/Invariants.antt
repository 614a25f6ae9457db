use Rattle.std.proofs.Common.{◌≡◌, length}
use Rattle.litmus_answers.specs.Entries.{told_on}
use Rattle.litmus_answers.specs.Logs.{answer_in, body, lines, states_in}
use Rattle.litmus_answers.proofs.reading.entry_of.Given as goal

abbrev pub invariant-loop-rest : goal.invariant-loop-rest
invariant-loop-rest l = record {
  name : l.entry.name.items ≡ l.name;
  told : told_on l.entry l.states (body (lines l.rest)) ≡ (states_in 0 (body (lines l.text)), answer_in 0 (body (lines l.text)));
}

abbrev pub decreases-loop-rest : goal.decreases-loop-rest
decreases-loop-rest l = length l.rest
