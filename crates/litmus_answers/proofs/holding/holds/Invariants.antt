use Rattle.std.proofs.Common.{◌≡◌, [], length}
use Rattle.std.specs.Prelude.{reverse}
use Rattle.litmus_answers.specs.Holding.{has, worked_out}
use Rattle.litmus_answers.proofs.holding.holds.Given as goal

abbrev pub invariant-loop-rest : goal.invariant-loop-rest
invariant-loop-rest l = worked_out (has l.scene.names.now l.scene.told.now l.scene.state.now) l.rest (reverse l.stack.items) ≡ worked_out (has l.scene.names.now l.scene.told.now l.scene.state.now) l.initial.rest []

abbrev pub decreases-loop-rest : goal.decreases-loop-rest
decreases-loop-rest l = length l.rest
