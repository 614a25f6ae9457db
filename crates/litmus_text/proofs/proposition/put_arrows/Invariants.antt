use Rattle.std.proofs.Common.{◌≡◌, ◌++◌, replicate}
use Rattle.litmus_parts.specs.declared.step.Step.TheVariants as steps
use Rattle.litmus_text.proofs.proposition.put_arrows.Given as goal

abbrev pub invariant-loop-placed : goal.invariant-loop-placed
invariant-loop-placed l = l.steps.items ≡ l.initial.steps.items ++ replicate l.placed steps.Implies
