use Rattle.std.proofs.Common.{List, ℕ}
use Rattle.litmus_text.proofs.Nesting.{arrow_put, only_memory}
use Rattle.litmus_text.proofs.proposition.put_arrows.Goals as goal

pub loop-placed-preserved : goal.loop-placed-preserved
loop-placed-preserved c = arrow_put (λ (x : List ℕ). x) _ _ _ c.loop-placed.placed _ _ c.in-Ok.ensures c.loop-placed.invariant

pub returns-in-Err : goal.returns-in-Err
returns-in-Err c = only_memory c.in-Err.stop _ _ c.in-Err.ensures
