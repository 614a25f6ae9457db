use Rattle.std.proofs.Common.{◌≡◌, ◌++◌, ◌+◌, length}
use Rattle.exploration_text.specs.Text.{harts_text}
use Rattle.explorer.specs.Shown.{told}
use Rattle.exploration_text.proofs.spelling.spell_harts.Given as goal

abbrev pub invariant-loop-rest : goal.invariant-loop-rest
invariant-loop-rest l = record {
  told : l.into.items ++ harts_text l.hart (told l.rest) ≡ l.fn.into.items ++ harts_text 0 (told l.harts);
  count : l.hart + length l.rest ≡ length l.harts;
}

abbrev pub decreases-loop-rest : goal.decreases-loop-rest
decreases-loop-rest l = length l.rest
