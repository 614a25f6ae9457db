use Rattle.std.proofs.Common.{◌≡◌, take}
use Rattle.run_chart.specs.Picture.{posts}
use Rattle.run_chart.proofs.drawing.posts_of.Given as goal

abbrev pub invariant-loop-row : goal.invariant-loop-row
invariant-loop-row l = l.posts.items ≡ posts (take l.row-index l.rows)
