use Rattle.std.proofs.Common.{◌≡◌, ◌*◌, ◌≤◌, drop}
use Rattle.litmus_image.specs.Labels.{place_from}
use Rattle.litmus_image.proofs.labels.place_of.Given as goal

abbrev pub invariant-loop-line : goal.invariant-loop-line
invariant-loop-line l = (l.place ≤ 2 * l.line-index) × (place_from l.place (drop l.line-index l.lines) l.name ≡ place_from 0 l.lines l.name)
