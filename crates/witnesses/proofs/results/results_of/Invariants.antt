use Rattle.std.proofs.Common.{◌≡◌, ◌+◌, ◌++◌, length, map}
use Rattle.flat_model.specs.Shown.{told}
use Rattle.witnesses.specs.Outcomes.{results_from}
use Rattle.witnesses.proofs.results.results_of.Given as goal

abbrev pub invariant-loop-lists : goal.invariant-loop-lists
invariant-loop-lists l =
    (told l.results.items ++ results_from l.image l.harts l.id (map (λ list. list.items) l.lists) l.ends
    ≡ results_from l.image (length l.entries) 0 (map (λ list. list.items) l.entries) l.statuses)
    × (l.id + length l.lists ≡ length l.entries)

abbrev pub decreases-loop-lists : goal.decreases-loop-lists
decreases-loop-lists l = length l.lists
