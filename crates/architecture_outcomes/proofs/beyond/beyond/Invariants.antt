use Rattle.std.proofs.Common.{◌≡◌, All, IsTrue, false, length}
use Rattle.std.specs.List.{list_any}
use Rattle.architecture_outcomes.specs.Outcomes.{IsDecided, IsWitnessed, end_of, tells}
use Rattle.witnesses.specs.Witnesses.{IsWitness}
use Rattle.architecture_outcomes.proofs.Each.{IsLeftOrTold}
use Rattle.architecture_outcomes.proofs.beyond.beyond.Given as goal

abbrev pub invariant-loop-witness : goal.invariant-loop-witness
invariant-loop-witness l = record {
  left : All (IsWitness l.image l.fn.config) l.left.items;
  shown : All (IsWitnessed l.image l.fn.config l.addresses) l.outcomes.items;
  alone : IsTrue l.fn.is_complete → All (λ o. IsDecided o.way) l.outcomes.items;
  apart : All (λ o. list_any (tells (end_of o)) l.found ≡ false) l.outcomes.items;
  told : IsLeftOrTold l.addresses l.fn.witnesses.items l.left.items l.found l.outcomes.items;
}

abbrev pub decreases-loop-witness : goal.decreases-loop-witness
decreases-loop-witness l = length l.left.items
