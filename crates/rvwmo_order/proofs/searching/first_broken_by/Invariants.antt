use Rattle.std.proofs.Common.{◌≡◌, drop}
use Rattle.memory_model.specs.Rules.{asked_by}
use Rattle.rvwmo_order.specs.Rules.{rule_of}
use Rattle.rvwmo_order.specs.Scans.{first_out_of_order}
use Rattle.rvwmo_order.proofs.searching.first_broken_by.Given as goal

abbrev pub invariant-loop-place : goal.invariant-loop-place
invariant-loop-place l = first_out_of_order (asked_by l.model l.harts l.ranking (rule_of l.rule)) l.ranking ≡ first_out_of_order (asked_by l.model l.harts l.ranking (rule_of l.rule)) (drop l.place l.ranking)
