use Rattle.std.proofs.Common.{◌≡◌, None, find, length}
use Rattle.std.specs.List.{AllByRecursion}
use Rattle.memory_model.specs.Rules.{asked_by}
use Rattle.rvwmo_order.specs.Rules.{rule_of}
use Rattle.rvwmo_order.specs.Scans.{all_rules}
use Rattle.rvwmo_order.specs.declared.rule.Rule.{Rule}
use Rattle.rvwmo_order.proofs.near.asks_none.Given as goal

-- those so far ask for none, so that all do where those left do
abbrev pub invariant-loop-left : goal.invariant-loop-left
invariant-loop-left l =
    AllByRecursion (λ (rule : Rule). find (λ a. asked_by l.model l.harts l.ranking (rule_of rule) a l.b) l.among ≡ None) l.left
    → AllByRecursion (λ (rule : Rule). find (λ a. asked_by l.model l.harts l.ranking (rule_of rule) a l.b) l.among ≡ None) all_rules

abbrev pub decreases-loop-left : goal.decreases-loop-left
decreases-loop-left l = length l.left
