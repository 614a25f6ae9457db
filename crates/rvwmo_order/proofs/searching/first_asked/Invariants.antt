use Rattle.std.proofs.Common.{◌≡◌, drop, find}
use Rattle.rvwmo_order.specs.Rules.{rule_of}
use Rattle.memory_model.specs.Rules.{asked_by}
use Rattle.rvwmo_order.proofs.searching.first_asked.Given as goal

abbrev pub invariant-loop-a : goal.invariant-loop-a
invariant-loop-a l = find (λ a. asked_by l.model l.harts l.ranking (rule_of l.sweep.rule) a l.b) l.among ≡ find (λ a. asked_by l.model l.harts l.ranking (rule_of l.sweep.rule) a l.b) (drop l.a-index l.among)
