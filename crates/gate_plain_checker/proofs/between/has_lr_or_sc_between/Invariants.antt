use Rattle.std.proofs.Common.{◌≡◌, length}
use Rattle.std.specs.List.{list_any}
use Rattle.memory_model.specs.Dependencies.{between}
use Rattle.memory_model.specs.Rules.{is_lr_or_sc}
use Rattle.gate_plain_checker.proofs.between.has_lr_or_sc_between.Given as goal

abbrev pub invariant-loop-item : goal.invariant-loop-item
invariant-loop-item l = list_any (λ m. is_lr_or_sc m.instr) (between l.items l.a l.b) ≡ list_any (λ m. is_lr_or_sc m.instr) l.rest

abbrev pub decreases-loop-item : goal.decreases-loop-item
decreases-loop-item l = length l.rest
