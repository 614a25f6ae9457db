use Rattle.std.proofs.Common.{◌≡◌, ◌||◌, length}
use Rattle.std.specs.List.{list_any}
use Rattle.memory_model.specs.Dependencies.{any_addresses, any_steers, between, held_at, held_behind, held_first, uses_at}
use Rattle.memory_model.specs.Items.{Item}
use Rattle.memory_model.specs.Rules.{fences, is_lr_or_sc}
use Rattle.order_text.proofs.between.Between.of.Given as goal

-- what is gathered, and what is still to come, are what stands between
abbrev pub invariant-loop-item : goal.invariant-loop-item
invariant-loop-item l = record {
  fenced : (l.between.is_fenced || list_any (λ (m : Item). fences m.instr l.a.kind l.b.kind) l.rest) ≡ list_any (λ (m : Item). fences m.instr l.a.kind l.b.kind) (between l.items l.a l.b);
  reserved : (l.between.is_reserved || list_any (λ (m : Item). is_lr_or_sc m.instr) l.rest) ≡ list_any (λ (m : Item). is_lr_or_sc m.instr) (between l.items l.a l.b);
  steered : (l.between.is_steered || any_steers l.between.held l.rest) ≡ any_steers (held_first (uses_at l.items l.a)) (between l.items l.a l.b);
  addressed : (l.between.is_addressed || any_addresses l.between.held l.rest) ≡ any_addresses (held_first (uses_at l.items l.a)) (between l.items l.a l.b);
  held : held_behind l.between.held l.rest ≡ held_at l.items l.a l.b;
}

abbrev pub decreases-loop-item : goal.decreases-loop-item
decreases-loop-item l = length l.rest
