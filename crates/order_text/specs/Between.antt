-- What one walk gathers of the instructions between two operations, in the words of the rules.
use Rattle.std.specs.Prelude.{◌≡◌, ◌||◌, ◌&&◌, List, Option}
use Rattle.std.specs.List.{list_any}
use Rattle.memory_model.specs.declared.operation.Kind.{Kind}
use Rattle.memory_model.specs.declared.operation.Operation.{Operation}
use Rattle.memory_model.specs.Dependencies.{any_addresses, any_steers, between, held_after, held_at, held_first, holds, sources, steers, uses_at, uses_in}
use Rattle.memory_model.specs.Items.{Item}
use Rattle.memory_model.specs.Rules.{fences, is_lr_or_sc}
use Rattle.rv32_decode.specs.declared.instruction.Instr.{Instr}
use Rattle.order_text.specs.declared.between.Between.{Between}

-- of those between a and b
pub record IsBetween (items : List Item) (a b : Operation) (w : Between) : Type 0 where
  pub fenced : w.is_fenced ≡ list_any (λ (m : Item). fences m.instr a.kind b.kind) (between items a b)
  pub reserved : w.is_reserved ≡ list_any (λ (m : Item). is_lr_or_sc m.instr) (between items a b)
  pub steered : w.is_steered ≡ any_steers (held_first (uses_at items a)) (between items a b)
  pub addressed : w.is_addressed ≡ any_addresses (held_first (uses_at items a)) (between items a b)
  pub held : w.held ≡ held_at items a b

-- behind one more
pub record IsPassed (instr : Option Instr) (a b : Kind) (old new : Between) : Type 0 where
  pub fenced : new.is_fenced ≡ (old.is_fenced || fences instr a b)
  pub reserved : new.is_reserved ≡ (old.is_reserved || is_lr_or_sc instr)
  pub steered : new.is_steered ≡ (old.is_steered || (steers instr && holds old.held (sources (uses_in instr))))
  pub addressed : new.is_addressed ≡ (old.is_addressed || holds old.held (uses_in instr).address)
  pub held : new.held ≡ held_after old.held (uses_in instr)
