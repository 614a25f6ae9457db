-- Buffers whose groups have one entry each, as total store order has them: stores to different words leave in the
-- order in which they came.
use Rattle.std.specs.Prelude.{ℕ, ◌≤◌, length}
use Rattle.std.specs.List.{AllByRecursion as Each}
use Rattle.store_buffer.specs.Groups.{Groups, no_groups, after_put_single, after_seal, after_take}
use Rattle.store_buffer.specs.declared.entry.Store.{Store}

pub record IsSingle (b : Groups) : Type 0 where
  pub sealed : Each (λ g. length g ≤ 1) b.sealed
  pub current : length b.current ≤ 1

abbrev pub NewIsSingle : Type 0
NewIsSingle = IsSingle no_groups

abbrev pub PutSingleStaysSingle : Type 0
PutSingleStaysSingle = (s : Store) (b : Groups) → IsSingle b → IsSingle (after_put_single s b)

abbrev pub SealStaysSingle : Type 0
SealStaysSingle = (b : Groups) → IsSingle b → IsSingle (after_seal b)

abbrev pub TakeStaysSingle : Type 0
TakeStaysSingle = (word : ℕ) (b : Groups) → IsSingle b → IsSingle (after_take word b)
