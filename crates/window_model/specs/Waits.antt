-- Sets of operations that wait in a hart's window: positions in it, the first one 0.
use Rattle.std.specs.Prelude.{ℕ, zero, suc, ◌+◌, Bool, false, ◌&&◌, ◌||◌, ◌==◌, nat_lt, if◌then◌else◌, List, slice_get}
use Rattle.std.specs.List.{list_any}
use Rattle.std.specs.Option.{option_map_or}

-- a set tells of each position whether it is in it
abbrev pub Waits : Type 0
Waits = ℕ → Bool

abbrev pub none : Waits
none k = false

-- this position alone
abbrev pub only : ℕ → Waits
only p k = k == p

infixr 7 ◌∪◌
abbrev pub ◌∪◌ : Waits → Waits → Waits
(s ∪ t) k = s k || t k

-- the set where a condition holds, else none
abbrev pub when : Bool → Waits → Waits
when condition s k = condition && s k

-- where the elements of a window stand that pass a test
abbrev pub those : {X : Type 0} → (X → Bool) → List X → Waits
those test window k = option_map_or test (slice_get window k) false

-- what the sets of these registers have
abbrev pub of_registers : (ℕ → Waits) → List ℕ → Waits
of_registers registers rs k = list_any (λ r. registers r k) rs

-- one of the first so many positions is in it
abbrev pub has_any : ℕ → Waits → Bool
has_any zero s = false
has_any (suc n) s = s n || has_any n s

-- ---- the operation at a position leaves, and those behind it move up by one

-- where what is at k now stood while p was there
abbrev pub stood_at : (p k : ℕ) → ℕ
stood_at p k = if nat_lt k p then k else k + 1

-- what stays of a set
abbrev pub without : (p : ℕ) → Waits → Waits
without p s k = s (stood_at p k)
