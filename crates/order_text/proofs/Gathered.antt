-- One more instruction of those between two operations.
use Rattle.std.proofs.Common.{◌≡◌, ◌∙◌, ◌||◌, ◌&&◌, ◌∷◌, List, Bool, true, false, Option, Some, ap, refl}
use Rattle.std.specs.List.{list_any}
use Rattle.memory_model.specs.Dependencies.{any_addresses, any_steers, held_after, held_behind, holds, sources, steers, uses_in}
use Rattle.memory_model.specs.Items.{Item}

pub or_moved : (o f t : Bool) → ((o || f) || t) ≡ (o || (f || t))
or_moved true f t = refl
or_moved false f t = refl

pub any_next : (f : Item → Bool) (all o n : Bool) (m : Item) (rest tail : List Item) → rest ≡ m ∷ tail → n ≡ (o || f m) → (o || list_any f rest) ≡ all → (n || list_any f tail) ≡ all
any_next f all o n m rest tail e g h = rw g (or_moved o (f m) (list_any f tail) ∙ (rw e at h))

pub steered_next : (all o n : Bool) (held after : List Bool) (m : Item) (rest tail : List Item) → rest ≡ m ∷ tail → n ≡ (o || (steers m.instr && holds held (sources (uses_in m.instr)))) → after ≡ held_after held (uses_in m.instr)
    → (o || any_steers held rest) ≡ all → (n || any_steers after tail) ≡ all
steered_next all o n held after m rest tail e g a h =
    rw (g, a) (or_moved o (steers m.instr && holds held (sources (uses_in m.instr))) (any_steers (held_after held (uses_in m.instr)) tail) ∙ (rw e at h))

pub addressed_next : (all o n : Bool) (held after : List Bool) (m : Item) (rest tail : List Item) → rest ≡ m ∷ tail → n ≡ (o || holds held (uses_in m.instr).address) → after ≡ held_after held (uses_in m.instr)
    → (o || any_addresses held rest) ≡ all → (n || any_addresses after tail) ≡ all
addressed_next all o n held after m rest tail e g a h =
    rw (g, a) (or_moved o (holds held (uses_in m.instr).address) (any_addresses (held_after held (uses_in m.instr)) tail) ∙ (rw e at h))

pub held_next : (all held after : List Bool) (m : Item) (rest tail : List Item) → rest ≡ m ∷ tail → after ≡ held_after held (uses_in m.instr) → held_behind held rest ≡ all → held_behind after tail ≡ all
held_next all held after m rest tail e a h = rw a (rw e at h)
