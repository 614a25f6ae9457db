-- The fields of a cache, as its callers see them.
use Rattle.std.proofs.Common.{◌≡◌, ℕ, ◌<◌, Bool, true, false, cond, ◌&&◌, ◌||◌, nat_eq, nat_le, Option, Some, None, refl, sym, ap, ◌∙◌, arith}
use Rattle.std.specs.Prelude.{is_some}
use Rattle.std.specs.Ordering.{nat_cmp}
use Rattle.std.specs.FinSet as fset
use Rattle.std.specs.FinSet.{FinSet}
use Rattle.machine_types.specs.declared.limits.TheConstants.{TRACKERS}
use Rattle.tl_types.specs.declared.permission.Grow.{Grow}
use Rattle.client_cache.specs.declared.held.Held.{Held}
use Rattle.client_cache.specs.declared.slot.Place.{Place}
use Rattle.client_cache.specs.declared.array.Array.{Array}
use Rattle.client_cache.specs.declared.cache.ClientCache.TheInside.{Inside}
use Rattle.client_cache.specs.declared.answers.Want.TheVariants.{SetFull, Missed}
use Rattle.client_cache.specs.Shape.{set_of}
use Rattle.client_cache.specs.Row.{IsAt}
use Rattle.client_cache.specs.Cache.{Cache, put, copy_at, lines_in_set, is_set_full, wanted}
use Rattle.client_cache.specs.Array.{IsLaidOut, IsRoom, IsFull, slots_of_set, copies_of, copy_in, acquiring_in, place_of}
use Rattle.client_cache.proofs.Copies.{get-copies_of, length-row, IsWrite, after_write, IsPlaced-write, copies_of-write, put-same}
use Rattle.client_cache.proofs.Counts.{used_place, len-lines_in_set, length-all_used, length-free}
use Rattle.client_cache.proofs.Rooms.{write_found, write_room, tells_same, tells_insert, room_found}

abbrev pub seen : Inside → Cache
seen s = record { shape = s.array.shape; copies = copies_of s.array.shape s.array.slots.items; acquiring = s.acquiring; releasing = s.releasing }

-- what every cache keeps of its fields
abbrev pub IsOrdered : Inside → Type 0
IsOrdered s = IsLaidOut s.array.shape s.array.slots.items s.acquiring

-- where a search found the line
abbrev pub IsFound : Inside → ℕ → ℕ → Place → Type 0
IsFound s line way p = IsAt line (slots_of_set s.array.shape s.array.slots.items (set_of s.array.shape line)) way p

-- what callers see of the line that was searched for
pub copy_at-seen : (s : Inside) → IsOrdered s → (x : Cache) → seen s ≡ x → (line : ℕ) → copy_at x line ≡ copy_in (place_of s.array.shape s.array.slots.items line)
copy_at-seen s h x e line = ap (λ (y : Cache). copy_at y line) (sym e) ∙ get-copies_of s.array.shape s.array.slots.items s.acquiring h line

pub copy_at-found : (s : Inside) → IsOrdered s → (x : Cache) → seen s ≡ x → (line way : ℕ) (p : Place) → IsFound s line way p → copy_at x line ≡ p.copy
copy_at-found s h x e line way p at = copy_at-seen s h x e line ∙ ap copy_in at.first

pub acquiring-found : (s : Inside) → IsOrdered s → (x : Cache) → seen s ≡ x → (line way : ℕ) (p : Place) → IsFound s line way p → fset.contains x.acquiring line ≡ p.acquiring
acquiring-found s h x e line way p at = ap (λ (y : Cache). fset.contains y.acquiring line) (sym e) ∙ h.tracked line ∙ ap acquiring_in at.first

-- the place that was found is one of the set's
pub way-found : (s : Inside) → IsOrdered s → (line way : ℕ) (p : Place) → IsFound s line way p → way < s.array.shape.ways
way-found s h line way p at =
    let low = h.sets_low in
    (room_found s.array.shape s.array.slots.items line way p low h.room (h.rows (set_of s.array.shape line) (omega arith)) at).within

-- after one place was written
pub record IsRewritten (s : Inside) (a : Array) (later : FinSet nat_cmp) (line : ℕ) (copy : Option Held) : Type 0 where
  pub placed : IsLaidOut a.shape a.slots.items later
  pub seen_as : (releasing : FinSet nat_cmp) → ◌≡◌ {A = Cache} (record { shape = a.shape; copies = copies_of a.shape a.slots.items; acquiring = later; releasing = releasing })
      (record { shape = s.array.shape; copies = put (seen s).copies line copy; acquiring = later; releasing = releasing })

rewritten : (s : Inside) → IsOrdered s → (line way : ℕ) (p : Place) → IsWrite s.array.shape s.array.slots.items line way p
    → (later : FinSet nat_cmp) → ((q : ℕ) → fset.contains later q ≡ cond (nat_eq q line) p.acquiring (fset.contains s.acquiring q))
    → (a : Array) → a.shape ≡ s.array.shape → a.slots.items ≡ after_write s.array.shape s.array.slots.items line way p → IsRewritten s a later line p.copy
rewritten s h line way p w later tells a shape slots =
    let after = IsPlaced-write s.array.shape s.array.slots.items s.acquiring later line way p h w tells in
    let copies = copies_of-write s.array.shape s.array.slots.items s.acquiring later line way p h w after in
    record {
      placed = rw (shape, slots) after;
      seen_as = λ releasing. rw (shape, slots) (λ i. record { shape = s.array.shape; copies = copies i; acquiring = later; releasing = releasing });
    }

-- the place that was found
pub rewritten-found : (s : Inside) → IsOrdered s → (line way : ℕ) (old p : Place) → IsFound s line way old → p.line ≡ line
    → (later : FinSet nat_cmp) → ((q : ℕ) → fset.contains later q ≡ cond (nat_eq q line) p.acquiring (fset.contains s.acquiring q))
    → (a : Array) → a.shape ≡ s.array.shape → a.slots.items ≡ after_write s.array.shape s.array.slots.items line way p → IsRewritten s a later line p.copy
rewritten-found s h line way old p at named =
    rewritten s h line way p (write_found s.array.shape s.array.slots.items s.acquiring line way old p h at named)

-- the place that was found, with its mark as it was
pub rewritten-copy : (s : Inside) → IsOrdered s → (line way : ℕ) (old : Place) → IsFound s line way old → (copy : Option Held) (acquiring : Bool) → old.acquiring ≡ acquiring
    → (a : Array) → a.shape ≡ s.array.shape → a.slots.items ≡ after_write s.array.shape s.array.slots.items line way (record { line = line; copy = copy; acquiring = acquiring }) → IsRewritten s a s.acquiring line copy
rewritten-copy s h line way old at copy acquiring mark =
    rewritten-found s h line way old (record { line = line; copy = copy; acquiring = acquiring }) at refl s.acquiring
    (tells_same s.acquiring line acquiring (acquiring-found s h (seen s) refl line way old at ∙ mark))

-- the room that a miss takes: the copies stay
pub rewritten-room : (s : Inside) → IsOrdered s → (line way : ℕ) (copy : Option Held) → IsRoom s.array.shape s.array.slots.items line way copy
    → (a : Array) → a.shape ≡ s.array.shape → a.slots.items ≡ after_write s.array.shape s.array.slots.items line way (record { line = line; copy = copy; acquiring = true })
    → IsRewritten s a (fset.insert s.acquiring line) line copy
rewritten-room s h line way copy room =
    let p : Place = record { line = line; copy = copy; acquiring = true } in
    rewritten s h line way p (write_room s.array.shape s.array.slots.items line way copy p room refl) (fset.insert s.acquiring line) (tells_insert s.acquiring line)

-- a copy is put back where it was
pub kept-room : (s : Inside) → IsOrdered s → (line way : ℕ) (copy : Option Held) → IsRoom s.array.shape s.array.slots.items line way copy → put (seen s).copies line copy ≡ (seen s).copies
kept-room s h line way copy room =
    ap (put (seen s).copies line) (room.same ∙ sym (get-copies_of s.array.shape s.array.slots.items s.acquiring h line)) ∙ put-same (seen s).copies line

-- the count of the set is the number of ways where no slot is free, and else less
is_set_full-full : (s : Inside) → IsOrdered s → (line : ℕ) → IsFull s.array.shape s.array.slots.items line → is_set_full (seen s) line ≡ true
is_set_full-full s h line f =
    let low = h.sets_low in
    let count = len-lines_in_set (seen s) s.array.slots.items h refl line in
    let all = length-all_used (slots_of_set s.array.shape s.array.slots.items (set_of s.array.shape line)) f.used in
    let long = length-row s.array.shape s.array.slots.items (set_of s.array.shape line) h.room (omega arith) in
    let none : copy_at (seen s) line ≡ None = copy_at-seen s h (seen s) refl line ∙ ap copy_in f.missing in
    let full : nat_le s.array.shape.ways (fset.len (lines_in_set (seen s) line)) ≡ true = rw (count, all, long) (grind arith) in
    rw (none, full) refl

is_set_full-room : (s : Inside) → IsOrdered s → (line way : ℕ) (copy : Option Held) → IsRoom s.array.shape s.array.slots.items line way copy → fset.contains s.acquiring line ≡ false → is_set_full (seen s) line ≡ false
is_set_full-room s h line way copy r none = go (place_of s.array.shape s.array.slots.items line) refl
  where
    fewer : place_of s.array.shape s.array.slots.items line ≡ None → fset.len (lines_in_set (seen s) line) < s.array.shape.ways
    fewer missing =
        let free = r.free missing in
        let low = h.sets_low in
        let count = len-lines_in_set (seen s) s.array.slots.items h refl line in
        let less = length-free (slots_of_set s.array.shape s.array.slots.items (set_of s.array.shape line)) way (record { place = free.here.0 }) free.here.1.0 free.here.1.1 in
        let long = length-row s.array.shape s.array.slots.items (set_of s.array.shape line) h.room (omega arith) in
        omega (arith, count, less, long)

    held : (p : Place) → place_of s.array.shape s.array.slots.items line ≡ Some p → is_some (copy_at (seen s) line) ≡ true
    held p is =
        let both = used_place line (slots_of_set s.array.shape s.array.slots.items (set_of s.array.shape line)) in
        let plain : acquiring_in (place_of s.array.shape s.array.slots.items line) ≡ false = sym (h.tracked line) ∙ none in
        ap is_some (copy_at-seen s h (seen s) refl line) ∙ left_true _ _ (both ∙ ap is_some is) plain
      where
        left_true : (a b : Bool) → (a || b) ≡ true → b ≡ false → a ≡ true
        left_true true b e f = refl
        left_true false b e f = sym f ∙ e

    go : (o : Option Place) → place_of s.array.shape s.array.slots.items line ≡ o → is_set_full (seen s) line ≡ false
    go None is = let less = fewer is in let f : nat_le s.array.shape.ways (fset.len (lines_in_set (seen s) line)) ≡ false = grind (arith, less) in rw f (and_false _)
      where
        and_false : (b : Bool) → (b && false) ≡ false
        and_false true = refl
        and_false false = refl
    go (Some p) is = rw (held p is) refl

-- a miss, once nothing but its set can stop it
record IsFree (x : Cache) (line : ℕ) : Type 0 where
  released : fset.contains x.releasing line ≡ false
  granted : fset.contains x.acquiring line ≡ false
  tracker : nat_le TRACKERS (fset.len x.acquiring) ≡ false

free_by : (x : Cache) (line : ℕ) → fset.contains x.releasing line ≡ false → fset.contains x.acquiring line ≡ false → fset.len x.acquiring < TRACKERS → IsFree x line
free_by x line released granted tracker = record { released = released; granted = granted; tracker = grind (arith, tracker) }

wanted-free : (x : Cache) (line : ℕ) (grow : Grow) (full : Bool) → IsFree x line → is_set_full x line ≡ full
    → wanted x line grow ≡ cond full (SetFull, x) (Missed grow, record x { acquiring = fset.insert x.acquiring line })
wanted-free x line grow full f is = let a = f.released in let b = f.granted in let d = f.tracker in rw (a, b, d, is) refl

pub wanted-full : (s : Inside) → IsOrdered s → (x : Cache) → seen s ≡ x → (line : ℕ) (grow : Grow) → fset.contains x.releasing line ≡ false → fset.contains x.acquiring line ≡ false → fset.len x.acquiring < TRACKERS
    → IsFull s.array.shape s.array.slots.items line → wanted x line grow ≡ (SetFull, x)
wanted-full s h x e line grow a b d full =
    wanted-free x line grow true (free_by x line a b d) (ap (λ (y : Cache). is_set_full y line) (sym e) ∙ is_set_full-full s h line full)

pub wanted-room : (s : Inside) → IsOrdered s → (x : Cache) → seen s ≡ x → (line : ℕ) (grow : Grow) → fset.contains x.releasing line ≡ false → fset.contains x.acquiring line ≡ false → fset.len x.acquiring < TRACKERS
    → (way : ℕ) (copy : Option Held) → IsRoom s.array.shape s.array.slots.items line way copy → wanted x line grow ≡ (Missed grow, record x { acquiring = fset.insert x.acquiring line })
wanted-room s h x e line grow a b d way copy room =
    wanted-free x line grow false (free_by x line a b d)
    (ap (λ (y : Cache). is_set_full y line) (sym e) ∙ is_set_full-room s h line way copy room (ap (λ (y : Cache). fset.contains y.acquiring line) e ∙ b))
