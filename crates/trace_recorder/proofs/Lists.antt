-- Lists of lists with their room: what changes where one of them is reserved for or pushed to.
use Rattle.std.proofs.Common.{◌≡◌, [], ◌∷◌, ◌++◌, ℕ, ◌-◌, ◌<◌, ◌≤◌, List, length, slice_set, slice_index, slice_index_or, map, ap, sym, subst, ◌∙◌, arith, Vec, Global, vec_len, vec_capacity}
use Rattle.std.proofs.lemmas.List.{map-set, length-append, length-map, length-set, get_or-map}
use Rattle.std.specs.List.{All}
use Rattle.std.proofs.lemmas.List.Elements.{All-map, All-set}
use Rattle.std.proofs.lemmas.Grind.{common_steps}
use Rattle.std.proofs.Math.Seq.{map-set_same}
use Rattle.hart.specs.TheConstants.{MAX_ENTRIES}
use Rattle.hart.specs.declared.retired.Retired.{Retired}
use Rattle.trace_recorder.specs.History.{History}
use Rattle.trace_recorder.specs.Limits.{AreWithinLimits, IsWithinLimits}

abbrev pub items_of : Vec Retired Global → List Retired
items_of v = v.items

-- how much more goes into it without memory
abbrev pub room_of : Vec Retired Global → ℕ
room_of v = vec_capacity v - vec_len v

pub items-reserved : (vs : List (Vec Retired Global)) (i : ℕ) (old new : Vec Retired Global) → old ≡ slice_index_or vs i old → new.items ≡ old.items → map items_of (slice_set vs i new) ≡ map items_of vs
items-reserved vs i old new at same = map-set_same items_of vs i new old (same ∙ ap items_of at)

room_set : (ns : List ℕ) (i n : ℕ) → i < length ns → slice_index (slice_set ns i n) i ≡ n
room_set ns i n h = grind (arith, common_steps)

pub room-reserved : (vs : List (Vec Retired Global)) (i : ℕ) (v : Vec Retired Global) → i < length vs → slice_index (map room_of (slice_set vs i v)) i ≡ room_of v
room-reserved vs i v h =
    let k : i < length (map room_of vs) = rw length-map h in
    rw (map-set room_of vs i v) (room_set (map room_of vs) i (room_of v) k)

list_at : (vs : List (Vec Retired Global)) (i : ℕ) (old : Vec Retired Global) → old ≡ slice_index_or vs i old → i < length vs → slice_index_or (map items_of vs) i [] ≡ old.items
list_at vs i old at h = get_or-map items_of vs i old [] h ∙ sym (ap items_of at)

pub items-pushed : (vs : List (Vec Retired Global)) (i : ℕ) (old new : Vec Retired Global) (entry : Retired) → i < length vs → old ≡ slice_index_or vs i old → new.items ≡ old.items ++ entry ∷ [] → map items_of (slice_set vs i new) ≡ slice_set (map items_of vs) i (slice_index_or (map items_of vs) i [] ++ entry ∷ [])
items-pushed vs i old new entry h at push = map-set items_of vs i new ∙ ap (λ (r : List Retired). slice_set (map items_of vs) i r) (push ∙ ap (λ (r : List Retired). r ++ entry ∷ []) (sym (list_at vs i old at h)))

pub room-pushed : (vs : List (Vec Retired Global)) (i : ℕ) (old new : Vec Retired Global) → i < length vs → old ≡ slice_index_or vs i old → room_of new ≡ room_of old - 1 → map room_of (slice_set vs i new) ≡ slice_set (map room_of vs) i (slice_index (map room_of vs) i - 1)
room-pushed vs i old new h at less = map-set room_of vs i new ∙ ap (λ (n : ℕ). slice_set (map room_of vs) i n) (less ∙ ap (λ (n : ℕ). n - 1) (sym (get_or-map room_of vs i old 0 h ∙ sym (ap room_of at))))

-- ---- the limits stay: a list has the same items, or one more where it may have one

set_within : (vs : List (Vec Retired Global)) (i : ℕ) (v : Vec Retired Global) → length v.items ≤ MAX_ENTRIES → AreWithinLimits vs → AreWithinLimits (slice_set vs i v)
set_within vs i v short w = record {
  harts = let same = length-set vs i v in omega (arith, same, w.harts);
  places = All-set (λ (u : Vec Retired Global). length u.items ≤ MAX_ENTRIES) vs i v short w.places;
}

pub pushed_within : (vs : List (Vec Retired Global)) (i : ℕ) (old new : Vec Retired Global) (entry : Retired) → i < length vs → old ≡ slice_index_or vs i old → new.items ≡ old.items ++ entry ∷ [] → length (slice_index_or (map items_of vs) i []) < MAX_ENTRIES → AreWithinLimits vs → AreWithinLimits (slice_set vs i new)
pushed_within vs i old new entry h at push few w =
    let was = ap (λ (r : List Retired). length r) (list_at vs i old at h) in
    let one_more = ap (λ (r : List Retired). length r) push ∙ length-append old.items (entry ∷ []) in
    set_within vs i new (omega (arith, was, one_more, few)) w

pub history_within : (t : History) (vs : List (Vec Retired Global)) → map items_of vs ≡ t.entries → AreWithinLimits vs → IsWithinLimits t
history_within t vs same w = record {
  harts = let count : length (map items_of vs) ≡ length vs = length-map _ _ in let lists = ap (λ (ls : List (List Retired)). length ls) same in omega (arith, count, lists, w.harts);
  places = subst (All (λ (es : List Retired). length es ≤ MAX_ENTRIES)) same (All-map (λ (es : List Retired). length es ≤ MAX_ENTRIES) items_of vs w.places);
}
