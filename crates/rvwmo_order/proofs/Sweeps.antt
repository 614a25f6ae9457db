-- The registers that are wanted, carried back, tell what the flags tell, carried forward.
use Rattle.std.proofs.Common.{◌≡◌, ℕ, zero, suc, ◌+◌, ◌-◌, ◌<◌, ◌≤◌, List, [], ◌∷◌, ◌++◌, Bool, true, false, Option, Some, None, refl, cond, sym, ap, ◌∙◌, not, ◌&&◌, ◌||◌, ⊎_elim, arith, drop, take, length, get_or, set, replicate}
use Rattle.std.specs.Prelude.{filter, nat_eq, nat_lt, slice_get, slice_index_or}
use Rattle.std.specs.List.{list_any}
use Rattle.std.proofs.lemmas.Bool.{and_right, cases_eq, cases_lt, le-ltb, lt-ltb, ne_eqb, eq-eqb, or_parts}
use Rattle.std.proofs.lemmas.List.{drop-drop, drop-take, get_or-set_same, get_or-set_other, get_or-replicate, get_or_past, length-drop, length-set, length-replicate, length-take}
use Rattle.std.proofs.lemmas.List.Folds.{list_any-append}
use Rattle.std.proofs.lemmas.Option.{get_or_from_slice_get, none-some, same_Some, slice_get-get_or, slice_get_past}
use Rattle.hart.specs.Uses.{Uses}
use Rattle.memory_model.specs.declared.operation.Operation.{Operation}
use Rattle.memory_model.specs.Dependencies.{any_addresses, any_steers, between, has_address_dependency, has_control_dependency, has_data_dependency, has_dependent_address_between, held_after, held_behind, held_first, holds, instr_in, sources, steers, uses_at, uses_in, with_flags}
use Rattle.memory_model.specs.Items.{Item}
use Rattle.memory_model.specs.Operations.{precedes}
use Rattle.trace_operations.specs.Placed.{IsPlaced}
use Rattle.rvwmo_order.specs.Sweeps.{addressing, carries, gives_wanted, is_written, marks_of, nothing, steering, wanted_before, wanted_from}
use Rattle.trace_operations.proofs.Placed.{between_cut}
use Rattle.rvwmo_order.proofs.Flags.{length-held_first, length-with_flags, no_flag}

-- ---- flags

flag_set : (held : List Bool) (flag : Bool) (w r : ℕ) → length held ≡ 32 → slice_index_or (set held w flag) r false ≡ cond (nat_lt r 32 && nat_eq w r) flag (slice_index_or held r false)
flag_set held flag w r h = ⊎_elim same other (cases_eq w r)
  where
    inside : w ≡ r → r < 32 → slice_index_or (set held w flag) r false ≡ cond (nat_lt r 32 && nat_eq w r) flag (slice_index_or held r false)
    inside e l = rw (e, lt-ltb r 32 l, eq-eqb r r refl) (get_or-set_same held r flag false (omega (arith, h, l)))

    outside : 32 ≤ r → slice_index_or (set held w flag) r false ≡ cond (nat_lt r 32 && nat_eq w r) flag (slice_index_or held r false)
    outside l = let k = length-set held w flag in rw (le-ltb r 32 l) (get_or_past (set held w flag) r false (omega (arith, h, k, l)) ∙ sym (get_or_past held r false (omega (arith, h, l))))

    same : w ≡ r → slice_index_or (set held w flag) r false ≡ cond (nat_lt r 32 && nat_eq w r) flag (slice_index_or held r false)
    same e = ⊎_elim (λ l. inside e l) (λ l. outside l) (cases_lt r 32)

    other : (w ≡ r → ⊥) → slice_index_or (set held w flag) r false ≡ cond (nat_lt r 32 && nat_eq w r) flag (slice_index_or held r false)
    other f = rw (ne_eqb w r f, and_right (nat_lt r 32) false refl) (get_or-set_other held w r flag false (λ e. f (sym e)))

-- a register that is written has the flag, another what it had
pub flag_at : (held : List Bool) (flag : Bool) (written : List ℕ) (r : ℕ) → length held ≡ 32 → slice_index_or (with_flags held flag written) r false ≡ cond (is_written written r) flag (slice_index_or held r false)
flag_at held flag [] r h = rw (and_right (nat_lt r 32) false refl) refl
flag_at held flag (w ∷ rest) r h =
    flag_at (set held w flag) flag rest r (length-set held w flag ∙ h) ∙ (ap (cond (is_written rest r) flag) (flag_set held flag w r h) ∙ either (nat_lt r 32) (nat_eq w r) (list_any (λ v. nat_eq v r) rest))
  where
    either : (l e o : Bool) → cond (l && o) flag (cond (l && e) flag (slice_index_or held r false)) ≡ cond (l && (e || o)) flag (slice_index_or held r false)
    either false e o = refl
    either true true true = refl
    either true true false = refl
    either true false o = refl

-- ---- one instruction

pub any_same : (p q : ℕ → Bool) → ((r : ℕ) → p r ≡ q r) → (wanted : List ℕ) → list_any p wanted ≡ list_any q wanted
any_same p q f [] = refl
any_same p q f (r ∷ rest) = rw (f r, any_same p q f rest) refl

any_parted : (written held : ℕ → Bool) (flag : Bool) (wanted : List ℕ) → list_any (λ r. cond (written r) flag (held r)) wanted ≡ ((list_any written wanted && flag) || list_any held (filter (λ r. not (written r)) wanted))
any_parted written held flag [] = refl
any_parted written held flag (r ∷ rest) = ap (λ (b : Bool). cond (written r) flag (held r) || b) (any_parted written held flag rest) ∙ go (written r)
  where
    told : (f a b : Bool) → (f || ((a && f) || b)) ≡ (f || b)
    told true a b = refl
    told false true b = refl
    told false false b = refl

    swapped : (h a b : Bool) → (h || (a || b)) ≡ (a || (h || b))
    swapped true true b = refl
    swapped true false b = refl
    swapped false a b = refl

    go : (w : Bool) → (cond w flag (held r) || ((list_any written rest && flag) || list_any held (filter (λ r. not (written r)) rest))) ≡ (((w || list_any written rest) && flag) || list_any held (cond (not w) (r ∷ filter (λ r. not (written r)) rest) (filter (λ r. not (written r)) rest)))
    go true = told flag (list_any written rest) (list_any held (filter (λ r. not (written r)) rest))
    go false = swapped (held r) (list_any written rest && flag) (list_any held (filter (λ r. not (written r)) rest))

all_kept : (written : ℕ → Bool) (wanted : List ℕ) → list_any written wanted ≡ false → filter (λ r. not (written r)) wanted ≡ wanted
all_kept written [] e = refl
all_kept written (r ∷ rest) e = let s = or_parts (written r) (list_any written rest) e in rw (s.0, all_kept written rest s.1) refl

pub before_after : (held : List Bool) (u : Uses) (wanted : List ℕ) → length held ≡ 32 → holds (held_after held u) wanted ≡ holds held (wanted_before u wanted)
before_after held u wanted h =
    any_same (λ r. slice_index_or (held_after held u) r false) (λ r. cond (is_written u.written r) flag (slice_index_or held r false)) (λ r. flag_at held flag u.written r h) wanted
    ∙ (any_parted (is_written u.written) (λ r. slice_index_or held r false) flag wanted ∙ go (gives_wanted u wanted) refl)
  where
    flag : Bool
    flag = holds held (sources u)

    kept : List ℕ
    kept = filter (λ r. not (is_written u.written r)) wanted

    swapped : (a b : Bool) → (a || b) ≡ (b || a)
    swapped true true = refl
    swapped true false = refl
    swapped false true = refl
    swapped false false = refl

    go : (g : Bool) → gives_wanted u wanted ≡ g → ((g && flag) || holds held kept) ≡ holds held (cond g (kept ++ sources u) wanted)
    go true e = swapped flag (holds held kept) ∙ sym (list_any-append (λ r. slice_index_or held r false) kept (sources u))
    go false e = ap (holds held) (all_kept (is_written u.written) wanted e)

-- ---- a list of instructions

length-held_after : (held : List Bool) (u : Uses) → length held ≡ 32 → length (held_after held u) ≡ 32
length-held_after held u h = length-with_flags held (holds held (sources u)) u.written ∙ h

pub carried : (asks : Item → List ℕ) (last : List ℕ) (held : List Bool) (ms : List Item) → length held ≡ 32 → carries asks last held ms ≡ holds held (wanted_from asks last ms)
carried asks last held [] h = refl
carried asks last held (m ∷ rest) h =
    ap (λ (b : Bool). holds held (asks m) || b) (carried asks last (held_after held (uses_in m.instr)) rest (length-held_after held (uses_in m.instr) h) ∙ before_after held (uses_in m.instr) (wanted_from asks last rest) h)
    ∙ sym (list_any-append (λ r. slice_index_or held r false) (asks m) (wanted_before (uses_in m.instr) (wanted_from asks last rest)))

first_flag : (u : Uses) (r : ℕ) → slice_index_or (held_first u) r false ≡ is_written u.written r
first_flag u r = flag_at (replicate 32 false) true u.written r (length-replicate 32 false) ∙ (ap (cond (is_written u.written r) true) (no_flag r) ∙ go (is_written u.written r))
  where
    go : (b : Bool) → cond b true false ≡ b
    go true = refl
    go false = refl

pub first_carried : (asks : Item → List ℕ) (last : List ℕ) (u : Uses) (ms : List Item) → carries asks last (held_first u) ms ≡ gives_wanted u (wanted_from asks last ms)
first_carried asks last u ms =
    carried asks last (held_first u) ms (length-held_first u) ∙ any_same (λ r. slice_index_or (held_first u) r false) (is_written u.written) (first_flag u) (wanted_from asks last ms)

-- ---- the rules

last_carried : (last : List ℕ) (held : List Bool) (ms : List Item) → holds (held_behind held ms) last ≡ carries nothing last held ms
last_carried last held [] = refl
last_carried last held (m ∷ rest) = last_carried last (held_after held (uses_in m.instr)) rest

steering_carried : (held : List Bool) (ms : List Item) → any_steers held ms ≡ carries steering [] held ms
steering_carried held [] = refl
steering_carried held (m ∷ rest) = ap (λ (b : Bool). (steers m.instr && holds held (sources (uses_in m.instr))) || b) (steering_carried (held_after held (uses_in m.instr)) rest) ∙ go (steers m.instr)
  where
    go : (s : Bool) → ((s && holds held (sources (uses_in m.instr))) || carries steering [] (held_after held (uses_in m.instr)) rest) ≡ (holds held (cond s (sources (uses_in m.instr)) []) || carries steering [] (held_after held (uses_in m.instr)) rest)
    go true = refl
    go false = refl

addressing_carried : (held : List Bool) (ms : List Item) → any_addresses held ms ≡ carries addressing [] held ms
addressing_carried held [] = refl
addressing_carried held (m ∷ rest) = ap (λ (b : Bool). holds held (uses_in m.instr).address || b) (addressing_carried (held_after held (uses_in m.instr)) rest)

pub address_swept : (items : List Item) (a b : Operation) → has_address_dependency items a b ≡ (precedes a b && gives_wanted (uses_at items a) (wanted_from nothing (uses_at items b).address (between items a b)))
address_swept items a b =
    ap (λ (c : Bool). precedes a b && c) (last_carried (uses_at items b).address (held_first (uses_at items a)) (between items a b) ∙ first_carried nothing (uses_at items b).address (uses_at items a) (between items a b))

pub data_swept : (items : List Item) (a b : Operation) → has_data_dependency items a b ≡ (precedes a b && gives_wanted (uses_at items a) (wanted_from nothing (uses_at items b).stored (between items a b)))
data_swept items a b =
    ap (λ (c : Bool). precedes a b && c) (last_carried (uses_at items b).stored (held_first (uses_at items a)) (between items a b) ∙ first_carried nothing (uses_at items b).stored (uses_at items a) (between items a b))

pub control_swept : (items : List Item) (a b : Operation) → has_control_dependency items a b ≡ (precedes a b && gives_wanted (uses_at items a) (wanted_from steering [] (between items a b)))
control_swept items a b = ap (λ (c : Bool). precedes a b && c) (steering_carried (held_first (uses_at items a)) (between items a b) ∙ first_carried steering [] (uses_at items a) (between items a b))

pub dependent_address_swept : (items : List Item) (a b : Operation) → has_dependent_address_between items a b ≡ (precedes a b && gives_wanted (uses_at items a) (wanted_from addressing [] (between items a b)))
dependent_address_swept items a b = ap (λ (c : Bool). precedes a b && c) (addressing_carried (held_first (uses_at items a)) (between items a b) ∙ first_carried addressing [] (uses_at items a) (between items a b))

-- ---- marks

pub marks_count : (asks : Item → List ℕ) (last : List ℕ) (ms : List Item) → length (marks_of asks last ms) ≡ length ms
marks_count asks last [] = refl
marks_count asks last (m ∷ rest) = ap suc (marks_count asks last rest)

pub mark_at : (asks : Item → List ℕ) (last : List ℕ) (ms : List Item) (k : ℕ) (m : Item) → slice_get ms k ≡ Some m → slice_get (marks_of asks last ms) k ≡ Some (gives_wanted (uses_in m.instr) (wanted_from asks last (drop (k + 1) ms)))
mark_at asks last [] k m e = absurd (none-some m e)
mark_at asks last (n ∷ rest) zero m e = ap (λ (i : Item). Some (gives_wanted (uses_in i.instr) (wanted_from asks last rest))) (same_Some n m e)
mark_at asks last (n ∷ rest) (suc k) m e =
    let skipped : suc k + 1 ≡ suc (k + 1) = omega arith in
    mark_at asks last rest k m e ∙ ap (λ (j : ℕ). Some (gives_wanted (uses_in m.instr) (wanted_from asks last (drop j (n ∷ rest))))) (sym skipped)

-- ---- an operation's mark among those of a stretch of its hart's list

pub slice_get-drop : (n : ℕ) (items : List Item) (k : ℕ) → slice_get (drop n items) k ≡ slice_get items (n + k)
slice_get-drop zero items k = ap (slice_get items) (omega arith)
slice_get-drop (suc n) [] k = refl
slice_get-drop (suc n) (m ∷ rest) k =
    let next : suc n + k ≡ suc (n + k) = omega arith in
    slice_get-drop n rest k ∙ ap (slice_get (m ∷ rest)) (sym next)

pub slice_get-take : (n : ℕ) (items : List Item) (k : ℕ) → k < n → slice_get (take n items) k ≡ slice_get items k
slice_get-take zero items k h = absurd (omega (arith, h))
slice_get-take (suc n) [] k h = refl
slice_get-take (suc n) (m ∷ rest) zero h = refl
slice_get-take (suc n) (m ∷ rest) (suc k) h = slice_get-take n rest k (omega (arith, h))

rest_of_stretch : (items : List Item) (low : ℕ) (a b : Operation) → IsPlaced 0 items → low ≤ a.place → a.place < b.place → drop (a.place - low + 1) (take (b.place - low) (drop low items)) ≡ between items a b
rest_of_stretch items low a b p h k =
    let count : b.place - low ≡ a.place - low + 1 + (b.place - (a.place + 1)) = omega (arith, h, k) in
    let skipped : low + (a.place - low + 1) ≡ a.place + 1 = omega (arith, h) in
    ap (λ (n : ℕ). drop (a.place - low + 1) (take n (drop low items))) count
    ∙ (drop-take (a.place - low + 1) (b.place - (a.place + 1)) (drop low items)
    ∙ (ap (take (b.place - (a.place + 1))) (drop-drop (a.place - low + 1) low items ∙ ap (λ (n : ℕ). drop n items) skipped) ∙ between_cut items a b p))

item_in_stretch : (items : List Item) (low high place : ℕ) → low ≤ place → place < high → slice_get (take (high - low) (drop low items)) (place - low) ≡ slice_get items place
item_in_stretch items low high place h k =
    let inside : low + (place - low) ≡ place = omega (arith, h) in
    slice_get-take (high - low) (drop low items) (place - low) (omega (arith, h, k)) ∙ (slice_get-drop low items (place - low) ∙ ap (slice_get items) inside)

pub mark_of : (asks : Item → List ℕ) (last : List ℕ) (items : List Item) (low : ℕ) (a b : Operation) → IsPlaced 0 items → low ≤ a.place → a.place < b.place → a.place < length items
    → slice_get (marks_of asks last (take (b.place - low) (drop low items))) (a.place - low) ≡ Some (gives_wanted (uses_at items a) (wanted_from asks last (between items a b)))
mark_of asks last items low a b p h k l = go (slice_get items a.place) refl
  where
    go : (o : Option Item) → slice_get items a.place ≡ o → slice_get (marks_of asks last (take (b.place - low) (drop low items))) (a.place - low) ≡ Some (gives_wanted (uses_in (instr_in o)) (wanted_from asks last (between items a b)))
    go None e = absurd (none-some (get_or items a.place nobody) (sym e ∙ slice_get-get_or items a.place nobody l))
      where
        nobody : Item
        nobody = record { place = 0; instr = None; operation = None }
    go (Some m) e =
        mark_at asks last (take (b.place - low) (drop low items)) (a.place - low) m (item_in_stretch items low b.place a.place h k ∙ e)
        ∙ ap (λ (ms : List Item). Some (gives_wanted (uses_in m.instr) (wanted_from asks last ms))) (rest_of_stretch items low a b p h k)

nothing_given : (wanted : List ℕ) → list_any (is_written []) wanted ≡ false
nothing_given [] = refl
nothing_given (r ∷ rest) = rw (and_right (nat_lt r 32) false refl) (nothing_given rest)

pub mark_or : (asks : Item → List ℕ) (last : List ℕ) (items : List Item) (low : ℕ) (a b : Operation) → IsPlaced 0 items → low ≤ a.place → a.place < b.place
    → slice_index_or (marks_of asks last (take (b.place - low) (drop low items))) (a.place - low) false ≡ gives_wanted (uses_at items a) (wanted_from asks last (between items a b))
mark_or asks last items low a b p h k = ⊎_elim inside past (cases_lt a.place (length items))
  where
    marks : List Bool
    marks = marks_of asks last (take (b.place - low) (drop low items))

    inside : a.place < length items → slice_index_or marks (a.place - low) false ≡ gives_wanted (uses_at items a) (wanted_from asks last (between items a b))
    inside l = get_or_from_slice_get marks (a.place - low) (gives_wanted (uses_at items a) (wanted_from asks last (between items a b))) false (mark_of asks last items low a b p h k l)

    past : length items ≤ a.place → slice_index_or marks (a.place - low) false ≡ gives_wanted (uses_at items a) (wanted_from asks last (between items a b))
    past l =
        let counted = marks_count asks last (take (b.place - low) (drop low items)) in
        let taken = length-take (b.place - low) (drop low items) in
        let dropped = length-drop low items in
        get_or_past marks (a.place - low) false (omega (arith, counted, taken, dropped, l))
        ∙ sym (ap (λ (o : Option Item). gives_wanted (uses_in (instr_in o)) (wanted_from asks last (between items a b))) (slice_get_past items a.place l) ∙ nothing_given (wanted_from asks last (between items a b)))
