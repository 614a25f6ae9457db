-- How many operations a trace has, hart by hart.
use Rattle.std.proofs.Common.{◌≡◌, ◌+◌, ◌<◌, ◌≤◌, ℕ, suc, Bool, true, false, List, [], ◌∷◌, ◌++◌, length, drop, get_or, refl, cond, sym, ap, ◌∙◌, filter, arith}
use Rattle.std.proofs.lemmas.Bool.{le-ltb, lt-ltb}
use Rattle.std.proofs.lemmas.List.{at_drop_more, drop_all, length-append}
use Rattle.std.proofs.lemmas.List.Sums.{count_by-le-length, length-filter}
use Rattle.std.specs.Prelude.{nat_lt}
use Rattle.machine_types.specs.declared.limits.TheConstants.{MAX_ENTRIES}
use Rattle.hart.specs.declared.retired.Retired.{Retired}
use Rattle.memory_model.specs.Items.{has_operation}
use Rattle.memory_model.specs.Traces.{names_from, names_of_harts}
use Rattle.trace_recorder.specs.declared.operation.OpId.{OpId}

named_as_given : (id place : ℕ) (es : List Retired) → length (names_from id place es) ≡ length (filter has_operation es)
named_as_given id place [] = refl
named_as_given id place (entry ∷ rest) = go (has_operation entry) (named_as_given id (place + 1) rest)
  where
    go : (b : Bool) → length (names_from id (place + 1) rest) ≡ length (filter has_operation rest)
        → length (cond b (record { hart = id; place = place } ∷ names_from id (place + 1) rest) (names_from id (place + 1) rest)) ≡ length (cond b (entry ∷ filter has_operation rest) (filter has_operation rest))
    go true ih = ap suc ih
    go false ih = ih

-- the operations from a hart on are its own and those of the harts behind it
pub hart_counted : (id : ℕ) (es : List (List Retired)) → id < length es
    → length (names_of_harts id (drop id es)) ≡ length (filter has_operation (get_or es id [])) + length (names_of_harts (id + 1) (drop (id + 1) es))
hart_counted id es h =
    ap length (at_drop_more (names_of_harts id) es id [] h)
    ∙ (length-append (names_from id 0 (get_or es id [])) (names_of_harts (id + 1) (drop (id + 1) es))
    ∙ ap (λ (n : ℕ). n + length (names_of_harts (id + 1) (drop (id + 1) es))) (named_as_given id 0 (get_or es id [])))

-- no more operations than instructions
pub few_given : (es : List Retired) → length es ≤ MAX_ENTRIES → length (filter has_operation es) ≤ MAX_ENTRIES
few_given es few =
    let a = count_by-le-length has_operation es in
    let e = length-filter has_operation es in
    omega (arith, a, e, few)

-- more than 4,096 up to a hart are more than 4,096 altogether
pub too_many : (count more rest all : ℕ) → count + (more + rest) ≡ all → 4096 < count + more → true ≡ nat_lt 4096 all
too_many count more rest all e l = sym (lt-ltb 4096 all (omega arith))

-- what was named up to the last hart are all
pub few_named : (hart : ℕ) (es : List (List Retired)) (names : List OpId) → length es ≤ hart → names_of_harts 0 es ≡ names ++ names_of_harts hart (drop hart es) → length names ≤ 4096 → nat_lt 4096 (length (names_of_harts 0 es)) ≡ false
few_named hart es names past all few =
    let rest = length-append names (names_of_harts hart (drop hart es)) in
    let none = ap (λ (xs : List (List Retired)). length (names_of_harts hart xs)) (drop_all hart es past) in
    let long = ap length all in
    le-ltb 4096 (length (names_of_harts 0 es)) (omega (arith, rest, none, long, few))

-- ---- those of one hart, one by one

pub counted_next : (es : List Retired) (i count counted total : ℕ) (d : Retired) (found : Bool) → i < length es → found ≡ has_operation (get_or es i d) → found ≡ true → counted ≡ count + 1
    → count + length (filter has_operation (drop i es)) ≡ total → counted + length (filter has_operation (drop (i + 1) es)) ≡ total
counted_next es i count counted total d found h e f g inv =
    let step = ap length (at_drop_more (filter has_operation) es i d h) ∙ ap (λ (b : Bool). length (cond b (get_or es i d ∷ filter has_operation (drop (i + 1) es)) (filter has_operation (drop (i + 1) es)))) (sym e ∙ f) in
    omega (arith, step, g, inv)

pub counted_same : (es : List Retired) (i count counted total : ℕ) (d : Retired) (found : Bool) → i < length es → found ≡ has_operation (get_or es i d) → found ≡ false → counted ≡ count
    → count + length (filter has_operation (drop i es)) ≡ total → counted + length (filter has_operation (drop (i + 1) es)) ≡ total
counted_same es i count counted total d found h e f g inv =
    let step = ap length (at_drop_more (filter has_operation) es i d h) ∙ ap (λ (b : Bool). length (cond b (get_or es i d ∷ filter has_operation (drop (i + 1) es)) (filter has_operation (drop (i + 1) es)))) (sym e ∙ f) in
    omega (arith, step, g, inv)
