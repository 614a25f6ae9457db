-- What a walk carries in a register is at least the weight of each operation that what the register holds came from.
use Rattle.std.proofs.Common.{◌≡◌, ℕ, subst, ◌<◌, ◌≤◌, max, List, [], ◌∷◌, ◌++◌, Bool, true, false, Option, Some, None, refl, cond, sym, ap, ◌∙◌, ◌&&◌, ◌||◌, ⊎_elim, arith, take, length, set, replicate}
use Rattle.std.specs.Prelude.{slice_get, slice_index_or}
use Rattle.std.proofs.lemmas.Bool.{and_parts, cases_eq, cases_lt, true≢false}
use Rattle.std.proofs.lemmas.Grind.{get_or-set_at}
use Rattle.std.proofs.lemmas.List.{get_or-set_other, get_or_past, length-set, length-replicate}
use Rattle.rv32_decode.specs.declared.instruction.Instr.{Instr}
use Rattle.hart.specs.Uses.{Uses, uses_of}
use Rattle.memory_model.specs.declared.operation.Operation.{Operation}
use Rattle.memory_model.specs.Dependencies.{any_addresses, any_steers, between, has_address_dependency, has_control_dependency, has_data_dependency, has_dependent_address_between, held_after, held_at, held_behind, held_first, holds, instr_in, sources, steers, uses_at, uses_in, with_flags}
use Rattle.memory_model.specs.Items.{Item}
use Rattle.memory_model.specs.Operations.{precedes}
use Rattle.rvwmo_order.specs.Carried.{carried_after, carried_behind, greatest, nothing_carried, with_each}
use Rattle.trace_operations.specs.Placed.{IsPlaced}
use Rattle.rvwmo_order.specs.declared.bounds.carried.Carried.{Carried}
use Rattle.rvwmo_order.proofs.Parted.{parted}
use Rattle.rvwmo_order.proofs.Flags.{length-held_first, length-with_flags, no_flag}

pub greatest_append : (weights xs ys : List ℕ) → greatest weights (xs ++ ys) ≡ max (greatest weights xs) (greatest weights ys)
greatest_append weights [] ys = omega arith
greatest_append weights (x ∷ rest) ys = let ih = greatest_append weights rest ys in omega (arith, ih)

-- each register that holds it has at least this weight
abbrev pub Covers : List ℕ → List Bool → ℕ → Type 0
Covers weights held n = (r : ℕ) → slice_index_or held r false ≡ true → n ≤ slice_index_or weights r 0

covers_greatest : (weights : List ℕ) (held : List Bool) (n : ℕ) (rs : List ℕ) → Covers weights held n → holds held rs ≡ true → n ≤ greatest weights rs
covers_greatest weights held n [] f e = absurd (true≢false (sym e))
covers_greatest weights held n (r ∷ rest) f e = go (slice_index_or held r false) refl e (covers_greatest weights held n rest f)
  where
    go : (b : Bool) → slice_index_or held r false ≡ b → (b || holds held rest) ≡ true → (holds held rest ≡ true → n ≤ greatest weights rest) → n ≤ max (slice_index_or weights r 0) (greatest weights rest)
    go true h e ih = let l = f r h in omega (arith, l)
    go false h e ih = let l = ih e in omega (arith, l)

-- ---- one instruction

length-with_each : (weights : List ℕ) (v : ℕ) (written : List ℕ) → length (with_each weights v written) ≡ length weights
length-with_each weights v [] = refl
length-with_each weights v (w ∷ rest) = length-with_each (set weights w v) v rest ∙ length-set weights w v

covers_set : (weights : List ℕ) (held : List Bool) (n v w : ℕ) (flag : Bool) → length held ≡ length weights → Covers weights held n → (flag ≡ true → n ≤ v) → Covers (set weights w v) (set held w flag) n
covers_set weights held n v w flag h f g r e = ⊎_elim same other (cases_eq r w)
  where
    inside : r ≡ w → r < length held → n ≤ slice_index_or (set weights w v) r 0
    inside i l =
        let flagged : slice_index_or (set held w flag) r false ≡ flag = get_or-set_at held w r flag false i (omega (arith, i, l)) in
        let weighed : slice_index_or (set weights w v) r 0 ≡ v = get_or-set_at weights w r v 0 i (omega (arith, i, l, h)) in
        let at_most = g (sym flagged ∙ e) in
        omega (arith, weighed, at_most)

    past : length held ≤ r → n ≤ slice_index_or (set weights w v) r 0
    past l = absurd (true≢false (sym e ∙ get_or_past (set held w flag) r false (let k = length-set held w flag in omega (arith, k, l))))

    same : r ≡ w → n ≤ slice_index_or (set weights w v) r 0
    same i = ⊎_elim (λ l. inside i l) (λ l. past l) (cases_lt r (length held))

    other : (r ≡ w → ⊥) → n ≤ slice_index_or (set weights w v) r 0
    other i =
        let kept : slice_index_or (set weights w v) r 0 ≡ slice_index_or weights r 0 = get_or-set_other weights w r v 0 i in
        let at_most = f r (sym (get_or-set_other held w r flag false i) ∙ e) in
        omega (arith, kept, at_most)

covers_each : (weights : List ℕ) (held : List Bool) (n v : ℕ) (flag : Bool) (written : List ℕ) → length held ≡ length weights → Covers weights held n → (flag ≡ true → n ≤ v) → Covers (with_each weights v written) (with_flags held flag written) n
covers_each weights held n v flag [] h f g = f
covers_each weights held n v flag (w ∷ rest) h f g =
    covers_each (set weights w v) (set held w flag) n v flag rest (length-set held w flag ∙ (h ∙ sym (length-set weights w v))) (covers_set weights held n v w flag h f g) g

length-after : (own : ℕ) (instr : Option Instr) (c : Carried) → length (carried_after own instr c).registers ≡ length c.registers
length-after own None c = refl
length-after own (Some i) c = length-with_each c.registers (max (greatest c.registers (sources (uses_of i))) own) (uses_of i).written

covers_after : (own : ℕ) (instr : Option Instr) (c : Carried) (held : List Bool) (n : ℕ) → length held ≡ length c.registers → Covers c.registers held n → Covers (carried_after own instr c).registers (held_after held (uses_in instr)) n
covers_after own None c held n h f = f
covers_after own (Some i) c held n h f =
    covers_each c.registers held n (max (greatest c.registers (sources (uses_of i))) own) (holds held (sources (uses_of i))) (uses_of i).written h f
    (λ e. let l = covers_greatest c.registers held n (sources (uses_of i)) f e in omega (arith, l))

covers_first : (own : ℕ) (instr : Option Instr) (c : Carried) → length c.registers ≡ 32 → Covers (carried_after own instr c).registers (held_first (uses_in instr)) own
covers_first own None c h = λ r e. absurd (true≢false (sym e ∙ no_flag r))
covers_first own (Some i) c h =
    covers_each c.registers (replicate 32 false) own (max (greatest c.registers (sources (uses_of i))) own) true (uses_of i).written (length-replicate 32 false ∙ sym h) (λ r e. absurd (true≢false (sym e ∙ no_flag r))) (λ e. omega arith)

-- ---- a list of instructions

pub carried_append : (own : Item → ℕ) (c : Carried) (xs ys : List Item) → carried_behind own c (xs ++ ys) ≡ carried_behind own (carried_behind own c xs) ys
carried_append own c [] ys = refl
carried_append own c (x ∷ rest) ys = carried_append own (carried_after (own x) x.instr c) rest ys

length-behind : (own : Item → ℕ) (c : Carried) (ms : List Item) → length (carried_behind own c ms).registers ≡ length c.registers
length-behind own c [] = refl
length-behind own c (m ∷ rest) = length-behind own (carried_after (own m) m.instr c) rest ∙ length-after (own m) m.instr c

length-held : (held : List Bool) (instr : Option Instr) (c : Carried) (own : ℕ) → length held ≡ length c.registers → length (held_after held (uses_in instr)) ≡ length (carried_after own instr c).registers
length-held held instr c own h = length-with_flags held (holds held (sources (uses_in instr))) (uses_in instr).written ∙ (h ∙ sym (length-after own instr c))

covers_behind : (own : Item → ℕ) (c : Carried) (held : List Bool) (n : ℕ) (ms : List Item) → length held ≡ length c.registers → Covers c.registers held n → Covers (carried_behind own c ms).registers (held_behind held ms) n
covers_behind own c held n [] h f = f
covers_behind own c held n (m ∷ rest) h f =
    covers_behind own (carried_after (own m) m.instr c) (held_after held (uses_in m.instr)) n rest (length-held held m.instr c (own m) h) (covers_after (own m) m.instr c held n h f)

-- what steered or addressed is never forgotten
steered_kept : (own : ℕ) (instr : Option Instr) (c : Carried) → c.steered ≤ (carried_after own instr c).steered
steered_kept own None c = omega arith
steered_kept own (Some i) c = go (steers (Some i))
  where
    go : (b : Bool) → c.steered ≤ cond b (max c.steered (greatest c.registers (sources (uses_of i)))) c.steered
    go true = omega arith
    go false = omega arith

steered_grows : (own : Item → ℕ) (c : Carried) (ms : List Item) → c.steered ≤ (carried_behind own c ms).steered
steered_grows own c [] = omega arith
steered_grows own c (m ∷ rest) = let first = steered_kept (own m) m.instr c in let ih = steered_grows own (carried_after (own m) m.instr c) rest in omega (arith, first, ih)

steered_now : (own : ℕ) (instr : Option Instr) (c : Carried) (held : List Bool) (n : ℕ) → Covers c.registers held n → (steers instr && holds held (sources (uses_in instr))) ≡ true → n ≤ (carried_after own instr c).steered
steered_now own None c held n f e = absurd (true≢false (sym e))
steered_now own (Some i) c held n f e = go (steers (Some i)) e
  where
    go : (b : Bool) → (b && holds held (sources (uses_of i))) ≡ true → n ≤ cond b (max c.steered (greatest c.registers (sources (uses_of i)))) c.steered
    go true g = let l = covers_greatest c.registers held n (sources (uses_of i)) f g in omega (arith, l)
    go false g = absurd (true≢false (sym g))

covers_steered : (own : Item → ℕ) (c : Carried) (held : List Bool) (n : ℕ) (ms : List Item) → length held ≡ length c.registers → Covers c.registers held n → any_steers held ms ≡ true → n ≤ (carried_behind own c ms).steered
covers_steered own c held n [] h f e = absurd (true≢false (sym e))
covers_steered own c held n (m ∷ rest) h f e =
    go (steers m.instr && holds held (sources (uses_in m.instr))) refl e (covers_steered own (carried_after (own m) m.instr c) (held_after held (uses_in m.instr)) n rest (length-held held m.instr c (own m) h) (covers_after (own m) m.instr c held n h f))
  where
    after : Carried
    after = carried_after (own m) m.instr c

    go : (b : Bool) → (steers m.instr && holds held (sources (uses_in m.instr))) ≡ b → (b || any_steers (held_after held (uses_in m.instr)) rest) ≡ true → (any_steers (held_after held (uses_in m.instr)) rest ≡ true → n ≤ (carried_behind own after rest).steered) → n ≤ (carried_behind own after rest).steered
    go true k g ih = let now = steered_now (own m) m.instr c held n f k in let later = steered_grows own after rest in omega (arith, now, later)
    go false k g ih = ih g

addressed_kept : (own : ℕ) (instr : Option Instr) (c : Carried) → c.addressed ≤ (carried_after own instr c).addressed
addressed_kept own None c = omega arith
addressed_kept own (Some i) c = omega arith

addressed_grows : (own : Item → ℕ) (c : Carried) (ms : List Item) → c.addressed ≤ (carried_behind own c ms).addressed
addressed_grows own c [] = omega arith
addressed_grows own c (m ∷ rest) = let first = addressed_kept (own m) m.instr c in let ih = addressed_grows own (carried_after (own m) m.instr c) rest in omega (arith, first, ih)

addressed_now : (own : ℕ) (instr : Option Instr) (c : Carried) (held : List Bool) (n : ℕ) → Covers c.registers held n → holds held (uses_in instr).address ≡ true → n ≤ (carried_after own instr c).addressed
addressed_now own None c held n f e = absurd (true≢false (sym e))
addressed_now own (Some i) c held n f e = let l = covers_greatest c.registers held n (uses_of i).address f e in omega (arith, l)

covers_addressed : (own : Item → ℕ) (c : Carried) (held : List Bool) (n : ℕ) (ms : List Item) → length held ≡ length c.registers → Covers c.registers held n → any_addresses held ms ≡ true → n ≤ (carried_behind own c ms).addressed
covers_addressed own c held n [] h f e = absurd (true≢false (sym e))
covers_addressed own c held n (m ∷ rest) h f e =
    go (holds held (uses_in m.instr).address) refl e (covers_addressed own (carried_after (own m) m.instr c) (held_after held (uses_in m.instr)) n rest (length-held held m.instr c (own m) h) (covers_after (own m) m.instr c held n h f))
  where
    after : Carried
    after = carried_after (own m) m.instr c

    go : (b : Bool) → holds held (uses_in m.instr).address ≡ b → (b || any_addresses (held_after held (uses_in m.instr)) rest) ≡ true → (any_addresses (held_after held (uses_in m.instr)) rest ≡ true → n ≤ (carried_behind own after rest).addressed) → n ≤ (carried_behind own after rest).addressed
    go true k g ih = let now = addressed_now (own m) m.instr c held n f k in let later = addressed_grows own after rest in omega (arith, now, later)
    go false k g ih = ih g

-- ---- two operations of a hart's list

abbrev pub carried_at : (Item → ℕ) → List Item → ℕ → Carried
carried_at own items place = carried_behind own nothing_carried (take place items)

-- at the second operation's place the walk has passed the first one's instruction and then those between
passed_both : (own : Item → ℕ) (items : List Item) (a b : Operation) (m : Item) → IsPlaced 0 items → slice_get items a.place ≡ Some m → a.place < b.place
    → carried_at own items b.place ≡ carried_behind own (carried_after (own m) m.instr (carried_at own items a.place)) (between items a b)
passed_both own items a b m p e l = ap (carried_behind own nothing_carried) (parted items a b m p e l) ∙ carried_append own nothing_carried (take a.place items) (m ∷ between items a b)

length-at : (own : Item → ℕ) (items : List Item) (place : ℕ) → length (carried_at own items place).registers ≡ 32
length-at own items place = length-behind own nothing_carried (take place items) ∙ length-replicate {A = ℕ} 32 0

same_length : (own : Item → ℕ) (items : List Item) (a : Operation) (m : Item) → length (held_first (uses_in m.instr)) ≡ length (carried_after (own m) m.instr (carried_at own items a.place)).registers
same_length own items a m = length-held_first (uses_in m.instr) ∙ sym (length-after (own m) m.instr (carried_at own items a.place) ∙ length-at own items a.place)

uses_there : (items : List Item) (a : Operation) (m : Item) → slice_get items a.place ≡ Some m → uses_at items a ≡ uses_in m.instr
uses_there items a m e = ap (λ (o : Option Item). uses_in (instr_in o)) e

covered : (own : Item → ℕ) (items : List Item) (a b : Operation) (m : Item) → IsPlaced 0 items → slice_get items a.place ≡ Some m → a.place < b.place → Covers (carried_at own items b.place).registers (held_at items a b) (own m)
covered own items a b m p e l =
    subst (λ (c : Carried). Covers c.registers (held_at items a b) (own m)) (sym (passed_both own items a b m p e l))
    (subst (λ (u : Uses). Covers (carried_behind own after (between items a b)).registers (held_behind (held_first u) (between items a b)) (own m)) (sym (uses_there items a m e))
    (covers_behind own after (held_first (uses_in m.instr)) (own m) (between items a b) (same_length own items a m) (covers_first (own m) m.instr (carried_at own items a.place) (length-at own items a.place))))
  where
    after : Carried
    after = carried_after (own m) m.instr (carried_at own items a.place)

pub address_covered : (own : Item → ℕ) (items : List Item) (a b : Operation) (m : Item) → IsPlaced 0 items → slice_get items a.place ≡ Some m → a.place < b.place → has_address_dependency items a b ≡ true → own m ≤ greatest (carried_at own items b.place).registers (uses_at items b).address
address_covered own items a b m p e l h = covers_greatest (carried_at own items b.place).registers (held_at items a b) (own m) (uses_at items b).address (covered own items a b m p e l) (and_parts (precedes a b) (holds (held_at items a b) (uses_at items b).address) h).1

pub data_covered : (own : Item → ℕ) (items : List Item) (a b : Operation) (m : Item) → IsPlaced 0 items → slice_get items a.place ≡ Some m → a.place < b.place → has_data_dependency items a b ≡ true → own m ≤ greatest (carried_at own items b.place).registers (uses_at items b).stored
data_covered own items a b m p e l h = covers_greatest (carried_at own items b.place).registers (held_at items a b) (own m) (uses_at items b).stored (covered own items a b m p e l) (and_parts (precedes a b) (holds (held_at items a b) (uses_at items b).stored) h).1

pub control_covered : (own : Item → ℕ) (items : List Item) (a b : Operation) (m : Item) → IsPlaced 0 items → slice_get items a.place ≡ Some m → a.place < b.place → has_control_dependency items a b ≡ true → own m ≤ (carried_at own items b.place).steered
control_covered own items a b m p e l h =
    let steered : any_steers (held_first (uses_in m.instr)) (between items a b) ≡ true = ap (λ (u : Uses). any_steers (held_first u) (between items a b)) (sym (uses_there items a m e)) ∙ (and_parts (precedes a b) (any_steers (held_first (uses_at items a)) (between items a b)) h).1 in
    let at_most = covers_steered own (carried_after (own m) m.instr (carried_at own items a.place)) (held_first (uses_in m.instr)) (own m) (between items a b) (same_length own items a m) (covers_first (own m) m.instr (carried_at own items a.place) (length-at own items a.place)) steered in
    let there = ap (λ (c : Carried). c.steered) (passed_both own items a b m p e l) in
    omega (arith, at_most, there)

pub dependent_address_covered : (own : Item → ℕ) (items : List Item) (a b : Operation) (m : Item) → IsPlaced 0 items → slice_get items a.place ≡ Some m → a.place < b.place → has_dependent_address_between items a b ≡ true → own m ≤ (carried_at own items b.place).addressed
dependent_address_covered own items a b m p e l h =
    let addressed : any_addresses (held_first (uses_in m.instr)) (between items a b) ≡ true = ap (λ (u : Uses). any_addresses (held_first u) (between items a b)) (sym (uses_there items a m e)) ∙ (and_parts (precedes a b) (any_addresses (held_first (uses_at items a)) (between items a b)) h).1 in
    let at_most = covers_addressed own (carried_after (own m) m.instr (carried_at own items a.place)) (held_first (uses_in m.instr)) (own m) (between items a b) (same_length own items a m) (covers_first (own m) m.instr (carried_at own items a.place) (length-at own items a.place)) addressed in
    let there = ap (λ (c : Carried). c.addressed) (passed_both own items a b m p e l) in
    omega (arith, at_most, there)
