-- The flags of registers say what reaches them.
use Rattle.std.proofs.Common.{◌≡◌, ℕ, ◌+◌, ◌<◌, ◌≤◌, List, [], ◌∷◌, ◌++◌, Bool, true, false, refl, cond, sym, ap, ◌∙◌, subst, ◌&&◌, ◌||◌, ◌⊎◌, inl, inr, length}
use Rattle.std.specs.Prelude.{nat_eq, slice_index_or, slice_set, replicate}
use Rattle.std.specs.List.{AllByRecursion as Each, Contains, list_any}
use Rattle.std.proofs.lemmas.Bool.{false≢true, and_parts, and_from, eqb-true, eq-eqb, or_left, or_right, cases_lt}
use Rattle.std.proofs.lemmas.List.{get_or-set_same, get_or-set_other, length-set, append-nil, append_assoc, get_or-replicate}
use Rattle.std.proofs.Math.ListN.{get_or-eq_default}
use Rattle.hart.specs.Uses.{Uses}
use Rattle.memory_model.specs.declared.operation.Operation.{Operation}
use Rattle.memory_model.specs.Operations.{precedes}
use Rattle.memory_model.specs.Items.{Item}
use Rattle.memory_model.specs.Dependencies.{any_addresses, any_steers, between, held_after, held_at, held_behind, held_first, holds, sources, steers, uses_at, uses_in, with_flags}
use Rattle.memory_model.specs.Reaching.{DependencyFormsAgree, Meets, NoneWrites, Reaches, ReachesOne}
use Rattle.memory_model.specs.Reaching.Reaches.{directly, through}
use Rattle.memory_model.proofs.Lists.{Member, Contains-from_Member, Member-from_Contains, Each-append}

abbrev flag : List Bool → ℕ → Bool
flag held r = slice_index_or held r false

-- ---- flags that are set

Member-or : (r : ℕ) (rs : List ℕ) → Member r rs ⊎ (Member r rs → ⊥)
Member-or r [] = inr (λ m. m)
Member-or r (q ∷ rest) = at (nat_eq r q) refl (Member-or r rest)
  where
    at : (b : Bool) → nat_eq r q ≡ b → Member r rest ⊎ (Member r rest → ⊥) → Member r (q ∷ rest) ⊎ (Member r (q ∷ rest) → ⊥)
    at true e other = inl (inl (eqb-true r q e))
    at false e (inl m) = inl (inr m)
    at false e (inr none) = inr neither
      where
        neither : Member r (q ∷ rest) → ⊥
        neither (inl same) = false≢true (sym e ∙ eq-eqb r q same)
        neither (inr m) = none m

with_flags-length : (held : List Bool) (f : Bool) (rs : List ℕ) → length (with_flags held f rs) ≡ length held
with_flags-length held f [] = refl
with_flags-length held f (q ∷ rest) = with_flags-length (slice_set held q f) f rest ∙ length-set held q f

-- a flag that isn't named stays
with_flags-out : (held : List Bool) (f : Bool) (rs : List ℕ) (r : ℕ) → (Member r rs → ⊥) → flag (with_flags held f rs) r ≡ flag held r
with_flags-out held f [] r none = refl
with_flags-out held f (q ∷ rest) r none = with_flags-out (slice_set held q f) f rest r (λ m. none (inr m)) ∙ get_or-set_other held q r f false (λ e. none (inl e))

-- one that is named is set
with_flags-in : (held : List Bool) (f : Bool) (rs : List ℕ) (r : ℕ) → r < length held → Member r rs → flag (with_flags held f rs) r ≡ f
with_flags-in held f [] r within m = absurd m
with_flags-in held f (q ∷ rest) r within m = at (Member-or r rest) m (with_flags-in (slice_set held q f) f rest r (subst (λ n. r < n) (sym (length-set held q f)) within))
  where
    at : Member r rest ⊎ (Member r rest → ⊥) → Member r (q ∷ rest) → (Member r rest → flag (with_flags (slice_set held q f) f rest) r ≡ f) → flag (with_flags (slice_set held q f) f rest) r ≡ f
    at (inl later) m behind = behind later
    at (inr none) (inr later) behind = absurd (none later)
    at (inr none) (inl same) behind = with_flags-out (slice_set held q f) f rest r none ∙ subst (λ p. flag (slice_set held p f) r ≡ f) same (get_or-set_same held r f false within)

-- ---- registers that hold it

holds-from : (held : List Bool) (rs : List ℕ) (q : ℕ) → Member q rs → flag held q ≡ true → holds held rs ≡ true
holds-from held [] q m e = absurd m
holds-from held (r ∷ rest) q (inl same) e = or_left (flag held r) (holds held rest) (subst (λ p. flag held p ≡ true) same e)
holds-from held (r ∷ rest) q (inr m) e = or_right (flag held r) (holds held rest) (holds-from held rest q m e)

record Held (held : List Bool) (rs : List ℕ) : Type 0 where
  register : ℕ
  named : Member register rs
  flagged : flag held register ≡ true

Held-from_holds : (held : List Bool) (rs : List ℕ) → holds held rs ≡ true → Held held rs
Held-from_holds held [] e = absurd (false≢true e)
Held-from_holds held (r ∷ rest) e = at (flag held r) refl (Held-from_holds held rest)
  where
    at : (b : Bool) → flag held r ≡ b → (holds held rest ≡ true → Held held rest) → Held held (r ∷ rest)
    at true f others = record { register = r; named = inl refl; flagged = f }
    at false f others =
        let h = others (subst (λ c. (c || holds held rest) ≡ true) f e) in
        record { register = h.register; named = inr h.named; flagged = h.flagged }

-- ---- thirty-two flags

-- a flag that stands is one of them
flag-within : (held : List Bool) (r : ℕ) → flag held r ≡ true → r < length held
flag-within held r e = at (cases_lt r (length held))
  where
    at : (r < length held) ⊎ (length held ≤ r) → r < length held
    at (inl within) = within
    at (inr beyond) = absurd (false≢true (sym (get_or-eq_default held false beyond) ∙ e))

held_after-length : (held : List Bool) (u : Uses) → length (held_after held u) ≡ length held
held_after-length held u = with_flags-length held (holds held (sources u)) u.written

held_first-length : (u : Uses) → length (held_first u) ≡ 32
held_first-length u = with_flags-length (replicate 32 false) true u.written

held_behind-length : (held : List Bool) (ms : List Item) → length (held_behind held ms) ≡ length held
held_behind-length held [] = refl
held_behind-length held (m ∷ rest) = held_behind-length (held_after held (uses_in m.instr)) rest ∙ held_after-length held (uses_in m.instr)

held_behind-append : (held : List Bool) (xs ys : List Item) → held_behind held (xs ++ ys) ≡ held_behind (held_behind held xs) ys
held_behind-append held [] ys = refl
held_behind-append held (m ∷ rest) ys = held_behind-append (held_after held (uses_in m.instr)) rest ys

-- ---- what is reached is flagged

none-member : (r : ℕ) (m : Item) → (Contains (uses_in m.instr).written r → ⊥) → Member r (uses_in m.instr).written → ⊥
none-member r m none there = none (Contains-from_Member (uses_in m.instr).written r there)

held_behind-unwritten : (held : List Bool) (ms : List Item) (r : ℕ) → NoneWrites r ms → flag (held_behind held ms) r ≡ flag held r
held_behind-unwritten held [] r none = refl
held_behind-unwritten held (m ∷ rest) r none =
    held_behind-unwritten (held_after held (uses_in m.instr)) rest r none.1
    ∙ with_flags-out held (holds held (sources (uses_in m.instr))) (uses_in m.instr).written r (none-member r m none.0)

flagged : (first : Uses) (ms : List Item) (r : ℕ) → Reaches first ms r → flag (held_behind (held_first first) ms) r ≡ true
flagged first ms r (directly _ _ within wrote none) =
    held_behind-unwritten (held_first first) ms r none
    ∙ with_flags-in (replicate 32 false) true first.written r within (Member-from_Contains first.written r wrote)
flagged first _ r (through before m behind q _ reaches reads within wrote none) =
    ap (λ h. flag h r) (held_behind-append (held_first first) before (m ∷ behind))
    ∙ held_behind-unwritten (held_after there (uses_in m.instr)) behind r none
    ∙ with_flags-in there (holds there (sources (uses_in m.instr))) (uses_in m.instr).written r (subst (λ n. r < n) (sym (held_behind-length (held_first first) before ∙ held_first-length first)) within) (Member-from_Contains (uses_in m.instr).written r wrote)
    ∙ holds-from there (sources (uses_in m.instr)) q (Member-from_Contains (sources (uses_in m.instr)) q reads) (flagged first before q reaches)
  where
    there : List Bool
    there = held_behind (held_first first) before

-- ---- what is flagged is reached

reaches-past : (first : Uses) (before : List Item) (m : Item) (r : ℕ) → (Contains (uses_in m.instr).written r → ⊥) → Reaches first before r → Reaches first (before ++ m ∷ []) r
reaches-past first before m r unwritten (directly _ _ within wrote none) =
    directly (before ++ m ∷ []) r within wrote (Each-append (λ (i : Item). Contains (uses_in i.instr).written r → ⊥) before (m ∷ []) none (unwritten, tt))
reaches-past first _ m r unwritten (through front i behind q _ reaches reads within wrote none) =
    subst (λ ms. Reaches first ms r) (sym (append_assoc front (i ∷ behind) (m ∷ [])))
    (through front i (behind ++ m ∷ []) q r reaches reads within wrote (Each-append (λ (j : Item). Contains (uses_in j.instr).written r → ⊥) behind (m ∷ []) none (unwritten, tt)))

reached_after : (first : Uses) (before : List Item) (held : List Bool) (m : Item)
    → length held ≡ 32
    → ((r : ℕ) → flag held r ≡ true → Reaches first before r)
    → (r : ℕ) → flag (held_after held (uses_in m.instr)) r ≡ true → Reaches first (before ++ m ∷ []) r
reached_after first before held m size reaches r e = at (Member-or r (uses_in m.instr).written)
  where
    u : Uses
    u = uses_in m.instr

    within : r < length held
    within = subst (λ n. r < n) (held_after-length held u) (flag-within (held_after held u) r e)

    at : Member r u.written ⊎ (Member r u.written → ⊥) → Reaches first (before ++ m ∷ []) r
    at (inl wrote) =
        let h = Held-from_holds held (sources u) (sym (with_flags-in held (holds held (sources u)) u.written r within wrote) ∙ e) in
        through before m [] h.register r (reaches h.register h.flagged) (Contains-from_Member (sources u) h.register h.named) (subst (λ n. r < n) size within) (Contains-from_Member u.written r wrote) tt
    at (inr unwritten) =
        reaches-past first before m r (λ c. unwritten (Member-from_Contains u.written r c)) (reaches r (sym (with_flags-out held (holds held (sources u)) u.written r unwritten) ∙ e))

reached_from : (first : Uses) (before rest : List Item) (held : List Bool)
    → length held ≡ 32
    → ((r : ℕ) → flag held r ≡ true → Reaches first before r)
    → (r : ℕ) → flag (held_behind held rest) r ≡ true → Reaches first (before ++ rest) r
reached_from first before [] held size reaches r e = subst (λ ms. Reaches first ms r) (sym (append-nil before)) (reaches r e)
reached_from first before (m ∷ rest) held size reaches r e =
    subst (λ ms. Reaches first ms r) (append_assoc before (m ∷ []) rest)
    (reached_from first (before ++ m ∷ []) rest (held_after held (uses_in m.instr)) (held_after-length held (uses_in m.instr) ∙ size) (reached_after first before held m size reaches) r e)

reached_first : (first : Uses) (r : ℕ) → flag (held_first first) r ≡ true → Reaches first [] r
reached_first first r e = at (Member-or r first.written)
  where
    within : r < 32
    within = subst (λ n. r < n) (held_first-length first) (flag-within (held_first first) r e)

    at : Member r first.written ⊎ (Member r first.written → ⊥) → Reaches first [] r
    at (inl wrote) = directly [] r within (Contains-from_Member first.written r wrote) tt
    at (inr unwritten) = absurd (false≢true (sym (get_or-replicate 32 r false false within) ∙ sym (with_flags-out (replicate 32 false) true first.written r unwritten) ∙ e))

reached : (first : Uses) (ms : List Item) (r : ℕ) → flag (held_behind (held_first first) ms) r ≡ true → Reaches first ms r
reached first ms r e = reached_from first [] ms (held_first first) (held_first-length first) (reached_first first) r e

-- ---- the four forms

one-from : (first : Uses) (ms : List Item) (rs : List ℕ) → holds (held_behind (held_first first) ms) rs ≡ true → ReachesOne first ms rs
one-from first ms rs e =
    let h = Held-from_holds (held_behind (held_first first) ms) rs e in
    record { register = h.register; read = Contains-from_Member rs h.register h.named; reaches = reached first ms h.register h.flagged }

holds-from_one : (first : Uses) (ms : List Item) (rs : List ℕ) → ReachesOne first ms rs → holds (held_behind (held_first first) ms) rs ≡ true
holds-from_one first ms rs o = holds-from (held_behind (held_first first) ms) rs o.register (Member-from_Contains rs o.register o.read) (flagged first ms o.register o.reaches)

-- ---- an instruction between that is met

abbrev met : (List Bool → Item → Bool) → List Bool → List Item → Bool
met test held [] = false
met test held (m ∷ rest) = test held m || met test (held_after held (uses_in m.instr)) rest

record MetAt (test : List Bool → Item → Bool) (held : List Bool) (items : List Item) : Type 0 where
  before : List Item
  item : Item
  behind : List Item
  split : items ≡ before ++ item ∷ behind
  passes : test (held_behind held before) item ≡ true

MetAt-from : (test : List Bool → Item → Bool) (held : List Bool) (items : List Item) → met test held items ≡ true → MetAt test held items
MetAt-from test held [] e = absurd (false≢true e)
MetAt-from test held (m ∷ rest) e = at (test held m) refl (MetAt-from test (held_after held (uses_in m.instr)) rest)
  where
    at : (b : Bool) → test held m ≡ b → (met test (held_after held (uses_in m.instr)) rest ≡ true → MetAt test (held_after held (uses_in m.instr)) rest) → MetAt test held (m ∷ rest)
    at true t others = record { before = []; item = m; behind = rest; split = refl; passes = t }
    at false t others =
        let later = others (subst (λ c. (c || met test (held_after held (uses_in m.instr)) rest) ≡ true) t e) in
        record { before = m ∷ later.before; item = later.item; behind = later.behind; split = ap (λ ms. m ∷ ms) later.split; passes = later.passes }

met-at : (test : List Bool → Item → Bool) (held : List Bool) (before : List Item) (m : Item) (behind : List Item) → test (held_behind held before) m ≡ true → met test held (before ++ m ∷ behind) ≡ true
met-at test held [] m behind t = or_left (test held m) (met test (held_after held (uses_in m.instr)) behind) t
met-at test held (i ∷ before) m behind t = or_right (test held i) (met test (held_after held (uses_in i.instr)) (before ++ m ∷ behind)) (met-at test (held_after held (uses_in i.instr)) before m behind t)

abbrev steers_on : List Bool → Item → Bool
steers_on held m = steers m.instr && holds held (sources (uses_in m.instr))

abbrev addresses_by : List Bool → Item → Bool
addresses_by held m = holds held (uses_in m.instr).address

met-steers : (held : List Bool) (items : List Item) → any_steers held items ≡ met steers_on held items
met-steers held [] = refl
met-steers held (m ∷ rest) = ap (λ b. steers_on held m || b) (met-steers (held_after held (uses_in m.instr)) rest)

met-addresses : (held : List Bool) (items : List Item) → any_addresses held items ≡ met addresses_by held items
met-addresses held [] = refl
met-addresses held (m ∷ rest) = ap (λ b. addresses_by held m || b) (met-addresses (held_after held (uses_in m.instr)) rest)

steered : (first : Uses) (items : List Item) → any_steers (held_first first) items ≡ true → Meets first items (λ m. steers m.instr ≡ true) sources
steered first items e =
    let a = MetAt-from steers_on (held_first first) items (sym (met-steers (held_first first) items) ∙ e) in
    let p = and_parts (steers a.item.instr) (holds (held_behind (held_first first) a.before) (sources (uses_in a.item.instr))) a.passes in
    record { before = a.before; met = a.item; behind = a.behind; split = a.split; counts = p.0; reaches = one-from first a.before (sources (uses_in a.item.instr)) p.1 }

steers-from : (first : Uses) (items : List Item) → Meets first items (λ m. steers m.instr ≡ true) sources → any_steers (held_first first) items ≡ true
steers-from first items m =
    met-steers (held_first first) items
    ∙ ap (met steers_on (held_first first)) m.split
    ∙ met-at steers_on (held_first first) m.before m.met m.behind (and_from (steers m.met.instr) (holds (held_behind (held_first first) m.before) (sources (uses_in m.met.instr))) m.counts (holds-from_one first m.before (sources (uses_in m.met.instr)) m.reaches))

addressed : (first : Uses) (items : List Item) → any_addresses (held_first first) items ≡ true → Meets first items (λ m. Unit {0}) (λ u. u.address)
addressed first items e =
    let a = MetAt-from addresses_by (held_first first) items (sym (met-addresses (held_first first) items) ∙ e) in
    record { before = a.before; met = a.item; behind = a.behind; split = a.split; counts = tt; reaches = one-from first a.before (uses_in a.item.instr).address a.passes }

addresses-from : (first : Uses) (items : List Item) → Meets first items (λ m. Unit {0}) (λ u. u.address) → any_addresses (held_first first) items ≡ true
addresses-from first items m =
    met-addresses (held_first first) items
    ∙ ap (met addresses_by (held_first first)) m.split
    ∙ met-at addresses_by (held_first first) m.before m.met m.behind (holds-from_one first m.before (uses_in m.met.instr).address m.reaches)

pub dependency_forms_agree : DependencyFormsAgree
dependency_forms_agree items a b = record {
  address = (
    λ e. let p = and_parts (precedes a b) (holds (held_at items a b) (uses_at items b).address) e in (p.0, one-from first ms (uses_at items b).address p.1),
    λ d. and_from (precedes a b) (holds (held_at items a b) (uses_at items b).address) d.0 (holds-from_one first ms (uses_at items b).address d.1),
  );
  data_stored = (
    λ e. let p = and_parts (precedes a b) (holds (held_at items a b) (uses_at items b).stored) e in (p.0, one-from first ms (uses_at items b).stored p.1),
    λ d. and_from (precedes a b) (holds (held_at items a b) (uses_at items b).stored) d.0 (holds-from_one first ms (uses_at items b).stored d.1),
  );
  control = (
    λ e. let p = and_parts (precedes a b) (any_steers (held_first first) ms) e in (p.0, steered first ms p.1),
    λ d. and_from (precedes a b) (any_steers (held_first first) ms) d.0 (steers-from first ms d.1),
  );
  address_between = (
    λ e. let p = and_parts (precedes a b) (any_addresses (held_first first) ms) e in (p.0, addressed first ms p.1),
    λ d. and_from (precedes a b) (any_addresses (held_first first) ms) d.0 (addresses-from first ms d.1),
  );
}
  where
    first : Uses
    first = uses_at items a

    ms : List Item
    ms = between items a b
