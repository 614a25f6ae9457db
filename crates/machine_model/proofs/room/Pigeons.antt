-- Pigeonholes: messages whose lines stand no more often than in some sets of lines are no more than the sets have lines together.
use Rattle.std.proofs.Common.{ℕ, zero, suc, ◌+◌, ◌-◌, Bool, true, false, cond, List, [], ◌∷◌, ◌≡◌, ◌<◌, ◌≤◌, refl, ap, sym, ◌∙◌, length}
use Rattle.std.specs.Prelude.{◌==◌, if◌then◌else◌}
use Rattle.std.specs.Cmp.{nat_cmp_total}
use Rattle.std.specs.Ordering.{nat_cmp}
use Rattle.std.specs.FinSet as set
use Rattle.std.specs.FinSet.{FinSet}
use Rattle.std.proofs.lemmas.Bool.{eq-eqb}
use Rattle.std.proofs.lemmas.Bool.Decides.{eqb_tells}
use mathlib.Core.Logic.{◌⊎◌, inl, inr}
use native.Mathlib.Omega.{arith}
use Rattle.client_cache.proofs.AtLines.{remove_other}
use Rattle.machine_model.proofs.coherence.LineViews.{of_line}
use Rattle.tl_types.specs.declared.message.Msg.{Msg}

abbrev pub one : Bool → ℕ
one true = 1
one false = 0

-- how many of the sets have a line, and how many lines they have together
abbrev pub times : ℕ → List (FinSet nat_cmp) → ℕ
times l [] = 0
times l (s ∷ ss) = one (set.contains s l) + times l ss

abbrev pub sizes : List (FinSet nat_cmp) → ℕ
sizes [] = 0
sizes (s ∷ ss) = set.len s + sizes ss

-- the line leaves the first of the sets that has it
without : ℕ → List (FinSet nat_cmp) → List (FinSet nat_cmp)
without l [] = []
without l (s ∷ ss) = if set.contains s l then set.remove s l ∷ ss else s ∷ without l ss

at_most_one : (t : Bool) → one t ≤ 1
at_most_one true = omega arith
at_most_one false = omega arith

times-without : (l : ℕ) (ss : List (FinSet nat_cmp)) (q : ℕ) → times q ss ≤ times q (without l ss) + one (l == q)
unfolding without
times-without l [] q = omega arith
times-without l (s ∷ ss) q = go (set.contains s l) (eqb_tells l q) (times-without l ss q)
  where
    go : (t : Bool) → (((l == q) ≡ true) × (l ≡ q)) ⊎ (((l == q) ≡ false) × (l ≡ q → ⊥)) → times q ss ≤ times q (without l ss) + one (l == q) →
        one (set.contains s q) + times q ss ≤ times q (if t then set.remove s l ∷ ss else s ∷ without l ss) + one (l == q)
    go true (inl e) ih = let few : one (set.contains s q) ≤ 1 = at_most_one (set.contains s q) in rw e.0 (omega (arith, few))
    go true (inr e) ih = rw (remove_other s l q (λ f. e.1 (sym f))) (omega arith)
    go false e ih = omega (arith, ih)

holds_some : (s : FinSet nat_cmp) (l : ℕ) → set.contains s l ≡ true → 0 < set.len s
holds_some s l e = go (set.len s) refl
  where
    go : (n : ℕ) → set.len s ≡ n → 0 < n
    go zero f = absurd (cc (e, set.contains-empty nat_cmp l, ap (λ (x : FinSet nat_cmp). set.contains x l) (set.empty_of_len s f)))
    go (suc n) f = omega arith

sizes-without : (l : ℕ) (ss : List (FinSet nat_cmp)) → 0 < times l ss → sizes ss ≡ sizes (without l ss) + 1
unfolding without
sizes-without l [] lt = absurd (omega (arith, lt))
sizes-without l (s ∷ ss) lt = go (set.contains s l) refl lt (λ p. sizes-without l ss p)
  where
    go : (t : Bool) → set.contains s l ≡ t → 0 < one t + times l ss → (0 < times l ss → sizes ss ≡ sizes (without l ss) + 1) → set.len s + sizes ss ≡ sizes (if t then set.remove s l ∷ ss else s ∷ without l ss) + 1
    go true f lt ih =
        let some : 0 < set.len s = holds_some s l f in
        let less : set.len (set.remove s l) ≡ set.len s - 1 = set.len-remove nat_cmp_total s l ∙ ap (λ t. cond t (set.len s - 1) (set.len s)) f in
        omega (arith, some, less)
    go false f lt ih = let e : sizes ss ≡ sizes (without l ss) + 1 = ih (omega (arith, lt)) in omega (arith, e)

pub no_more : (ms : List Msg) (ss : List (FinSet nat_cmp)) → ((q : ℕ) → length (of_line q ms) ≤ times q ss) → length ms ≤ sizes ss
no_more [] ss le = omega arith
no_more (m ∷ ms) ss le =
    let here : length (if m.line == m.line then m.body ∷ of_line m.line ms else of_line m.line ms) ≤ times m.line ss = le m.line in
    let more : length (m.body ∷ of_line m.line ms) ≤ times m.line ss = rw (eq-eqb m.line m.line refl) at here in
    let some : 0 < times m.line ss = omega (arith, more) in
    let rest : length ms ≤ sizes (without m.line ss) = no_more ms (without m.line ss) (λ q. fewer q (m.line == q) (le q) (times-without m.line ss q)) in
    let e : sizes ss ≡ sizes (without m.line ss) + 1 = sizes-without m.line ss some in
    omega (arith, rest, e)
  where
    fewer : (q : ℕ) (t : Bool) → length (if t then m.body ∷ of_line q ms else of_line q ms) ≤ times q ss → times q ss ≤ times q (without m.line ss) + one t → length (of_line q ms) ≤ times q (without m.line ss)
    fewer q true a b = omega (arith, a, b)
    fewer q false a b = omega (arith, a, b)
