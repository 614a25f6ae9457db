-- Numbers of messages by hart and of all harts together: where they agree for each hart, and no answer came too many, they agree together, and the other way round.
use Rattle.std.proofs.Common.{ℕ, zero, suc, ◌+◌, ◌<◌, ◌≤◌, Bool, true, false, List, [], ◌∷◌, ◌++◌, ◌≡◌, refl, ap, cond, sym, ◌∙◌, length}
use Rattle.std.specs.Prelude.{◌==◌, ◌&&◌, not, filter}
use Rattle.std.specs.List.{list_all}
use Rattle.std.proofs.lemmas.Bool.Decides.{eqb_tells}
use mathlib.Core.Logic.{◌⊎◌, inl, inr}
use native.Mathlib.Omega.{arith}
use Rattle.machine_model.specs.LawfulLog.{concerns, is_of_line, is_sent, is_settled, is_settled_for_all, sent_count, taken_count}
use Rattle.machine_model.proofs.log.Counts.{bit}
use Rattle.std.proofs.lemmas.Bool.{and_from, and_parts, eq-eqb, eqb-true}
use Rattle.tl_types.specs.declared.message.Body.{Body}
use Rattle.trace_recorder.specs.declared.logged.Logged.{Logged}

-- each entry is of one of the first harts
abbrev pub AreBelow : ℕ → List Logged → Type 0
AreBelow n [] = Unit {0}
AreBelow n (e ∷ log) = (e.hart < n) × AreBelow n log

pub below_more : (n : ℕ) (log : List Logged) (e : Logged) → AreBelow n log → e.hart < n → AreBelow n (log ++ e ∷ [])
below_more n [] e below in_e = (in_e, tt)
below_more n (x ∷ log) e below in_e = (below.0, below_more n log e below.1 in_e)

-- ---- sums over the first harts

abbrev sum_to : ℕ → (ℕ → ℕ) → ℕ
sum_to zero f = 0
sum_to (suc n) f = sum_to n f + f n

sum_none : (n : ℕ) (f : ℕ → ℕ) → ((k : ℕ) → k < n → f k ≡ 0) → sum_to n f ≡ 0
sum_none zero f none = refl
sum_none (suc n) f none =
    let a : sum_to n f ≡ 0 = sum_none n f (λ k lt. none k (omega arith)) in
    let b : f n ≡ 0 = none n (omega arith) in
    omega (arith, a, b)

sum_plus : (n : ℕ) (f g : ℕ → ℕ) → sum_to n (λ k. f k + g k) ≡ sum_to n f + sum_to n g
sum_plus zero f g = omega arith
sum_plus (suc n) f g = let a : sum_to n (λ k. f k + g k) ≡ sum_to n f + sum_to n g = sum_plus n f g in omega (arith, a)

sum_one : (n : ℕ) (f : ℕ → ℕ) (h : ℕ) → h < n → ((k : ℕ) → (h ≡ k → ⊥) → f k ≡ 0) → sum_to n f ≡ f h
sum_one zero f h in_h none = absurd (omega arith)
sum_one (suc n) f h in_h none = go (λ lt. sum_one n f h lt none) (eqb_tells h n)
  where
    go : (h < n → sum_to n f ≡ f h) → (((h == n) ≡ true) × (h ≡ n)) ⊎ (((h == n) ≡ false) × (h ≡ n → ⊥)) → sum_to n f + f n ≡ f h
    go rest (inl e) =
        let a : sum_to n f ≡ 0 = sum_none n f (λ k lt. none k (λ s. omega (arith, s, e.1, lt))) in
        let b : f n ≡ f h = ap f (sym e.1) in
        omega (arith, a, b)
    go rest (inr e) =
        let a : sum_to n f ≡ f h = rest (omega (arith, in_h, e.1)) in
        let b : f n ≡ 0 = none n e.1 in
        omega (arith, a, b)

sum_same : (n : ℕ) (f g : ℕ → ℕ) → ((k : ℕ) → k < n → f k ≡ g k) → sum_to n f ≡ sum_to n g
sum_same zero f g same = refl
sum_same (suc n) f g same =
    let a : sum_to n f ≡ sum_to n g = sum_same n f g (λ k lt. same k (omega arith)) in
    let b : f n ≡ g n = same n (omega arith) in
    omega (arith, a, b)

-- ---- entries by hart

module _ (x y z : Logged → Bool) where
  abbrev of_all : List Logged → ℕ
  of_all log = length (filter (λ (e : Logged). x e && y e && z e) log)

  abbrev of_hart : List Logged → ℕ → ℕ
  of_hart log k = length (filter (λ (e : Logged). x e && (e.hart == k && y e) && z e) log)

  step : (e : Logged) (F : List Logged) (t : Bool) → length (cond t (e ∷ F) F) ≡ bit t + length F
  step e F true = omega arith
  step e F false = omega arith

  own : (e : Logged) → bit (x e && (e.hart == e.hart && y e) && z e) ≡ bit (x e && y e && z e)
  own e = rw (eq-eqb e.hart e.hart refl) refl

  other : (e : Logged) (k : ℕ) → (e.hart ≡ k → ⊥) → bit (x e && (e.hart == k && y e) && z e) ≡ 0
  other e k ne = go (eqb_tells e.hart k)
    where
      off : (a : Bool) → bit (a && (false && y e) && z e) ≡ 0
      off true = refl
      off false = refl

      go : (((e.hart == k) ≡ true) × (e.hart ≡ k)) ⊎ (((e.hart == k) ≡ false) × (e.hart ≡ k → ⊥)) → bit (x e && (e.hart == k && y e) && z e) ≡ 0
      go (inl f) = absurd (ne f.1)
      go (inr f) = rw f.0 (off (x e))

  spread : (n : ℕ) (log : List Logged) → AreBelow n log → of_all log ≡ sum_to n (of_hart log)
  spread n [] below = sym (sum_none n (of_hart []) (λ k lt. refl))
  spread n (e ∷ log) below =
      let rest : of_all log ≡ sum_to n (of_hart log) = spread n log below.1 in
      let f : ℕ → ℕ = λ k. bit (x e && (e.hart == k && y e) && z e) in
      let here : sum_to n f ≡ bit (x e && y e && z e) = sum_one n f e.hart below.0 (other e) ∙ own e in
      let plus : sum_to n (λ k. f k + of_hart log k) ≡ sum_to n f + sum_to n (of_hart log) = sum_plus n f (of_hart log) in
      let all : sum_to n (of_hart (e ∷ log)) ≡ sum_to n (λ k. f k + of_hart log k) = sum_same n _ _ (λ k lt. step e (filter (λ (e : Logged). x e && (e.hart == k && y e) && z e) log) (x e && (e.hart == k && y e) && z e)) in
      let first : of_all (e ∷ log) ≡ bit (x e && y e && z e) + of_all log = step e (filter (λ (e : Logged). x e && y e && z e) log) (x e && y e && z e) in
      omega (arith, rest, here, plus, all, first)

-- ---- a test of every hart that entries name

all_of : (f : ℕ → Bool) (n : ℕ) (log : List Logged) → AreBelow n log → ((k : ℕ) → k < n → f k ≡ true) → list_all (λ (e : Logged). f e.hart) log ≡ true
all_of f n [] below each = refl
all_of f n (e ∷ log) below each = and_from _ _ (each e.hart below.0) (all_of f n log below.1 each)

pub settled_by_all : (question answer : Body → Bool) (n l : ℕ) (log : List Logged) → AreBelow n log → ((k : ℕ) → k < n → sent_count question (concerns k l) log ≡ taken_count answer (concerns k l) log) → is_settled_for_all question answer l log ≡ true
settled_by_all question answer n l log below each = all_of (λ k. is_settled question answer (concerns k l) log) n log below (λ k in_k. eq-eqb _ _ (each k in_k))

-- no entry is of this hart
abbrev NoneOf : ℕ → List Logged → Type 0
NoneOf k [] = Unit {0}
NoneOf k (e ∷ log) = (e.hart ≡ k → ⊥) × NoneOf k log

-- what holds of every hart that entries name holds of a hart, or none is of it
named : (f : ℕ → Bool) (k : ℕ) (log : List Logged) → list_all (λ (e : Logged). f e.hart) log ≡ true → (f k ≡ true) ⊎ NoneOf k log
named f k [] all = inr tt
named f k (e ∷ log) all = go (eqb_tells e.hart k) (named f k log (and_parts _ _ all).1)
  where
    go : (((e.hart == k) ≡ true) × (e.hart ≡ k)) ⊎ (((e.hart == k) ≡ false) × (e.hart ≡ k → ⊥)) → (f k ≡ true) ⊎ NoneOf k log → (f k ≡ true) ⊎ NoneOf k (e ∷ log)
    go (inl is) rest = inl (ap f (sym is.1) ∙ (and_parts _ _ all).0)
    go (inr is) (inl rest) = inl rest
    go (inr is) (inr rest) = inr (is.1, rest)

module _ (x y z : Logged → Bool) where
  none_counted : (k : ℕ) (log : List Logged) → NoneOf k log → of_hart x y z log k ≡ 0
  none_counted k [] none = refl
  none_counted k (e ∷ log) none =
      let rest : of_hart x y z log k ≡ 0 = none_counted k log none.1 in
      let off : bit (x e && (e.hart == k && y e) && z e) ≡ 0 = other x y z e k none.0 in
      let first = step x y z e (filter (λ (e : Logged). x e && (e.hart == k && y e) && z e) log) (x e && (e.hart == k && y e) && z e) in
      omega (arith, rest, off, first)

-- ---- sums that agree, of numbers of which none is above its other

sum_low : (n : ℕ) (f g : ℕ → ℕ) → ((k : ℕ) → f k ≤ g k) → sum_to n f ≤ sum_to n g
sum_low zero f g low = omega arith
sum_low (suc n) f g low = let a = sum_low n f g low in let b = low n in omega (arith, a, b)

sum_tight : (n : ℕ) (f g : ℕ → ℕ) → ((k : ℕ) → f k ≤ g k) → sum_to n g ≡ sum_to n f → (k : ℕ) → k < n → g k ≡ f k
sum_tight zero f g low same k in_k = absurd (omega (arith, in_k))
sum_tight (suc n) f g low same k in_k =
    let a : sum_to n f ≤ sum_to n g = sum_low n f g low in
    let b : f n ≤ g n = low n in
    let last : g n ≡ f n = omega (arith, a, b, same) in
    let rest : sum_to n g ≡ sum_to n f = omega (arith, a, b, same) in
    go last (λ in_n. sum_tight n f g low rest k in_n) (eqb_tells k n)
  where
    go : g n ≡ f n → (k < n → g k ≡ f k) → (((k == n) ≡ true) × (k ≡ n)) ⊎ (((k == n) ≡ false) × (k ≡ n → ⊥)) → g k ≡ f k
    go last rest (inl is) = ap g is.1 ∙ (last ∙ ap f (sym is.1))
    go last rest (inr is) = rest (omega (arith, in_k, is.1))

-- ---- the numbers of all harts together agree exactly where those of every hart do

abbrev top : List Logged → ℕ
top [] = 0
top (e ∷ log) = suc e.hart + top log

below_up : (m n : ℕ) (log : List Logged) → m ≤ n → AreBelow m log → AreBelow n log
below_up m n [] le below = tt
below_up m n (e ∷ log) le below = (omega (arith, le, below.0), below_up m n log le below.1)

below_top : (log : List Logged) → AreBelow (top log) log
below_top [] = tt
below_top (e ∷ log) = (omega arith, below_up (top log) (suc e.hart + top log) log (omega arith) (below_top log))

same_by : (a b : Bool) → (a ≡ true → b ≡ true) → (b ≡ true → a ≡ true) → a ≡ b
same_by true b there back = sym (there refl)
same_by false true there back = back refl
same_by false false there back = refl

pub sums_settle : (question answer : Body → Bool) (l : ℕ) (log : List Logged) → ((k : ℕ) → taken_count answer (concerns k l) log ≤ sent_count question (concerns k l) log)
    → is_settled question answer (is_of_line l) log ≡ is_settled_for_all question answer l log
sums_settle question answer l log low = same_by _ _ there back
  where
    n : ℕ
    n = top log

    asked : ℕ → ℕ
    asked k = sent_count question (concerns k l) log

    answered : ℕ → ℕ
    answered k = taken_count answer (concerns k l) log

    all_asked : sent_count question (is_of_line l) log ≡ sum_to n asked
    all_asked = spread (λ e. is_sent e.direction) (is_of_line l) (λ e. question e.message.body) n log (below_top log)

    all_answered : taken_count answer (is_of_line l) log ≡ sum_to n answered
    all_answered = spread (λ e. not (is_sent e.direction)) (is_of_line l) (λ e. answer e.message.body) n log (below_top log)

    there : is_settled question answer (is_of_line l) log ≡ true → is_settled_for_all question answer l log ≡ true
    there t = settled_by_all question answer n l log (below_top log) (sum_tight n answered asked low (sym all_asked ∙ (eqb-true _ _ t ∙ all_answered)))

    each : is_settled_for_all question answer l log ≡ true → (k : ℕ) → asked k ≡ answered k
    each t k = go (named (λ k. is_settled question answer (concerns k l) log) k log t)
      where
        go : (is_settled question answer (concerns k l) log ≡ true) ⊎ NoneOf k log → asked k ≡ answered k
        go (inl is) = eqb-true _ _ is
        go (inr none) = none_counted (λ e. is_sent e.direction) (is_of_line l) (λ e. question e.message.body) k log none ∙ sym (none_counted (λ e. not (is_sent e.direction)) (is_of_line l) (λ e. answer e.message.body) k log none)

    back : is_settled_for_all question answer l log ≡ true → is_settled question answer (is_of_line l) log ≡ true
    back t = eq-eqb _ _ (all_asked ∙ (sum_same n asked answered (λ k in_k. each t k) ∙ sym all_answered))
