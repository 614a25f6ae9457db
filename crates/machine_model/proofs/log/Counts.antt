-- What one more entry adds to how many messages of a kind stand in a log.
use Rattle.std.proofs.Common.{ℕ, ◌+◌, ◌<◌, ◌≤◌, Bool, true, false, List, [], ◌∷◌, ◌++◌, ◌≡◌, refl, ap, cond, sym, ◌∙◌, subst, length}
use Rattle.std.specs.Prelude.{◌==◌, ◌&&◌, not, filter}
use Rattle.std.proofs.lemmas.Bool.{eq-eqb}
use Rattle.std.proofs.lemmas.Bool.Decides.{eqb_tells}
use Rattle.std.proofs.lemmas.List.{length-append}
use Rattle.std.proofs.lemmas.List.Elements.{filter-append}
use mathlib.Core.Logic.{◌⊎◌, inl, inr}
use native.Mathlib.Omega.{arith}
use Rattle.machine_model.specs.LawfulLog.{concerns, is_sent, sent_count, taken_count}
use Rattle.machine_model.proofs.log.Lists.{comes_out, goes_in}
use Rattle.tl_types.specs.declared.message.Body.{Body}
use Rattle.tl_types.specs.declared.message.Msg.{Msg}
use Rattle.trace_recorder.specs.declared.logged.Logged.{Logged}

-- ---- each message that went in

abbrev pub EachSent : (ℕ → Msg → List Logged → Type 0) → List Logged → Type 0
EachSent Q log = (h : ℕ) (m : Msg) (before rest : List Logged) → before ++ goes_in h m ∷ rest ≡ log → Q h m before

pub no_last : {X : Type 0} (before rest : List X) (x : X) → before ++ x ∷ rest ≡ [] → ⊥
no_last [] rest x e = cc e
no_last (b ∷ before) rest x e = cc e

-- an element of a list that has grown by one is the new one, or one of the old ones
ends_at : {X : Type 0} (before rest log : List X) (x e : X) → before ++ x ∷ rest ≡ log ++ e ∷ [] → ((before ≡ log) × (x ≡ e)) ⊎ ((more : List X) × (before ++ x ∷ more ≡ log))
ends_at [] rest [] x e q = inl (refl, cc q)
ends_at [] rest (y ∷ log) x e q = let same : x ≡ y = cc q in inr (log, λ k. same k ∷ log)
ends_at (b ∷ before) rest [] x e q = let none : before ++ x ∷ rest ≡ [] = cc q in absurd (no_last before rest x none)
ends_at (b ∷ before) rest (y ∷ log) x e q =
    let tails : before ++ x ∷ rest ≡ log ++ e ∷ [] = cc q in
    let same : b ≡ y = cc q in
    go same (ends_at before rest log x e tails)
  where
    go : b ≡ y → ((before ≡ log) × (x ≡ e)) ⊎ ((more : List _) × (before ++ x ∷ more ≡ log)) → ((b ∷ before ≡ y ∷ log) × (x ≡ e)) ⊎ ((more : List _) × (b ∷ (before ++ x ∷ more) ≡ y ∷ log))
    go same (inl p) = inl (λ k. same k ∷ p.0 k, p.1)
    go same (inr m) = inr (m.0, λ k. same k ∷ m.1 k)

pub one_sent : (Q : ℕ → Msg → List Logged → Type 0) (log : List Logged) (h : ℕ) (m : Msg) → EachSent Q log → Q h m log → EachSent Q (log ++ goes_in h m ∷ [])
one_sent Q log h m each now k n before rest q = go (ends_at before rest log (goes_in k n) (goes_in h m) q)
  where
    go : ((before ≡ log) × (goes_in k n ≡ goes_in h m)) ⊎ ((more : List Logged) × (before ++ goes_in k n ∷ more ≡ log)) → Q k n before
    go (inl p) = subst (λ (e : Logged). Q e.hart e.message before) (sym p.1) (subst (Q h m) (sym p.0) now)
    go (inr more) = each k n before more.0 more.1

pub one_taken : (Q : ℕ → Msg → List Logged → Type 0) (log : List Logged) (h : ℕ) (m : Msg) → EachSent Q log → EachSent Q (log ++ comes_out h m ∷ [])
one_taken Q log h m each k n before rest q = go (ends_at before rest log (goes_in k n) (comes_out h m) q)
  where
    go : ((before ≡ log) × (goes_in k n ≡ comes_out h m)) ⊎ ((more : List Logged) × (before ++ goes_in k n ∷ more ≡ log)) → Q k n before
    go (inl p) = let differs : true ≡ false = ap (λ (e : Logged). is_sent e.direction) p.1 in cc differs
    go (inr more) = each k n before more.0 more.1

-- ---- counts

abbrev pub bit : Bool → ℕ
bit true = 1
bit false = 0

count : (p : Logged → Bool) (log : List Logged) (e : Logged) → length (filter p (log ++ e ∷ [])) ≡ length (filter p log) + bit (p e)
count p log e = ap length (filter-append p log (e ∷ [])) ∙ length-append (filter p log) (filter p (e ∷ [])) ∙ ap (λ n. length (filter p log) + n) (one (p e))
  where
    one : (b : Bool) → length (cond b (e ∷ []) []) ≡ bit b
    one true = refl
    one false = refl

module _ (kind : Body → Bool) (k l : ℕ) (log : List Logged) (h : ℕ) (m : Msg) where
  pub sent_in : sent_count kind (concerns k l) (log ++ goes_in h m ∷ []) ≡ sent_count kind (concerns k l) log + bit ((h == k && m.line == l) && kind m.body)
  sent_in = count (λ (e : Logged). is_sent e.direction && concerns k l e && kind e.message.body) log (goes_in h m)

  pub taken_in : taken_count kind (concerns k l) (log ++ goes_in h m ∷ []) ≡ taken_count kind (concerns k l) log + 0
  taken_in = count (λ (e : Logged). not (is_sent e.direction) && concerns k l e && kind e.message.body) log (goes_in h m)

  pub sent_out : sent_count kind (concerns k l) (log ++ comes_out h m ∷ []) ≡ sent_count kind (concerns k l) log + 0
  sent_out = count (λ (e : Logged). is_sent e.direction && concerns k l e && kind e.message.body) log (comes_out h m)

  pub taken_out : taken_count kind (concerns k l) (log ++ comes_out h m ∷ []) ≡ taken_count kind (concerns k l) log + bit ((h == k && m.line == l) && kind m.body)
  taken_out = count (λ (e : Logged). not (is_sent e.direction) && concerns k l e && kind e.message.body) log (comes_out h m)

-- ---- questions that came out, and answers that went in

module _ (question answer : Body → Bool) where
  -- no answer was sent too many
  abbrev pub NoneTooMany : List Logged → Type 0
  NoneTooMany log = (k l : ℕ) → sent_count answer (concerns k l) log ≤ taken_count question (concerns k l) log

  -- an answer is owed
  abbrev pub Owes : ℕ → ℕ → List Logged → Type 0
  Owes k l log = sent_count answer (concerns k l) log < taken_count question (concerns k l) log

  module _ (log : List Logged) (h : ℕ) (m : Msg) (i : NoneTooMany log) where
    pub none_in : (answer m.body ≡ true → Owes h m.line log) → NoneTooMany (log ++ goes_in h m ∷ [])
    none_in owes k l =
        let more : sent_count answer (concerns k l) (log ++ goes_in h m ∷ []) ≡ sent_count answer (concerns k l) log + bit ((h == k && m.line == l) && answer m.body) = sent_in answer k l log h m in
        let same : taken_count question (concerns k l) (log ++ goes_in h m ∷ []) ≡ taken_count question (concerns k l) log + 0 = taken_in question k l log h m in
        let few : sent_count answer (concerns k l) log + bit ((h == k && m.line == l) && answer m.body) ≤ taken_count question (concerns k l) log = go (eqb_tells h k) (eqb_tells m.line l) (answer m.body) refl in
        omega (arith, more, same, few)
      where
        go : (((h == k) ≡ true) × (h ≡ k)) ⊎ (((h == k) ≡ false) × (h ≡ k → ⊥)) → (((m.line == l) ≡ true) × (m.line ≡ l)) ⊎ (((m.line == l) ≡ false) × (m.line ≡ l → ⊥)) → (b : Bool) → answer m.body ≡ b →
            sent_count answer (concerns k l) log + bit ((h == k && m.line == l) && b) ≤ taken_count question (concerns k l) log
        go (inl e) (inl f) true g =
            let here : Owes k l log = subst (λ j. Owes j l log) e.1 (subst (λ j. Owes h j log) f.1 (owes g)) in
            rw (e.0, f.0) omega (arith, here)
        go (inl e) (inl f) false g = let old : sent_count answer (concerns k l) log ≤ taken_count question (concerns k l) log = i k l in rw (e.0, f.0) omega (arith, old)
        go (inl e) (inr f) b g = let old : sent_count answer (concerns k l) log ≤ taken_count question (concerns k l) log = i k l in rw (e.0, f.0) omega (arith, old)
        go (inr e) f b g = let old : sent_count answer (concerns k l) log ≤ taken_count question (concerns k l) log = i k l in rw e.0 omega (arith, old)

    pub none_out : NoneTooMany (log ++ comes_out h m ∷ [])
    none_out k l =
        let same : sent_count answer (concerns k l) (log ++ comes_out h m ∷ []) ≡ sent_count answer (concerns k l) log + 0 = sent_out answer k l log h m in
        let more : taken_count question (concerns k l) (log ++ comes_out h m ∷ []) ≡ taken_count question (concerns k l) log + bit ((h == k && m.line == l) && question m.body) = taken_out question k l log h m in
        let old : sent_count answer (concerns k l) log ≤ taken_count question (concerns k l) log = i k l in
        omega (arith, same, more, old)

    pub owes_out : question m.body ≡ true → Owes h m.line (log ++ comes_out h m ∷ [])
    owes_out is =
        let same : sent_count answer (concerns h m.line) (log ++ comes_out h m ∷ []) ≡ sent_count answer (concerns h m.line) log + 0 = sent_out answer h m.line log h m in
        let one : bit ((h == h && m.line == m.line) && question m.body) ≡ 1 = rw (eq-eqb h h refl, eq-eqb m.line m.line refl, is) refl in
        let more : taken_count question (concerns h m.line) (log ++ comes_out h m ∷ []) ≡ taken_count question (concerns h m.line) log + 1 = taken_out question h m.line log h m ∙ ap (λ n. taken_count question (concerns h m.line) log + n) one in
        let old : sent_count answer (concerns h m.line) log ≤ taken_count question (concerns h m.line) log = i h m.line in
        omega (arith, same, more, old)
