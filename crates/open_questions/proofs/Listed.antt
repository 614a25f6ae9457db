-- What a list says of each client: beyond its end nothing, and a write changes one.
use Rattle.std.proofs.Common.{ℕ, zero, suc, ◌<◌, true, false, List, [], ◌∷◌, ◌++◌, ◌≡◌, ◌∙◌, ap, refl, subst, length, arith, slice_index_or, slice_set}
use Rattle.std.specs.Prelude.{◌==◌, if◌then◌else◌}
use Rattle.std.proofs.lemmas.Bool.{ne_eqb}
use Rattle.std.proofs.lemmas.Bool.Decides.{eqb_tells}
use Rattle.std.proofs.lemmas.Grind.{common_steps}
use mathlib.Core.Logic.{◌⊎◌, inl, inr}
use Rattle.open_questions.specs.Answers.{answered_at, noted, nothing_answered}
use Rattle.open_questions.specs.declared.answers.Answered.{Answered}
use Rattle.trace_recorder.specs.declared.logged.Logged.{Logged}

pub client_behind : (clients : List Answered) (new : Answered) → new ≡ nothing_answered → (h : ℕ) → answered_at (clients ++ new ∷ []) h ≡ answered_at clients h
client_behind [] new is zero = is
client_behind [] new is (suc h) = refl
client_behind (client ∷ clients) new is zero = refl
client_behind (client ∷ clients) new is (suc h) = client_behind clients new is h

both_further : (i h : ℕ) → (suc i == suc h) ≡ (i == h)
both_further i h = grind (arith, common_steps)

pub client_written : (clients : List Answered) (i : ℕ) (client : Answered) (h : ℕ) → i < length clients → answered_at (slice_set clients i client) h ≡ (if i == h then client else answered_at clients h)
client_written [] i client h within = absurd (omega arith)
client_written (x ∷ clients) zero client zero within = refl
client_written (x ∷ clients) zero client (suc h) within = rw (ne_eqb zero (suc h) (λ e. omega (arith, e))) refl
client_written (x ∷ clients) (suc i) client zero within = rw (ne_eqb (suc i) zero (λ e. omega (arith, e))) refl
client_written (x ∷ clients) (suc i) client (suc h) within = rw (both_further i h) (client_written clients i client h (omega arith))

client_there : (clients : List Answered) (i : ℕ) (d : Answered) → i < length clients → slice_index_or clients i d ≡ answered_at clients i
client_there [] i d within = absurd (omega arith)
client_there (client ∷ clients) zero d within = refl
client_there (client ∷ clients) (suc i) d within = client_there clients i d (omega arith)

-- one entry more of the client that stands there, in a list that was lengthened
pub client_turned : (reached old : List Answered) (i hart : ℕ) (e : Logged) (before new : Answered) → i ≡ hart → i < length reached → ((k : ℕ) → answered_at reached k ≡ answered_at old k)
    → before ≡ slice_index_or reached i before → new ≡ noted e before → (h : ℕ) → answered_at (slice_set reached i new) h ≡ (if hart == h then noted e (answered_at old h) else answered_at old h)
client_turned reached old i hart e before new is within same from turned h =
    subst (λ (k : ℕ). answered_at (slice_set reached i new) h ≡ (if k == h then noted e (answered_at old h) else answered_at old h)) is (client_written reached i new h within ∙ go (eqb_tells i h))
  where
    go : (((i == h) ≡ true) × (i ≡ h)) ⊎ (((i == h) ≡ false) × (i ≡ h → ⊥)) → (if i == h then new else answered_at reached h) ≡ (if i == h then noted e (answered_at old h) else answered_at old h)
    go (inl here) = rw here.0 (turned ∙ ap (noted e) (from ∙ client_there reached i before within ∙ same i ∙ ap (answered_at old) here.1))
    go (inr there) = rw there.0 (same h)
