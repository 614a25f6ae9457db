-- What a list says of each hart: beyond its end nothing, and a write changes one.
use Rattle.std.proofs.Common.{ℕ, zero, suc, ◌<◌, true, false, List, [], ◌∷◌, ◌++◌, ◌≡◌, ◌∙◌, None, Option, refl, subst, length, arith, slice_set}
use Rattle.std.specs.Prelude.{◌==◌, if◌then◌else◌}
use Rattle.std.proofs.lemmas.Bool.{ne_eqb}
use Rattle.std.proofs.lemmas.Bool.Decides.{eqb_tells}
use Rattle.std.proofs.lemmas.Grind.{common_steps}
use mathlib.Core.Logic.{◌⊎◌, inl, inr}
use Rattle.tl_types.specs.declared.line.LineData.{LineData}
use Rattle.written_lines.specs.Granted.{granted_at}

pub hart_behind : (harts : List (Option LineData)) (h : ℕ) → granted_at (harts ++ None ∷ []) h ≡ granted_at harts h
hart_behind [] zero = refl
hart_behind [] (suc h) = refl
hart_behind (o ∷ harts) zero = refl
hart_behind (o ∷ harts) (suc h) = hart_behind harts h

both_further : (i h : ℕ) → (suc i == suc h) ≡ (i == h)
both_further i h = grind (arith, common_steps)

hart_written : (harts : List (Option LineData)) (i : ℕ) (new : Option LineData) (h : ℕ) → i < length harts → granted_at (slice_set harts i new) h ≡ (if i == h then new else granted_at harts h)
hart_written [] i new h within = absurd (omega arith)
hart_written (x ∷ harts) zero new zero within = refl
hart_written (x ∷ harts) zero new (suc h) within = rw (ne_eqb zero (suc h) (λ e. omega (arith, e))) refl
hart_written (x ∷ harts) (suc i) new zero within = rw (ne_eqb (suc i) zero (λ e. omega (arith, e))) refl
hart_written (x ∷ harts) (suc i) new (suc h) within = rw (both_further i h) (hart_written harts i new h (omega arith))

-- the hart's is written, in a list that was lengthened
pub hart_turned : (reached old : List (Option LineData)) (i hart : ℕ) (new : Option LineData) → i ≡ hart → i < length reached → ((k : ℕ) → granted_at reached k ≡ granted_at old k)
    → (h : ℕ) → granted_at (slice_set reached i new) h ≡ (if hart == h then new else granted_at old h)
hart_turned reached old i hart new is within same h =
    subst (λ (k : ℕ). granted_at (slice_set reached i new) h ≡ (if k == h then new else granted_at old h)) is (hart_written reached i new h within ∙ go (i == h))
  where
    go : (b : _) → (if b then new else granted_at reached h) ≡ (if b then new else granted_at old h)
    go true = refl
    go false = same h
