-- One step of a sweep, of a check and of a row of sweeps.
use Rattle.std.proofs.Common.{◌≡◌, ◌∙◌, ◌+◌, ◌-◌, ◌<◌, ℕ, suc, List, Option, Some, ap, arith, cond, false, length, refl, sym, true}
use Rattle.std.specs.Prelude.{◌&&◌, replicate}
use Rattle.elf_loader.specs.Image.{Initial}
use Rattle.image_orderings.specs.Flow.{closed_within, each_goes_on, flowed, goes_on, is_closed, nothing, swept}
use Rattle.image_orderings.specs.declared.knowing.Known.{Known}

module _ (image : Initial) where
  pub swept_none : (place : ℕ) (t : List (Option Known)) → swept image place 0 t ≡ t
  unfolding swept
  swept_none place t = refl

  swept_step : (place k : ℕ) (t : List (Option Known)) → swept image (place + 1) k (flowed image place t) ≡ swept image place (suc k) t
  unfolding swept
  swept_step place k t = refl

  pub swept_next : (place left : ℕ) (t : List (Option Known)) → 0 < left → swept image (place + 1) (left - 1) (flowed image place t) ≡ swept image place left t
  swept_next place left t l = swept_step place (left - 1) t ∙ ap (λ n. swept image place n t) {x = suc (left - 1)} {y = left} (omega (arith, l))

  pub none_left : (t : List (Option Known)) → each_goes_on image t 0 ≡ true
  unfolding each_goes_on
  none_left t = refl

  closed_step : (k : ℕ) (t : List (Option Known)) → each_goes_on image t (suc k) ≡ (goes_on image t k && each_goes_on image t k)
  unfolding each_goes_on
  closed_step k t = refl

  closed_by : (p : ℕ) (t : List (Option Known)) → 0 < p → each_goes_on image t p ≡ (goes_on image t (p - 1) && each_goes_on image t (p - 1))
  closed_by p t l = ap (each_goes_on image t) {x = p} {y = suc (p - 1)} (omega (arith, l)) ∙ closed_step (p - 1) t

  pub one_closed : (p : ℕ) (t : List (Option Known)) → 0 < p → goes_on image t (p - 1) ≡ true → each_goes_on image t (p - 1) ≡ each_goes_on image t p
  one_closed p t l e = sym (closed_by p t l ∙ ap (λ b. b && each_goes_on image t (p - 1)) e)

  pub one_open : (p : ℕ) (t : List (Option Known)) → 0 < p → goes_on image t (p - 1) ≡ false → false ≡ each_goes_on image t p
  one_open p t l e = sym (closed_by p t l ∙ ap (λ b. b && each_goes_on image t (p - 1)) e)

  within_step : (k : ℕ) (t : List (Option Known)) → closed_within (suc k) image t ≡ cond (is_closed image t) t (closed_within k image (swept image 0 (length t) t))
  unfolding closed_within
  within_step k t = refl

  within_by : (n : ℕ) (t : List (Option Known)) → 0 < n → closed_within n image t ≡ cond (is_closed image t) t (closed_within (n - 1) image (swept image 0 (length t) t))
  within_by n t l = ap (λ k. closed_within k image t) {x = n} {y = suc (n - 1)} (omega (arith, l)) ∙ within_step (n - 1) t

  pub closed_now : (n : ℕ) (t : List (Option Known)) → 0 < n → is_closed image t ≡ true → t ≡ closed_within n image t
  closed_now n t l e = sym (within_by n t l ∙ ap (λ b. cond b t (closed_within (n - 1) image (swept image 0 (length t) t))) e)

  pub open_yet : (n : ℕ) (t : List (Option Known)) → 0 < n → is_closed image t ≡ false → closed_within (n - 1) image (swept image 0 (length t) t) ≡ closed_within n image t
  open_yet n t l e = sym (within_by n t l ∙ ap (λ b. cond b t (closed_within (n - 1) image (swept image 0 (length t) t))) e)

  pub given_up : (t : List (Option Known)) → replicate (length t) (Some nothing) ≡ closed_within 0 image t
  unfolding closed_within
  given_up t = refl
