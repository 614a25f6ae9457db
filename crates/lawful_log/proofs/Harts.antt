-- What a list says of each hart: beyond its end nothing, and a write changes one.
use Rattle.std.proofs.Common.{ℕ, zero, suc, ◌<◌, List, [], ◌∷◌, ◌++◌, ◌≡◌, refl, length, arith, slice_set}
use Rattle.std.specs.Prelude.{◌==◌, if◌then◌else◌}
use Rattle.std.proofs.lemmas.Bool.{ne_eqb}
use Rattle.std.proofs.lemmas.Grind.{common_steps}
use Rattle.lawful_log.specs.Followed.{hart_known, known_at, nothing_known}
use Rattle.lawful_log.specs.declared.lines.HartLog.{HartLog}

pub known_behind : (harts : List HartLog) (new : HartLog) → hart_known new ≡ nothing_known → (h : ℕ) → known_at (harts ++ new ∷ []) h ≡ known_at harts h
known_behind [] new is zero = is
known_behind [] new is (suc h) = refl
known_behind (hart ∷ harts) new is zero = refl
known_behind (hart ∷ harts) new is (suc h) = known_behind harts new is h

both_further : (i h : ℕ) → (suc i == suc h) ≡ (i == h)
both_further i h = grind (arith, common_steps)

pub known_written : (harts : List HartLog) (i : ℕ) (hart : HartLog) (h : ℕ) → i < length harts → known_at (slice_set harts i hart) h ≡ (if i == h then hart_known hart else known_at harts h)
known_written [] i hart h within = absurd (omega arith)
known_written (x ∷ harts) zero hart zero within = refl
known_written (x ∷ harts) zero hart (suc h) within = rw (ne_eqb zero (suc h) (λ e. omega (arith, e))) refl
known_written (x ∷ harts) (suc i) hart zero within = rw (ne_eqb (suc i) zero (λ e. omega (arith, e))) refl
known_written (x ∷ harts) (suc i) hart (suc h) within = rw (both_further i h) (known_written harts i hart h (omega arith))
