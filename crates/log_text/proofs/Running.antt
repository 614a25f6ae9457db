-- One line more of a hart that still runs.
use Rattle.std.proofs.Common.{ℕ, zero, suc, ◌+◌, ◌<◌, List, [], ◌∷◌, ◌++◌, ◌≡◌, refl, sym, ap, ◌∙◌, arith}
use Rattle.std.specs.Prelude.{replicate}
use Rattle.std.proofs.lemmas.List.{append-nil, append_assoc}
use Rattle.std.proofs.lemmas.Fmt.{decimal_digit}
use Rattle.hart.specs.declared.status.Status.{Status}
use Rattle.hart.specs.declared.status.Status.TheVariants.{Running}
use Rattle.text_fields.specs.Fields.{numbered}
use Rattle.trace_text.specs.Traces.{status}

last_of : (s : ℕ → Status → List ℕ) (n h : ℕ) → numbered s h (replicate (suc n) Running) ≡ numbered s h (replicate n Running) ++ s (h + n) Running
last_of s zero h = append-nil (s h Running) ∙ ap (λ k. s k Running) (omega arith)
last_of s (suc n) h =
    ap (λ t. s h Running ++ t) (last_of s n (suc h)) ∙ sym (append_assoc (s h Running) (numbered s (suc h) (replicate n Running)) (s (suc h + n) Running))
    ∙ ap (λ k. numbered s h (replicate (suc n) Running) ++ s k Running) (omega arith)

pub none_runs : (bytes : List ℕ) → bytes ≡ bytes ++ numbered status 0 (replicate 0 Running)
none_runs bytes = sym (append-nil bytes)

one_at_the_end : (n : ℕ) → numbered status 0 (replicate n Running) ++ status n Running ≡ numbered status 0 (replicate (n + 1) Running)
one_at_the_end n =
    let same : n ≡ 0 + n = omega arith in
    let next : suc n ≡ n + 1 = omega arith in
    ap (λ k. numbered status 0 (replicate n Running) ++ status k Running) same ∙ sym (last_of status n 0) ∙ ap (λ k. numbered status 0 (replicate k Running)) next

pub one_more_runs : (n : ℕ) (before bytes more : List ℕ) → bytes ≡ before ++ numbered status 0 (replicate n Running) → more ≡ bytes ++ status n Running → more ≡ before ++ numbered status 0 (replicate (n + 1) Running)
one_more_runs n before bytes more so_far is =
    is ∙ ap (λ t. t ++ status n Running) so_far ∙ append_assoc before (numbered status 0 (replicate n Running)) (status n Running) ∙ ap (λ t. before ++ t) (one_at_the_end n)

-- a hart's number has one digit
pub running_text : (hart : ℕ) → hart < 8 → 72 ∷ 32 ∷ (48 + hart) ∷ 32 ∷ 114 ∷ 117 ∷ 110 ∷ 10 ∷ [] ≡ status hart Running
running_text hart small = rw (decimal_digit hart (omega arith)) refl
