-- The lists of a trace's harts, one hart after the other.
use Rattle.std.proofs.Common.{◌≡◌, ◌+◌, ◌<◌, ◌&&◌, ℕ, Bool, true, false, List, [], length, drop, get_or, refl, ap, ◌∙◌}
use Rattle.std.proofs.lemmas.List.{drop_more}
use Rattle.hart.specs.Image.{Initial}
use Rattle.hart.specs.declared.retired.Retired.{Retired}
use Rattle.hart.specs.declared.status.Status.{Status}
use Rattle.hart.specs.declared.status.Status.TheVariants.{Running}
use Rattle.hart.specs.declared.state.Hart.{Hart}
use Rattle.hart.specs.Run.{are_steps, is_run, reached, reset_at, status_fits}
use Rattle.memory_model.specs.Traces.{are_runs_from}

runs-more : (image : Initial) (harts id : ℕ) (es : List (List Retired)) (ss : List Status) → id < length es → id < length ss
    → are_runs_from image harts id (drop id es) (drop id ss) ≡ (is_run image id harts (get_or es id []) (get_or ss id Running) && are_runs_from image harts (id + 1) (drop (id + 1) es) (drop (id + 1) ss))
runs-more image harts id es ss h k = rw (drop_more es id [] h, drop_more ss id Running k) refl

-- where a hart's list is a run, those behind it decide
pub run_goes : (image : Initial) (harts id : ℕ) (es : List (List Retired)) (ss : List Status) → id < length es → id < length ss
    → is_run image id harts (get_or es id []) (get_or ss id Running) ≡ true
    → are_runs_from image harts id (drop id es) (drop id ss) ≡ are_runs_from image harts (id + 1) (drop (id + 1) es) (drop (id + 1) ss)
run_goes image harts id es ss h k e =
    runs-more image harts id es ss h k ∙ ap (λ (b : Bool). b && are_runs_from image harts (id + 1) (drop (id + 1) es) (drop (id + 1) ss)) e

pub run_fails : (image : Initial) (harts id : ℕ) (es : List (List Retired)) (ss : List Status) → id < length es → id < length ss
    → is_run image id harts (get_or es id []) (get_or ss id Running) ≡ false
    → are_runs_from image harts id (drop id es) (drop id ss) ≡ false
run_fails image harts id es ss h k e =
    runs-more image harts id es ss h k ∙ ap (λ (b : Bool). b && are_runs_from image harts (id + 1) (drop (id + 1) es) (drop (id + 1) ss)) e

-- a hart's own test is whether its list is a run
pub run_is : (image img other : Initial) (id harts n entry : ℕ) (reset : Hart) (es fs : List Retired) (ss ts : List Status)
    → img ≡ image → reset ≡ reset_at entry id harts → entry ≡ other.entry → other ≡ image → harts ≡ n → es ≡ fs → ss ≡ ts
    → (are_steps img reset es && status_fits img (reached reset es) (get_or ss id Running)) ≡ is_run image id n fs (get_or ts id Running)
run_is image img other id harts n entry reset es fs ss ts a b c d e f g = rw (a, b, c, d, e, f, g) refl
