-- A sheet is what stands on it, piece by piece.
use Rattle.std.proofs.Common.{◌≡◌, ◌∙◌, ℕ, List, [], ◌++◌, ap}
use Rattle.run_chart.specs.declared.plan.Plan.{Plan}
use Rattle.run_chart.specs.Plan as place
use Rattle.run_chart.specs.Sheet.{beginning, legend, manager_lane, opening}

pub sheet_is : (p : Plan) (t d st : List ℕ) (w h : ℕ) (s a b c : List ℕ) → w ≡ place.width p → h ≡ place.height p → s ≡ [] → a ≡ s ++ beginning (w, h) t d st → b ≡ a ++ legend → c ≡ b ++ manager_lane p
    → c ≡ opening p t d st
sheet_is p t d st w h s a b c ew eh e0 e1 e2 e3 =
    e3 ∙ ap (λ (l : List ℕ). l ++ manager_lane p)
    (e2 ∙ ap (λ (l : List ℕ). l ++ legend)
    (e1 ∙ ap (λ (l : List ℕ). l ++ beginning (w, h) t d st) e0 ∙ ap (λ (k : ℕ). beginning (k, h) t d st) ew ∙ ap (λ (k : ℕ). beginning (place.width p, k) t d st) eh))
