-- Results that are told of one hart after the other.
use Rattle.std.proofs.Common.{◌≡◌, ◌∙◌, sym, ap, ℕ, ◌+◌, ◌<◌, List, [], ◌∷◌, ◌++◌, length, map, take, get_or}
use Rattle.std.proofs.lemmas.List.{map-append, take_more}
use Rattle.flat_model.specs.declared.results.HartResult.{HartResult}
use Rattle.flat_model.specs.Shown.{HartEnd, told}
use Rattle.hart.specs.declared.status.Status.{Status}
use Rattle.machine_model.specs.Views.{Node, State, node_at, no_node}

abbrev pub shown : Node → HartEnd
shown n = record { status = n.hart.status; output = n.output }

-- the first harts' results
abbrev pub first_results : State → ℕ → List HartEnd
first_results s h = map shown (take h s.views.nodes)

first_more : (s : State) (h : ℕ) → h < length s.views.nodes → first_results s (h + 1) ≡ first_results s h ++ shown (node_at s h) ∷ []
first_more s h below = ap (map shown) (take_more s.views.nodes h (no_node s) below) ∙ map-append shown (take h s.views.nodes) (node_at s h ∷ [])

same_result : (status : Status) (output : List ℕ) (n : Node) → status ≡ n.hart.status → output ≡ n.output → ◌≡◌ {A = HartEnd} (record { status = status; output = output }) (shown n)
same_result status output n e f = λ i. record { status = e i; output = f i }

-- results are told of one hart more
pub told_more : (s : State) (all : List HartResult) (h : ℕ) (r : HartResult) → h < length s.views.nodes
    → r.status ≡ (node_at s h).hart.status → r.output.items ≡ (node_at s h).output
    → told all ≡ first_results s h → told (all ++ r ∷ []) ≡ first_results s (h + 1)
told_more s all h r below status output was =
    map-append _ all (r ∷ [])
    ∙ ap (λ (l : List HartEnd). l ++ record { status = r.status; output = r.output.items } ∷ []) was
    ∙ ap (λ (x : HartEnd). first_results s h ++ x ∷ []) (same_result r.status r.output.items (node_at s h) status output)
    ∙ sym (first_more s h below)

pub told_next : (s : State) (goal : List HartResult) (h : ℕ) (d r : HartResult) → r ≡ get_or goal h d → h < length goal → h < length s.views.nodes
    → r.status ≡ (node_at s h).hart.status → r.output.items ≡ (node_at s h).output
    → told (take h goal) ≡ first_results s h → told (take (h + 1) goal) ≡ first_results s (h + 1)
told_next s goal h d r is within below status output was =
    ap told (take_more goal h d within)
    ∙ ap (λ (x : HartResult). told (take h goal ++ x ∷ [])) (sym is)
    ∙ told_more s (take h goal) h r below status output was
