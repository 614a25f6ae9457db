-- A machine's harts, looked at one after the other.
use Rattle.std.proofs.Common.{◌≡◌, ◌==◌, ◌↔◌, ℕ, zero, suc, ◌<◌, ◌≤◌, List, [], ◌∷◌, Bool, true, false, refl, sym, ap, ◌∙◌, not, arith, length, take, slice_index_or, true≢false, IsTrue}
use Rattle.std.proofs.lemmas.Bool.{and_from, and_parts, eqb-true, false≢true, not-true}
use Rattle.std.proofs.lemmas.List.{take_all}
use Rattle.flat_exploration.specs.Outcomes.{HasDrained, HasEnded, none_waits_in}
use Rattle.flat_exploration.specs.Laws.{none_runs}
use Rattle.hart.specs.Run.{is_running}
use Rattle.flat_model.specs.Views.{Node, State, no_node, node_at}
use Rattle.store_buffer.specs.Groups.{is_empty}

-- of the first of them none runs, and none has a store that waits
pub record IsIdleBelow (ns : List Node) (n : ℕ) : Type 0 where
  pub ended : none_runs (take n ns) ≡ true
  pub empty : none_waits_in (take n ns) ≡ true

pub idle_none : (ns : List Node) → IsIdleBelow ns 0
idle_none [] = record { ended = refl; empty = refl }
idle_none (n ∷ ns) = record { ended = refl; empty = refl }

pub idle_more : (ns : List Node) (d : Node) (h : ℕ) → h < length ns → is_running (slice_index_or ns h d).hart.status ≡ false → is_empty (slice_index_or ns h d).buffer ≡ true → IsIdleBelow ns h → IsIdleBelow ns (suc h)
idle_more [] d h l s e x = absurd (omega (arith, l))
idle_more (n ∷ ns) d zero l s e x =
    let t = idle_none ns in
    record { ended = and_from (not (is_running n.hart.status)) (none_runs (take 0 ns)) (ap not s) t.ended; empty = and_from (is_empty n.buffer) (none_waits_in (take 0 ns)) e t.empty }
idle_more (n ∷ ns) d (suc h) l s e x =
    let a = and_parts (not (is_running n.hart.status)) (none_runs (take h ns)) x.ended in
    let b = and_parts (is_empty n.buffer) (none_waits_in (take h ns)) x.empty in
    let t = idle_more ns d h (omega (arith, l)) s e (record { ended = a.1; empty = b.1 }) in
    record { ended = and_from (not (is_running n.hart.status)) (none_runs (take (suc h) ns)) a.0 t.ended; empty = and_from (is_empty n.buffer) (none_waits_in (take (suc h) ns)) b.0 t.empty }

pub ended_more : (ns : List Node) (d : Node) (h : ℕ) → h < length ns → is_running (slice_index_or ns h d).hart.status ≡ false → none_runs (take h ns) ≡ true → none_runs (take (suc h) ns) ≡ true
ended_more [] d h l s x = absurd (omega (arith, l))
ended_more (n ∷ ns) d zero l s x = and_from (not (is_running n.hart.status)) (none_runs (take 0 ns)) (ap not s) (idle_none ns).ended
ended_more (n ∷ ns) d (suc h) l s x =
    let a = and_parts (not (is_running n.hart.status)) (none_runs (take h ns)) x in
    and_from (not (is_running n.hart.status)) (none_runs (take (suc h) ns)) a.0 (ended_more ns d h (omega (arith, l)) s a.1)

pub idle_all : (s : State) (n : ℕ) → length s.views.nodes ≤ n → IsIdleBelow s.views.nodes n → HasDrained s
idle_all s n l x =
    let all = take_all n s.views.nodes l in
    record { ended = sym (ap none_runs all) ∙ x.ended; empty = sym (ap none_waits_in all) ∙ x.empty }

-- ---- and one that runs, or whose store waits, refutes that the machine has drained

pub idle_at : (ns : List Node) (d : Node) (h : ℕ) → h < length ns → none_runs ns ≡ true → is_running (slice_index_or ns h d).hart.status ≡ false
idle_at [] d h l e = absurd (omega (arith, l))
idle_at (n ∷ ns) d zero l e = not-true (is_running n.hart.status) (and_parts (not (is_running n.hart.status)) (none_runs ns) e).0
idle_at (n ∷ ns) d (suc h) l e = idle_at ns d h (omega (arith, l)) (and_parts (not (is_running n.hart.status)) (none_runs ns) e).1

empty_at : (ns : List Node) (d : Node) (h : ℕ) → h < length ns → none_waits_in ns ≡ true → is_empty (slice_index_or ns h d).buffer ≡ true
empty_at [] d h l e = absurd (omega (arith, l))
empty_at (n ∷ ns) d zero l e = (and_parts (is_empty n.buffer) (none_waits_in ns) e).0
empty_at (n ∷ ns) d (suc h) l e = empty_at ns d h (omega (arith, l)) (and_parts (is_empty n.buffer) (none_waits_in ns) e).1

pub one_runs : (s : State) (h : ℕ) → h < length s.views.nodes → is_running (node_at s h).hart.status ≡ true → HasDrained s → ⊥
one_runs s h l runs x = false≢true (sym (idle_at s.views.nodes (no_node s) h l x.ended) ∙ runs)

pub one_waits : (s : State) (h : ℕ) → h < length s.views.nodes → is_empty (node_at s h).buffer ≡ false → HasDrained s → ⊥
one_waits s h l waits x = false≢true (sym waits ∙ empty_at s.views.nodes (no_node s) h l x.empty)

pub still_runs : (ns : List Node) (d : Node) (h : ℕ) → h < length ns → is_running (slice_index_or ns h d).hart.status ≡ true → none_runs ns ≡ false
still_runs ns d h l runs = go (none_runs ns) refl
  where
    go : (b : Bool) → none_runs ns ≡ b → none_runs ns ≡ false
    go true x = absurd (false≢true (sym (idle_at ns d h l x) ∙ runs))
    go false x = x

-- ---- whether words are asked for, as code finds it

no_more : (address : ℕ) (rest : List ℕ) → (length (address ∷ rest) == 0) ≡ true → ⊥
no_more address rest is = let bad = eqb-true (length (address ∷ rest)) 0 is in omega (arith, bad)

pub ended_unasked : (addresses : List ℕ) (s : State) (b : Bool) → (length addresses == 0) ≡ true → b ≡ none_runs s.views.nodes → IsTrue b ↔ HasEnded addresses s
ended_unasked [] s b is same = (λ t. sym same ∙ t, λ t. same ∙ t)
ended_unasked (address ∷ rest) s b is same = absurd (no_more address rest is)

pub ended_asked : (addresses : List ℕ) (s : State) (b : Bool) → (length addresses == 0) ≡ false → (IsTrue b ↔ HasDrained s) → IsTrue b ↔ HasEnded addresses s
ended_asked [] s b is so = absurd (true≢false is)
ended_asked (address ∷ rest) s b is so = so
