-- The next operation of a legal order is placed, at the position of its hart's window where it waits.
use Rattle.std.proofs.Common.{◌≡◌, ℕ, zero, suc, List, [], ◌∷◌, ◌++◌, Bool, true, false, Some, None, refl, cond, sym, ap, ◌∙◌, ⊎_elim, inr, subst}
use Rattle.std.specs.Prelude.{filter, map, slice_get, slice_set}
use Rattle.std.specs.List.{last_or, remove}
use Rattle.std.specs.Option.{option_map}
use Rattle.std.proofs.lemmas.List.{append-nil}
use Rattle.std.proofs.lemmas.List.Elements.{filter-append}
use Rattle.std.proofs.lemmas.Option.{none-some, same_Some, slice_get-map}
use Rattle.machine_types.specs.declared.model.MemoryModel.{MemoryModel}
use Rattle.memory_model.specs.declared.operation.Operation.{Operation}
use Rattle.memory_model.specs.Items.{Item}
use Rattle.memory_model.specs.Operations as operation
use Rattle.memory_model.specs.Order as order
use Rattle.memory_model.specs.Rules.{items_of}
use Rattle.window_model.specs.Nodes.{Node}
use Rattle.window_model.specs.Pairs.{Pairs}
use Rattle.window_model.specs.Placing.{Admits, CanPlace, beside, placed, written_over}
use Rattle.window_model.specs.Systems.{System}
use Rattle.window_model.specs.Waiting.{Waiting, written_at}
use Rattle.window_model.proofs.Pairs.{Beside, pairs_right}
use Rattle.window_model.proofs.LazyPaths.{get_set, get_set_other, same_or_not}
use Rattle.window_model.proofs.Simulations.{at_set_either, mapped_at}
use Rattle.window_model.proofs.following.Admitting.{admits}
use Rattle.window_model.proofs.following.Kept.{Shows, Stands}
use Rattle.window_model.proofs.following.Last.{last_end}
use Rattle.window_model.proofs.following.Moved.{other_kept, placed_kept}
use Rattle.window_model.proofs.following.Paths.{HasHart, SameEnd, State}
use Rattle.window_model.proofs.following.Placing.{Holds, can_place, stores_is, written_is}
use Rattle.window_model.proofs.following.Remaining.{Now, w_is_b}
use Rattle.window_model.proofs.following.Whole.{Legal}

abbrev pub placed_at : System → (h k : ℕ) → Waiting → Node → System
placed_at s h k w n = record { memory = written_over w s.memory; nodes = slice_set (map (beside w) s.nodes) h (placed n k w) }

pub record PlacedAt (model : MemoryModel) (image : ℕ → ℕ) (all : List (List Item)) (done : List Operation) (b : Operation) (rest : List Operation) (s : System) (n : Node) (k : ℕ) : Type 0 where
  pub operation : Waiting
  pub can : CanPlace s.memory n k operation
  pub admitted : (g : ℕ) (other : Node) → slice_get s.nodes g ≡ Some other → (g ≡ b.hart → ⊥) → Admits operation other
  pub state : State model image all (done ++ b ∷ []) rest (placed_at s b.hart k operation n)
  pub same : Pairs SameEnd s.nodes (placed_at s b.hart k operation n).nodes

same_beside : (w : Waiting) (nodes : List Node) → Pairs SameEnd nodes (map (beside w) nodes)
same_beside w [] = tt
same_beside w (y ∷ ys) = ((refl, refl), same_beside w ys)

same_placed : (w : Waiting) (nodes : List Node) (h k : ℕ) (n : Node) → slice_get nodes h ≡ Some n → Pairs SameEnd nodes (slice_set (map (beside w) nodes) h (placed n k w))
same_placed w [] h k n e = absurd (none-some n e)
same_placed w (x ∷ nodes) zero k n e = ((ap (λ (y : Node). y.hart) (same_Some x n e), ap (λ (y : Node). y.output) (same_Some x n e)), same_beside w nodes)
same_placed w (x ∷ nodes) (suc h) k n e = ((refl, refl), same_placed w nodes h k n e)

-- memory behind b
holds_on : (c : Now) (memory : ℕ → ℕ) → Holds c.image c.done memory → Holds c.image (c.done ++ c.b ∷ []) (written_over c.w memory)
holds_on c memory h x =
    ap (λ t. cond t (written_at c.w x) (memory x)) (stores_is c.w c.b x s.kind_is s.address_is s.size_is)
    ∙ ap (λ v. cond (operation.stores_to x c.b) v (memory x)) (written_is c.w c.b x s.address_is s.written_is)
    ∙ go (operation.stores_to x c.b)
    ∙ sym (ap (λ ys. order.byte_from c.image x (last_or None ys)) (filter-append (operation.stores_to x) c.done (c.b ∷ [])))
  where
    s : Shows c.model c.w c.b
    s = (w_is_b c).shows

    go : (t : Bool) → cond t (operation.written_at c.b x) (memory x) ≡ order.byte_from c.image x (last_or None (filter (operation.stores_to x) c.done ++ cond t (c.b ∷ []) []))
    go true = sym (ap (order.byte_from c.image x) (last_end None (filter (operation.stores_to x) c.done) c.b))
    go false = h x ∙ sym (ap (λ ys. order.byte_from c.image x (last_or None ys)) (append-nil (filter (operation.stores_to x) c.done)))

present_at : (w : Waiting) (nodes : List Node) (h g k : ℕ) (n m : Node) → slice_get nodes h ≡ Some n → slice_get nodes g ≡ Some m → (o : Node) × (slice_get (slice_set (map (beside w) nodes) h (placed n k w)) g ≡ Some o)
present_at w nodes h g k n m e f =
    ⊎_elim
    (λ same. (placed n k w, ap (slice_get (slice_set (map (beside w) nodes) h (placed n k w))) same ∙ get_set (map (beside w) nodes) h (beside w n) (placed n k w) (slice_get-map (beside w) nodes h ∙ ap (option_map (beside w)) e)))
    (λ other. (beside w m, get_set_other (map (beside w) nodes) h g (placed n k w) other ∙ slice_get-map (beside w) nodes g ∙ ap (option_map (beside w)) f))
    (same_or_not g h)

pub place_at : (model : MemoryModel) (image : ℕ → ℕ) (all : List (List Item)) (whole done : List Operation) (b : Operation) (rest : List Operation) (s : System) → Legal model image all whole → whole ≡ done ++ b ∷ rest → (state : State model image all done (b ∷ rest) s)
    → (n : Node) (e : slice_get s.nodes b.hart ≡ Some n) (k : ℕ) → slice_get (state.harts b.hart n e).ops k ≡ Some b
    → PlacedAt model image all done b rest s n k
place_at model image all whole done b rest s legal split state n e k here = record {
  operation = c.w;
  can = can_place c s.memory state.holds;
  admitted = λ g other f d. let h = state.harts g other f in admits c g other h.ops (record { kept = h.kept; other = d });
  state = record {
    holds = holds_on c s.memory state.holds;
    harts = harts;
    present = λ a m. let p = state.present a (inr m) in present_at c.w s.nodes b.hart a.hart k n p.0 e p.1;
  };
  same = same_placed c.w s.nodes b.hart k n e;
}
  where
    hart : HasHart model all b.hart done (b ∷ rest) n
    hart = state.harts b.hart n e

    v : Beside (λ o w. Stands model (items_of all b.hart) hart.ops w o) n.window b k
    v = pairs_right (Stands model (items_of all b.hart) hart.ops) n.window hart.ops k b hart.kept.window here

    c : Now
    c = record { model = model; image = image; all = all; whole = whole; done = done; b = b; rest = rest; n = n; ops = hart.ops; k = k; w = v.other; legal = legal; split = split; kept = hart.kept; here = here; waiting = v.stands }

    harts : (g : ℕ) (m : Node) → slice_get (slice_set (map (beside c.w) s.nodes) b.hart (placed n k c.w)) g ≡ Some m → HasHart model all g (done ++ b ∷ []) rest m
    harts g m f =
        at_set_either (HasHart model all g (done ++ b ∷ []) rest m) (map (beside c.w) s.nodes) b.hart g (beside c.w n) (placed n k c.w) m (slice_get-map (beside c.w) s.nodes b.hart ∙ ap (option_map (beside c.w)) e) f
        (λ own is. subst (λ h. HasHart model all h (done ++ b ∷ []) rest m) (sym own) (subst (HasHart model all b.hart (done ++ b ∷ []) rest) (sym is) (record { ops = remove c.ops c.k; kept = placed_kept c })))
        (λ other there.
        let o = mapped_at c.w s.nodes g m there in
        let h = state.harts g o.0 o.1 in
        subst (HasHart model all g (done ++ b ∷ []) rest) (sym o.2) (record { ops = h.ops; kept = other_kept c g o.0 h.ops (record { kept = h.kept; other = other }) }))
