-- The whole path: each hart fetches its list, and then the operations are placed in the order.
use Rattle.std.proofs.Common.{◌≡◌, ℕ, zero, suc, ◌+◌, ◌<◌, List, [], ◌∷◌, ◌++◌, Bool, true, false, Option, Some, None, refl, cond, sym, ap, ◌∙◌, inl, inr, arith, drop, length, subst, take}
use Rattle.std.specs.Prelude.{filter, map, slice_get, slice_index_or, slice_set}
use Rattle.std.specs.List.{cons_option, filter_map, last_or, list_all, range_with_len, remove}
use Rattle.std.specs.Option.{option_map}
use Rattle.std.proofs.Math.Path.{fun_ext}
use Rattle.std.proofs.lemmas.Bool.{false≢true, and_parts, or_left}
use Rattle.std.proofs.lemmas.List.{append-nil, append_assoc, length-append}
use Rattle.std.proofs.lemmas.List.Elements.{filter-append}
use Rattle.std.proofs.lemmas.Option.{none-some, same_Some, slice_get-map}
use Rattle.elf_loader.specs.Image.{Initial, byte_at}
use Rattle.hart.specs.declared.retired.Retired.{Retired}
use Rattle.hart.specs.declared.state.Hart.{Hart}
use Rattle.hart.specs.declared.status.Status.{Status}
use Rattle.hart.specs.Run.{are_steps, at_reset, is_run, reached, status_fits}
use Rattle.machine_types.specs.declared.config.Config.{Config}
use Rattle.machine_types.specs.declared.model.MemoryModel.{MemoryModel}
use Rattle.memory_model.specs.declared.operation.Operation.{Operation}
use Rattle.memory_model.specs.Items.{Item, items_from, items_of_harts}
use Rattle.memory_model.specs.Operations as operation
use Rattle.memory_model.specs.Order as order
use Rattle.memory_model.specs.Rules.{items_of}
use Rattle.memory_model.specs.Traces.{are_runs_from, image_of, instructions, operation_at, operations_at}
use Rattle.memory_model.proofs.Lists.{Member}
use Rattle.trace_recorder.specs.History.{History}
use Rattle.witnesses.specs.Outcomes.{results_from}
use Rattle.witnesses.specs.Witnesses.{has_ended}
use Rattle.window_model.specs.Complete.{IsEnded, SeesOnly}
use Rattle.window_model.specs.Fetching.{fetched}
use Rattle.window_model.specs.Laws.{EndedAreFollowed, IsFollowed, operations_of}
use Rattle.window_model.specs.Lazily.{CanFetchAll, fetched_all}
use Rattle.window_model.specs.Nodes.{Node, node_at_reset}
use Rattle.window_model.specs.Pairs.{Pairs}
use Rattle.window_model.specs.Placing.{beside, placed, written_over}
use Rattle.window_model.specs.Reserving.{are_reserved}
use Rattle.window_model.specs.Systems.{HaveEndedAs, LeadsSeen, Places, Step, System, is_stopped_as, opening}
use Rattle.window_model.specs.Systems.Step.{Fetch, Place}
use Rattle.window_model.specs.Waiting.{Waiting, written_at}
use Rattle.window_model.proofs.Pairs.{Beside, pairs_right}
use Rattle.window_model.proofs.following.Admitting.{admits}
use Rattle.window_model.proofs.following.Ended.{Listed, legal_of, lists_of}
use Rattle.window_model.proofs.following.Kept.{Kept, Shows, Stands}
use Rattle.window_model.proofs.following.Last.{last_end}
use Rattle.window_model.proofs.following.Lists.{can_fetch_all, hart_fetched, list_kept, output_fetched}
use Rattle.window_model.proofs.following.Moved.{other_kept, placed_kept}
use Rattle.window_model.proofs.following.Placing.{Holds, can_place, front_at, stores_is, written_is}
use Rattle.window_model.proofs.following.Remaining.{IsAt, Now, Remaining, w_is_b}
use Rattle.window_model.proofs.following.Whole.{Legal}

-- ---- the operations of a list

record IsItems (items : List Item) (a : Operation) : Type 0 where
  place : ℕ
  item : Item
  stands : slice_get items place ≡ Some item
  gives : item.operation ≡ Some a

item_of_operation : (items : List Item) (j : ℕ) (a : Operation) → slice_get (operations_of items) j ≡ Some a → IsItems items a
item_of_operation [] j a e = absurd (none-some a e)
item_of_operation (m ∷ rest) j a e = go m.operation refl j e (λ i f. item_of_operation rest i a f)
  where
    later : IsItems rest a → IsItems (m ∷ rest) a
    later h = record { place = suc h.place; item = h.item; stands = h.stands; gives = h.gives }

    go : (o : Option Operation) → m.operation ≡ o → (i : ℕ) → slice_get (cons_option o (operations_of rest)) i ≡ Some a → ((i : ℕ) → slice_get (operations_of rest) i ≡ Some a → IsItems rest a) → IsItems (m ∷ rest) a
    go None f i g behind = later (behind i g)
    go (Some b) f zero g behind = record { place = 0; item = m; stands = refl; gives = f ∙ g }
    go (Some b) f (suc i) g behind = later (behind i g)

operation_of_item : (items : List Item) (k : ℕ) (m : Item) (a : Operation) → slice_get items k ≡ Some m → m.operation ≡ Some a → IsAt (operations_of items) a
operation_of_item [] k m a e f = absurd (none-some m e)
operation_of_item (x ∷ rest) zero m a e f = subst (λ o. IsAt (cons_option o (operations_of rest)) a) (sym (ap (λ (i : Item). i.operation) (same_Some x m e) ∙ f)) (record { position = 0; stands = refl })
operation_of_item (x ∷ rest) (suc k) m a e f = go x.operation (operation_of_item rest k m a e f)
  where
    go : (o : Option Operation) → IsAt (operations_of rest) a → IsAt (cons_option o (operations_of rest)) a
    go None h = h
    go (Some b) h = record { position = suc h.position; stands = h.stands }

-- each operation bears its instruction's place, counted from a number
abbrev ArePlaced : ℕ → List Item → Type 0
ArePlaced place items = (k : ℕ) (m : Item) (a : Operation) → slice_get items k ≡ Some m → m.operation ≡ Some a → a.place ≡ place + k

operations_sorted : (place : ℕ) (items : List Item) → ArePlaced place items → (i j : ℕ) (a b : Operation) → slice_get (operations_of items) i ≡ Some a → slice_get (operations_of items) j ≡ Some b → i < j → a.place < b.place
operations_sorted place [] h i j a b e f l = absurd (none-some a e)
operations_sorted place (m ∷ rest) h i j a b e f l = go m.operation refl i j e f l (λ i j e f l. operations_sorted (place + 1) rest behind i j a b e f l)
  where
    behind : ArePlaced (place + 1) rest
    behind k n c p q = h (suc k) n c p q ∙ omega arith

    go : (o : Option Operation) → m.operation ≡ o → (i j : ℕ) → slice_get (cons_option o (operations_of rest)) i ≡ Some a → slice_get (cons_option o (operations_of rest)) j ≡ Some b → i < j
        → ((i j : ℕ) → slice_get (operations_of rest) i ≡ Some a → slice_get (operations_of rest) j ≡ Some b → i < j → a.place < b.place) → a.place < b.place
    go None g i j p q l later = later i j p q l
    go (Some c) g zero zero p q l later = absurd (omega (arith, l))
    go (Some c) g zero (suc j) p q l later =
        let t = item_of_operation rest j b q in
        let here = h 0 m a refl (g ∙ p) in
        let there = behind t.place t.item b t.stands t.gives in
        omega (arith, here, there)
    go (Some c) g (suc i) zero p q l later = absurd (omega (arith, l))
    go (Some c) g (suc i) (suc j) p q l later = later i j p q (omega (arith, l))

-- ---- nothing is placed yet

pub remains : (model : MemoryModel) (image : ℕ → ℕ) (all : List (List Item)) (whole : List Operation) → Legal model image all whole → (h p : ℕ) (n : Node) → Listed h (items_of all h) → Kept model (items_of all h) h p n (operations_of (items_of all h)) → Remaining model all h [] whole n (operations_of (items_of all h))
remains model image all whole legal h p n listed kept = record {
  own = λ k a e. let o = kept.own k a e in record { item = o.item; stands = o.stands; gives = o.gives; hart_is = o.hart_is; before = omega arith; is = o.is };
  window = kept.window;
  waits = λ k a e. let o = kept.own k a e in (legal.every h a.place o.item a o.stands o.gives).0;
  every = λ a m e. let o = legal.own a m in operation_of_item (items_of all h) a.place o.item a (ap (λ g. slice_get (items_of all g) a.place) (sym e) ∙ o.stands) o.gives;
  sorted = operations_sorted 0 (items_of all h) (λ k m a e f. (listed.own k m a e f).1 ∙ omega arith);
  pins = λ k w a x e f q. absurd (false≢true (sym (kept.unpinned k w x e) ∙ q));
}

-- ---- placing

pub record HasHart (model : MemoryModel) (all : List (List Item)) (h : ℕ) (done rest : List Operation) (n : Node) : Type 0 where
  pub ops : List Operation
  pub kept : Remaining model all h done rest n ops

-- the system while `done` are placed
pub record State (model : MemoryModel) (image : ℕ → ℕ) (all : List (List Item)) (done rest : List Operation) (s : System) : Type 0 where
  pub holds : Holds image done s.memory
  pub harts : (g : ℕ) (n : Node) → slice_get s.nodes g ≡ Some n → HasHart model all g done rest n
  pub present : (a : Operation) → Member a rest → (n : Node) × (slice_get s.nodes a.hart ≡ Some n)

-- what a hart shows at its end
abbrev pub SameEnd : Node → Node → Type 0
SameEnd n m = (n.hart ≡ m.hart) × (n.output ≡ m.output)

pub same_ends : (nodes : List Node) → Pairs SameEnd nodes nodes
same_ends [] = tt
same_ends (n ∷ nodes) = ((refl, refl), same_ends nodes)

pub ends_on : (xs ys zs : List Node) → Pairs SameEnd xs ys → Pairs SameEnd ys zs → Pairs SameEnd xs zs
ends_on [] [] [] h k = tt
ends_on [] [] (z ∷ zs) h k = absurd k
ends_on [] (y ∷ ys) zs h k = absurd h
ends_on (x ∷ xs) [] zs h k = absurd h
ends_on (x ∷ xs) (y ∷ ys) [] h k = absurd k
ends_on (x ∷ xs) (y ∷ ys) (z ∷ zs) h k = ((h.0.0 ∙ k.0.0, h.0.1 ∙ k.0.1), ends_on xs ys zs h.1 k.1)

ends_placed : (w : Waiting) (nodes : List Node) (h : ℕ) (n m : Node) → slice_get nodes h ≡ Some n → SameEnd n m → Pairs SameEnd nodes (slice_set (map (beside w) nodes) h m)
ends_placed w [] h n m e s = absurd (none-some n e)
ends_placed w (x ∷ nodes) zero n m e s = ((ap (λ (y : Node). y.hart) (same_Some x n e) ∙ s.0, ap (λ (y : Node). y.output) (same_Some x n e) ∙ s.1), ends_beside nodes)
  where
    ends_beside : (nodes : List Node) → Pairs SameEnd nodes (map (beside w) nodes)
    ends_beside [] = tt
    ends_beside (y ∷ ys) = ((refl, refl), ends_beside ys)
ends_placed w (x ∷ nodes) (suc h) n m e s = ((refl, refl), ends_placed w nodes h n m e s)

-- what stands at a position once the harts have seen a store
data Seen (w : Waiting) (nodes : List Node) (h g : ℕ) (m n : Node) : Type 0 where
  own : g ≡ h → m ≡ n → Seen w nodes h g m n
  others : (g ≡ h → ⊥) → (old : Node) → slice_get nodes g ≡ Some old → beside w old ≡ n → Seen w nodes h g m n

seen_at : (w : Waiting) (nodes : List Node) (h g : ℕ) (m n : Node) → slice_get (slice_set (map (beside w) nodes) h m) g ≡ Some n → Seen w nodes h g m n
seen_at w [] h g m n e = absurd (none-some n e)
seen_at w (x ∷ nodes) zero zero m n e = own refl (same_Some m n e)
seen_at w (x ∷ nodes) zero (suc g) m n e = others (λ f. absurd (omega (arith, f))) old.0 old.1 old.2
  where
    old : (o : Node) × (slice_get nodes g ≡ Some o) × (beside w o ≡ n)
    old = go (slice_get nodes g) refl (sym (slice_get-map (beside w) nodes g) ∙ e)
      where
        go : (o : Option Node) → slice_get nodes g ≡ o → option_map (beside w) o ≡ Some n → (o : Node) × (slice_get nodes g ≡ Some o) × (beside w o ≡ n)
        go None f k = absurd (none-some n k)
        go (Some y) f k = (y, f, same_Some (beside w y) n k)
seen_at w (x ∷ nodes) (suc h) zero m n e = others (λ f. absurd (omega (arith, f))) x refl (same_Some (beside w x) n e)
seen_at w (x ∷ nodes) (suc h) (suc g) m n e = go (seen_at w nodes h g m n e)
  where
    go : Seen w nodes h g m n → Seen w (x ∷ nodes) (suc h) (suc g) m n
    go (own f k) = own (ap (λ i. suc i) f) k
    go (others f o k j) = others (λ q. f (omega (arith, q))) o k j

stays_present : (w : Waiting) (nodes : List Node) (h g : ℕ) (m n : Node) → slice_get nodes g ≡ Some n → (o : Node) × (slice_get (slice_set (map (beside w) nodes) h m) g ≡ Some o)
stays_present w [] h g m n e = absurd (none-some n e)
stays_present w (x ∷ nodes) zero zero m n e = (m, refl)
stays_present w (x ∷ nodes) zero (suc g) m n e = (beside w n, slice_get-map (beside w) nodes g ∙ ap (option_map (beside w)) e)
stays_present w (x ∷ nodes) (suc h) zero m n e = (beside w x, refl)
stays_present w (x ∷ nodes) (suc h) (suc g) m n e = stays_present w nodes h g m n e

-- memory behind b
holds_on : (c : Now) (memory : ℕ → ℕ) → Holds c.image c.done memory → Holds c.image (c.done ++ c.b ∷ []) (written_over c.w memory)
holds_on c memory h x =
    ap (λ t. cond t (written_at c.w x) (memory x)) (stores_is c.w c.b x s.kind_is s.address_is s.size_is)
    ∙ ap (λ v. cond (operation.stores_to x c.b) v (memory x)) (written_is c.w c.b x s.address_is s.written_is)
    ∙ go (operation.stores_to x c.b)
    ∙ sym (ap (λ ys. order.byte_from c.image x (last_or None ys)) (filter-append (operation.stores_to x) c.done (c.b ∷ [])))
  where
    s : Shows c.model c.w c.b
    s = (w_is_b c).shows

    go : (t : Bool) → cond t (operation.written_at c.b x) (memory x) ≡ order.byte_from c.image x (last_or None (filter (operation.stores_to x) c.done ++ cond t (c.b ∷ []) []))
    go true = sym (ap (order.byte_from c.image x) (last_end None (filter (operation.stores_to x) c.done) c.b))
    go false = h x ∙ sym (ap (λ ys. order.byte_from c.image x (last_or None ys)) (append-nil (filter (operation.stores_to x) c.done)))

pub record Placed (model : MemoryModel) (image : ℕ → ℕ) (all : List (List Item)) (done : List Operation) (b : Operation) (rest : List Operation) (s : System) : Type 0 where
  pub position : ℕ
  pub new : System
  pub places : Places b.hart position s new
  pub state : State model image all (done ++ b ∷ []) rest new
  pub same : Pairs SameEnd s.nodes new.nodes

pub place_one : (model : MemoryModel) (image : ℕ → ℕ) (all : List (List Item)) (whole done : List Operation) (b : Operation) (rest : List Operation) (s : System) → Legal model image all whole → whole ≡ done ++ b ∷ rest → State model image all done (b ∷ rest) s → Placed model image all done b rest s
place_one model image all whole done b rest s legal split state = record {
  position = c.k;
  new = t;
  places = record { node = c.n; operation = c.w; stands = there.1; can = can_place c s.memory state.holds; admitted = λ g other e f. let h = state.harts g other e in admits c g other h.ops (record { kept = h.kept; other = f }); new = refl };
  state = record {
    holds = holds_on c s.memory state.holds;
    harts = λ g n e. harts g n (seen_at c.w s.nodes b.hart g (placed c.n c.k c.w) n e);
    present = λ a m. let p = state.present a (inr m) in stays_present c.w s.nodes b.hart a.hart (placed c.n c.k c.w) p.0 p.1;
  };
  same = ends_placed c.w s.nodes b.hart c.n (placed c.n c.k c.w) there.1 (refl, refl);
}
  where
    there : (n : Node) × (slice_get s.nodes b.hart ≡ Some n)
    there = state.present b (inl refl)

    hart : HasHart model all b.hart done (b ∷ rest) there.0
    hart = state.harts b.hart there.0 there.1

    at : IsAt hart.ops b
    at = hart.kept.every b (inl refl) refl

    v : Beside (λ o w. Stands model (items_of all b.hart) hart.ops w o) there.0.window b at.position
    v = pairs_right (Stands model (items_of all b.hart) hart.ops) there.0.window hart.ops at.position b hart.kept.window at.stands

    c : Now
    c = record { model = model; image = image; all = all; whole = whole; done = done; b = b; rest = rest; n = there.0; ops = hart.ops; k = at.position; w = v.other; legal = legal; split = split; kept = hart.kept; here = at.stands; waiting = v.stands }

    t : System
    t = record { memory = written_over c.w s.memory; nodes = slice_set (map (beside c.w) s.nodes) b.hart (placed c.n c.k c.w) }

    harts : (g : ℕ) (n : Node) → Seen c.w s.nodes b.hart g (placed c.n c.k c.w) n → HasHart model all g (done ++ b ∷ []) rest n
    harts g n (own e f) = subst (λ h. HasHart model all h (done ++ b ∷ []) rest n) (sym e) (subst (HasHart model all b.hart (done ++ b ∷ []) rest) f (record { ops = remove c.ops c.k; kept = placed_kept c }))
    harts g n (others e old f k) = let h = state.harts g old f in subst (HasHart model all g (done ++ b ∷ []) rest) k (record { ops = h.ops; kept = other_kept c g old h.ops (record { kept = h.kept; other = e }) })

pub record PlacedAll (model : MemoryModel) (initial : Initial) (seen : (ℕ → ℕ) → Bool) (image : ℕ → ℕ) (all : List (List Item)) (whole : List Operation) (s : System) : Type 0 where
  pub steps : List Step
  pub end : System
  pub leads : LeadsSeen model initial seen steps s end
  pub state : State model image all whole [] end
  pub same : Pairs SameEnd s.nodes end.nodes

pub place_all : (model : MemoryModel) (initial : Initial) (seen : (ℕ → ℕ) → Bool) (image : ℕ → ℕ) (all : List (List Item)) (whole done rest : List Operation) (s : System) → Legal model image all whole → whole ≡ done ++ rest → State model image all done rest s → ((d r : List Operation) → whole ≡ d ++ r → seen (order.last_write image d) ≡ true) → PlacedAll model initial seen image all whole s
place_all model initial seen image all whole done [] s legal split state saws =
    record { steps = []; end = s; leads = refl; state = subst (λ ds. State model image all ds [] s) (sym (split ∙ append-nil done)) state; same = same_ends s.nodes }
place_all model initial seen image all whole done (b ∷ rest) s legal split state saws =
    let one = place_one model image all whole done b rest s legal split state in
    let longer = split ∙ sym (append_assoc done (b ∷ []) rest) in
    let others = place_all model initial seen image all whole (done ++ b ∷ []) rest one.new legal longer one.state saws in
    record {
      steps = Place b.hart one.position ∷ others.steps;
      end = others.end;
      leads = (one.new, one.places, ap seen (fun_ext one.state.holds) ∙ saws (done ++ b ∷ []) rest longer, others.leads);
      state = others.state;
      same = ends_on s.nodes one.new.nodes others.end.nodes one.same others.same;
    }

-- ---- fetching

pub leads_append : (model : MemoryModel) (image : Initial) (seen : (ℕ → ℕ) → Bool) (xs ys : List Step) (s t u : System) → LeadsSeen model image seen xs s t → LeadsSeen model image seen ys t u → LeadsSeen model image seen (xs ++ ys) s u
leads_append model image seen [] ys s t u h k = subst (λ v. LeadsSeen model image seen ys v u) (sym h) k
leads_append model image seen (x ∷ xs) ys s t u h k = (h.0, h.1, h.2, leads_append model image seen xs ys h.0 t u h.3 k)

set_front : (front : List Node) (n m : Node) (back : List Node) → slice_set (front ++ n ∷ back) (length front) m ≡ front ++ m ∷ back
set_front [] n m back = refl
set_front (x ∷ front) n m back = ap (λ ys. x ∷ ys) (set_front front n m back)

fetch_list : (model : MemoryModel) (image : Initial) (seen : (ℕ → ℕ) → Bool) (memory : ℕ → ℕ) (front back : List Node) (n : Node) (entries : List Retired) → CanFetchAll model image n entries → seen memory ≡ true
    → LeadsSeen model image seen (map (Fetch (length front)) entries) (record { memory = memory; nodes = front ++ n ∷ back }) (record { memory = memory; nodes = front ++ fetched_all model n entries ∷ back })
fetch_list model image seen memory front back n [] h saw = refl
fetch_list model image seen memory front back n (entry ∷ rest) h saw = (
  record { memory = memory; nodes = front ++ fetched model n entry ∷ back },
  record { node = n; stands = front_at front n back; can = h.0; new = ap (λ ns. record { memory = memory; nodes = ns }) (sym (set_front front n (fetched model n entry) back)) },
  saw,
  fetch_list model image seen memory front back (fetched model n entry) rest h.1 saw,
)

abbrev pub fetched_from : MemoryModel → Initial → (harts id : ℕ) → List (List Retired) → List Node
fetched_from model image harts id [] = []
fetched_from model image harts id (entries ∷ rest) = fetched_all model (node_at_reset image harts id) entries ∷ fetched_from model image harts (id + 1) rest

abbrev pub CanFetchLists : MemoryModel → Initial → (harts id : ℕ) → List (List Retired) → Type 0
CanFetchLists model image harts id [] = Unit {0}
CanFetchLists model image harts id (entries ∷ rest) = CanFetchAll model image (node_at_reset image harts id) entries × CanFetchLists model image harts (id + 1) rest

pub record FetchedLists (model : MemoryModel) (image : Initial) (seen : (ℕ → ℕ) → Bool) (memory : ℕ → ℕ) (harts id : ℕ) (front : List Node) (lists : List (List Retired)) : Type 0 where
  pub steps : List Step
  pub leads : LeadsSeen model image seen steps (record { memory = memory; nodes = front ++ map (node_at_reset image harts) (range_with_len id (length lists)) }) (record { memory = memory; nodes = front ++ fetched_from model image harts id lists })

pub fetch_lists : (model : MemoryModel) (image : Initial) (seen : (ℕ → ℕ) → Bool) (memory : ℕ → ℕ) (harts id : ℕ) (front : List Node) (lists : List (List Retired)) → length front ≡ id → CanFetchLists model image harts id lists → seen memory ≡ true → FetchedLists model image seen memory harts id front lists
fetch_lists model image seen memory harts id front [] e h saw = record { steps = []; leads = refl }
fetch_lists model image seen memory harts id front (entries ∷ rest) e h saw =
    let n = node_at_reset image harts id in
    let m = fetched_all model n entries in
    let back = map (node_at_reset image harts) (range_with_len (id + 1) (length rest)) in
    let one = fetch_list model image seen memory front back n entries h.0 saw in
    let longer = length-append front (m ∷ []) in
    let others = fetch_lists model image seen memory harts (id + 1) (front ++ m ∷ []) rest (omega (arith, longer, e)) h.1 saw in
    let moved : LeadsSeen model image seen others.steps (record { memory = memory; nodes = front ++ m ∷ back }) (record { memory = memory; nodes = front ++ m ∷ fetched_from model image harts (id + 1) rest }) =
    subst (λ ns. LeadsSeen model image seen others.steps (record { memory = memory; nodes = front ++ m ∷ back }) (record { memory = memory; nodes = ns })) (append_assoc front (m ∷ []) (fetched_from model image harts (id + 1) rest))
    (subst (λ ns. LeadsSeen model image seen others.steps (record { memory = memory; nodes = ns }) (record { memory = memory; nodes = (front ++ m ∷ []) ++ fetched_from model image harts (id + 1) rest })) (append_assoc front (m ∷ []) back) others.leads) in
    record {
      steps = map (Fetch (length front)) entries ++ others.steps;
      leads = leads_append model image seen (map (Fetch (length front)) entries) others.steps (record { memory = memory; nodes = front ++ n ∷ back }) (record { memory = memory; nodes = front ++ m ∷ back }) (record { memory = memory; nodes = front ++ m ∷ fetched_from model image harts (id + 1) rest }) one moved;
    }

-- ---- a run

-- each hart can fetch its list
pub can_fetch_lists : (model : MemoryModel) (image : Initial) (harts id : ℕ) (lists : List (List Retired)) (statuses : List Status) → are_runs_from image harts id lists statuses ≡ true → list_all (are_reserved None) (items_of_harts image harts id lists) ≡ true → CanFetchLists model image harts id lists
can_fetch_lists model image harts id [] statuses r s = tt
can_fetch_lists model image harts id (entries ∷ rest) [] r s = absurd (false≢true r)
can_fetch_lists model image harts id (entries ∷ rest) (status ∷ statuses) r s =
    let runs = and_parts (is_run image id harts entries status) (are_runs_from image harts (id + 1) rest statuses) r in
    let run = and_parts (are_steps image (at_reset image id harts) entries) (status_fits image (reached (at_reset image id harts) entries) status) runs.0 in
    let reserved = and_parts (are_reserved None (items_from 0 (at_reset image id harts) entries)) (list_all (are_reserved None) (items_of_harts image harts (id + 1) rest)) s in
    (can_fetch_all model image 0 (node_at_reset image harts id) entries run.0 reserved.0, can_fetch_lists model image harts (id + 1) rest statuses runs.1 reserved.1)

-- and what is kept of each behind its list
pub fetched_kept_at : (model : MemoryModel) (image : Initial) (harts id : ℕ) (lists : List (List Retired)) → list_all (are_reserved None) (items_of_harts image harts id lists) ≡ true → (g : ℕ) (n : Node) → slice_get (fetched_from model image harts id lists) g ≡ Some n
    → (p : ℕ) × Kept model (slice_index_or (items_of_harts image harts id lists) g []) (id + g) p n (operations_of (slice_index_or (items_of_harts image harts id lists) g []))
fetched_kept_at model image harts id [] s g n e = absurd (none-some n e)
fetched_kept_at model image harts id (entries ∷ rest) s zero n e =
    let reserved = and_parts (are_reserved None (items_from 0 (at_reset image id harts) entries)) (list_all (are_reserved None) (items_of_harts image harts (id + 1) rest)) s in
    let items = items_from 0 (at_reset image id harts) entries in
    let same : id ≡ id + 0 = omega arith in
    (length entries, subst (λ h. Kept model items h (length entries) n (operations_of items)) same (subst (λ m. Kept model items id (length entries) m (operations_of items)) (same_Some (fetched_all model (node_at_reset image harts id) entries) n e) (list_kept model image harts id entries reserved.0)))
fetched_kept_at model image harts id (entries ∷ rest) s (suc g) n e =
    let reserved = and_parts (are_reserved None (items_from 0 (at_reset image id harts) entries)) (list_all (are_reserved None) (items_of_harts image harts (id + 1) rest)) s in
    let h = fetched_kept_at model image harts (id + 1) rest reserved.1 g n e in
    let same : id + 1 + g ≡ id + suc g = omega arith in
    let items = slice_index_or (items_of_harts image harts (id + 1) rest) g [] in
    (h.0, subst (λ k. Kept model items k h.0 n (operations_of items)) same h.1)

-- where nothing is left to be placed, nothing waits
pub nothing_waits : (model : MemoryModel) (items : List Item) (all : List Operation) (window : List Waiting) (ops : List Operation) → Pairs (Stands model items all) window ops → ((k : ℕ) (a : Operation) → slice_get ops k ≡ Some a → ⊥) → window ≡ []
nothing_waits model items all [] ops h f = refl
nothing_waits model items all (w ∷ ws) [] h f = absurd h
nothing_waits model items all (w ∷ ws) (a ∷ ops) h f = absurd (f 0 a refl)

pub have_ended : (model : MemoryModel) (image : Initial) (harts id : ℕ) (lists : List (List Retired)) (statuses : List Status) (nodes : List Node)
    → Pairs SameEnd (fetched_from model image harts id lists) nodes
    → ((k : ℕ) (n : Node) → slice_get nodes k ≡ Some n → n.window ≡ [])
    → are_runs_from image harts id lists statuses ≡ true → list_all has_ended statuses ≡ true
    → HaveEndedAs image nodes (results_from image harts id lists statuses)
have_ended model image harts id [] statuses [] h w r s = tt
have_ended model image harts id [] statuses (n ∷ nodes) h w r s = absurd h
have_ended model image harts id (entries ∷ rest) statuses [] h w r s = absurd h
have_ended model image harts id (entries ∷ rest) [] (n ∷ nodes) h w r s = absurd (false≢true r)
have_ended model image harts id (entries ∷ rest) (status ∷ statuses) (n ∷ nodes) h w r s =
    let runs = and_parts (is_run image id harts entries status) (are_runs_from image harts (id + 1) rest statuses) r in
    let run = and_parts (are_steps image (at_reset image id harts) entries) (status_fits image (reached (at_reset image id harts) entries) status) runs.0 in
    let ended = and_parts (has_ended status) (list_all has_ended statuses) s in
    let m = node_at_reset image harts id in (
      record {
        placed = w 0 n refl;
        ended = ended.0;
        status = or_left (status_fits image n.hart status) (is_stopped_as n.hart.status status) (ap (λ (q : Hart). status_fits image q status) (sym h.0.0 ∙ hart_fetched model m entries) ∙ run.1);
        output = sym h.0.1 ∙ output_fetched model m entries;
      },
      have_ended model image harts (id + 1) rest statuses nodes h.1 (λ k o e. w (suc k) o e) runs.1 ended.1,
    )

-- each operation's hart is there
pub harts_present : (model : MemoryModel) (image : Initial) (harts id : ℕ) (lists : List (List Retired)) (h k : ℕ) (m : Item) → slice_get (slice_index_or (items_of_harts image harts id lists) h []) k ≡ Some m → (n : Node) × (slice_get (fetched_from model image harts id lists) h ≡ Some n)
harts_present model image harts id [] h k m e = absurd (none-some m e)
harts_present model image harts id (entries ∷ rest) zero k m e = (fetched_all model (node_at_reset image harts id) entries, refl)
harts_present model image harts id (entries ∷ rest) (suc h) k m e = harts_present model image harts (id + 1) rest h k m e

-- a beginning of what some elements give is what a beginning of them gives
pub prefix : {X Y : Type 0} (f : X → Option Y) (xs : List X) (done rest : List Y) → filter_map f xs ≡ done ++ rest → (k : ℕ) × (filter_map f (take k xs) ≡ done)
prefix f [] [] rest e = (0, refl)
prefix f [] (d ∷ done) rest e = absurd (none-some d (ap (λ ys. slice_get ys 0) e))
prefix {X = X} {Y = Y} f (x ∷ xs) done rest e = go (f x) refl done e (λ d h. prefix f xs d rest h)
  where
    go : (o : Option Y) → f x ≡ o → (ds : List Y) → cons_option o (filter_map f xs) ≡ ds ++ rest
        → ((d : List Y) → filter_map f xs ≡ d ++ rest → (k : ℕ) × (filter_map f (take k xs) ≡ d))
        → (k : ℕ) × (filter_map f (take k (x ∷ xs)) ≡ ds)
    go None q ds h next = let r = next ds h in (suc r.0, ap (λ o. cons_option o (filter_map f (take r.0 xs))) q ∙ r.1)
    go (Some y) q [] h next = (0, refl)
    go (Some y) q (d ∷ ds) h next =
        let r = next ds (ap (drop 1) h) in
        (suc r.0, ap (λ o. cons_option o (filter_map f (take r.0 xs))) q ∙ ap (λ z. z ∷ filter_map f (take r.0 xs)) (same_Some y d (ap (λ ys. slice_get ys 0) h)) ∙ ap (λ ys. d ∷ ys) r.1)

follow : (config : Config) (seen : (ℕ → ℕ) → Bool) (t : History) → IsEnded t.image config t → length t.entries ≡ config.harts → SeesOnly seen t → IsFollowed t.image config seen t
follow config seen t ended count sees = record {
  steps = fetching.steps ++ placing.steps;
  end = placing.end;
  leads =
      leads_append config.model t.image seen fetching.steps placing.steps (opening t.image config.harts) fetched_system placing.end
      (subst (λ n. LeadsSeen config.model t.image seen fetching.steps (opening t.image n) fetched_system) count fetching.leads) placing.leads;
  ended = have_ended config.model t.image n 0 t.entries t.statuses placing.end.nodes placing.same empty ended.allowed.runs ended.ended;
  memory = placing.state.holds;
}
  where
    n : ℕ
    n = length t.entries

    all : List (List Item)
    all = instructions t

    whole : List Operation
    whole = operations_at all t.performed

    legal : Legal config.model (image_of t) all whole
    legal = legal_of config.model t ended.allowed.order ended.allowed.legal

    fetched_system : System
    fetched_system = record { memory = byte_at t.image; nodes = fetched_from config.model t.image n 0 t.entries }

    saws : (d r : List Operation) → whole ≡ d ++ r → seen (order.last_write (image_of t) d) ≡ true
    saws d r e = let p = prefix (operation_at all) t.performed d r e in ap (λ ops. seen (order.last_write (image_of t) ops)) (sym p.1) ∙ sees p.0

    fetching : FetchedLists config.model t.image seen (byte_at t.image) n 0 [] t.entries
    fetching = fetch_lists config.model t.image seen (byte_at t.image) n 0 [] t.entries refl (can_fetch_lists config.model t.image n 0 t.entries t.statuses ended.allowed.runs ended.reserved) (saws [] whole refl)

    start : State config.model (image_of t) all [] whole fetched_system
    start = record {
      holds = λ x. refl;
      harts = λ g m e.
          let h = fetched_kept_at config.model t.image n 0 t.entries ended.reserved g m e in
          let same : 0 + g ≡ g = omega arith in
          record { ops = operations_of (items_of all g); kept = remains config.model (image_of t) all whole legal g h.0 m (lists_of t g) (subst (λ k. Kept config.model (items_of all g) k h.0 m (operations_of (items_of all g))) same h.1) };
      present = λ a m. let o = legal.own a m in harts_present config.model t.image n 0 t.entries a.hart a.place o.item o.stands;
    }

    placing : PlacedAll config.model t.image seen (image_of t) all whole fetched_system
    placing = place_all config.model t.image seen (image_of t) all whole [] whole fetched_system legal refl start saws

    empty : (k : ℕ) (m : Node) → slice_get placing.end.nodes k ≡ Some m → m.window ≡ []
    empty k m e = let h = placing.state.harts k m e in nothing_waits config.model (items_of all k) h.ops m.window h.ops h.kept.window (λ j a f. h.kept.waits j a f)

pub ended_are_followed : EndedAreFollowed
ended_are_followed image config seen t ended sees =
    subst (λ i. IsFollowed i config seen t) ended.image_is
    (follow config seen t (subst (λ i. IsEnded i config t) (sym ended.image_is) ended) ended.harts sees)
