-- A hart fetches its whole list.
use Rattle.std.proofs.Common.{◌≡◌, ℕ, suc, ◌+◌, ◌<◌, List, [], ◌∷◌, ◌++◌, Bool, true, false, Option, Some, None, refl, cond, sym, ap, ◌∙◌, ◌||◌, arith, length, subst}
use Rattle.std.specs.Prelude.{slice_get, slice_index_or}
use Rattle.std.specs.List.{cons_option, list_any}
use Rattle.std.specs.Option.{option_map, option_to_list}
use Rattle.std.proofs.lemmas.Bool.{and_from, and_parts}
use Rattle.std.proofs.lemmas.List.{append-nil, append_assoc}
use Rattle.std.proofs.lemmas.Option.{get_or_from_slice_get, none-some, same_Some}
use Rattle.elf_loader.specs.Image.{Initial}
use Rattle.hart.specs.declared.retired.Retired.{Retired}
use Rattle.hart.specs.Ends.{access_at}
use Rattle.hart.specs.Run.{after, are_steps, at_reset, is_step, reached}
use Rattle.machine_types.specs.declared.model.MemoryModel.{MemoryModel}
use Rattle.memory_model.specs.declared.operation.Operation.{Operation}
use Rattle.memory_model.specs.Items.{Item, item_of, items_from}
use Rattle.memory_model.specs.declared.operation.Kind.TheVariants.{Lr}
use Rattle.memory_model.specs.Dependencies.{has_address_dependency, has_data_dependency}
use Rattle.memory_model.specs.Operations.{is_lr, precedes, reads, writes}
use Rattle.memory_model.specs.Rules.{Rule, is_lr_or_sc, items_of, preserved, rules}
use Rattle.memory_model.proofs.Named.{id-after, listed_bears}
use Rattle.rv32_decode.specs.Rows.{decoded}
use Rattle.rv32_decode.specs.declared.instruction.Instr.{Instr}
use Rattle.trace_operations.specs.Placed.{IsPlaced}
use Rattle.window_model.specs.Fetching.{fetched, fetched_as, reservation_behind, reserves}
use Rattle.window_model.specs.Laws.{IsWaiting, ListsAreFetched, operations_of}
use Rattle.window_model.specs.Lazily.{CanFetchAll, fetched_all}
use Rattle.window_model.specs.Nodes.{Node, address_of, node_at_reset}
use Rattle.window_model.specs.Reserving.{are_reserved, may_do, reserved_behind, reserved_by}
use Rattle.window_model.specs.Waiting.{Waiting}
use Rattle.witnesses.specs.Outcomes.{number_out, output_from}
use Rattle.window_model.proofs.Pairs.{pairs_left, pairs_length}
use Rattle.window_model.proofs.Waits.{only_none}
use Rattle.window_model.proofs.following.Fetching.{Next, fetched_kept, precedes_by}
use Rattle.window_model.proofs.following.Given.{items_placed, operation_is, operation_of-unplaced, unplaced, written_below}
use Rattle.window_model.proofs.following.Kept.{Fills, Kept, Leads, Stands}
use Rattle.window_model.proofs.following.Rules.{asks}

may_do-unplaced : (word : Option ℕ) (o : Option Operation) → may_do word (option_map unplaced o) ≡ may_do word o
may_do-unplaced word None = refl
may_do-unplaced word (Some b) = refl

reserves-unplaced : (window : List Waiting) (o : Option Operation) → address_of (reserves window (option_map unplaced o)) ≡ reserved_by o
reserves-unplaced window None = refl
reserves-unplaced window (Some b) = go (is_lr b.kind)
  where
    go : (c : Bool) → address_of (cond c (reserves window (Some (record b { kind = Lr }))) None) ≡ cond c (Some b.address) None
    go true = refl
    go false = refl

-- the word that is reserved, by the list alone
address-behind : (n : Node) (i : Option Instr) (o : Option Operation) → address_of (reservation_behind n i (option_map unplaced o)) ≡ reserved_behind (address_of n.reserved) i o
address-behind n i o = go (is_lr_or_sc i)
  where
    go : (c : Bool) → address_of (cond c (reserves n.window (option_map unplaced o)) n.reserved) ≡ cond c (reserved_by o) (address_of n.reserved)
    go true = reserves-unplaced n.window o
    go false = refl

-- ---- each entry can be fetched

pub can_fetch_all : (model : MemoryModel) (image : Initial) (p : ℕ) (n : Node) (entries : List Retired) → are_steps image n.hart entries ≡ true → are_reserved (address_of n.reserved) (items_from p n.hart entries) ≡ true → CanFetchAll model image n entries
can_fetch_all model image p n [] s r = tt
can_fetch_all model image p n (entry ∷ rest) s r =
    let steps = and_parts (is_step image n.hart entry) (are_steps image (after n.hart entry) rest) s in
    let m = item_of p n.hart entry in
    let reserved = and_parts (may_do (address_of n.reserved) m.operation) (are_reserved (reserved_behind (address_of n.reserved) m.instr m.operation) (items_from (p + 1) (after n.hart entry) rest)) r in (
      record { step = steps.0; reserved = ap (may_do (address_of n.reserved)) (operation_of-unplaced p n.hart entry) ∙ may_do-unplaced (address_of n.reserved) m.operation ∙ reserved.0 },
      can_fetch_all model image (p + 1) (fetched model n entry) rest steps.1
          (ap (λ w. are_reserved w (items_from (p + 1) (after n.hart entry) rest)) (ap (λ o. address_of (reservation_behind n m.instr o)) (operation_of-unplaced p n.hart entry) ∙ address-behind n m.instr m.operation) ∙ reserved.1),
    )

pub hart_fetched : (model : MemoryModel) (n : Node) (entries : List Retired) → (fetched_all model n entries).hart ≡ reached n.hart entries
hart_fetched model n [] = refl
hart_fetched model n (entry ∷ rest) = hart_fetched model (fetched model n entry) rest

pub output_fetched : (model : MemoryModel) (n : Node) (entries : List Retired) → (fetched_all model n entries).output ≡ n.output ++ output_from n.hart entries
output_fetched model n [] = sym (append-nil n.output)
output_fetched model n (entry ∷ rest) = output_fetched model (fetched model n entry) rest ∙ append_assoc n.output (number_out (access_at n.hart (decoded entry.word))) (output_from (after n.hart entry) rest)

-- ---- what is kept

joined : (ops : List Operation) (o : Option Operation) (xs : List Operation) → (ops ++ option_to_list o) ++ xs ≡ ops ++ cons_option o xs
joined ops None xs = ap (λ ys. ys ++ xs) (append-nil ops)
joined ops (Some b) xs = append_assoc ops (b ∷ []) xs

kept_all : (model : MemoryModel) (items : List Item) (p : ℕ) (n : Node) (ops : List Operation) (entries : List Retired)
    → IsPlaced 0 items → ((k : ℕ) → slice_get items (p + k) ≡ slice_get (items_from p n.hart entries) k)
    → are_reserved (address_of n.reserved) (items_from p n.hart entries) ≡ true
    → Kept model items n.hart.id p n ops
    → Kept model items n.hart.id (p + length entries) (fetched_all model n entries) (ops ++ operations_of (items_from p n.hart entries))
kept_all model items p n ops [] placed same r h =
    let end : p ≡ p + 0 = omega arith in
    subst (λ q. Kept model items n.hart.id q n (ops ++ [])) end (subst (Kept model items n.hart.id p n) (sym (append-nil ops)) h)
kept_all model items p n ops (entry ∷ rest) placed same r h =
    let m = item_of p n.hart entry in
    let reserved = and_parts (may_do (address_of n.reserved) m.operation) (are_reserved (reserved_behind (address_of n.reserved) m.instr m.operation) (items_from (p + 1) (after n.hart entry) rest)) r in
    let end : p + 1 + length rest ≡ p + suc (length rest) = omega arith in
    let here : p + 0 ≡ p = omega arith in
    let next : Next model items n.hart.id p m = record {
      placed = placed;
      stands = ap (slice_get items) (sym here) ∙ same 0;
      own = λ b f.
          let bears = listed_bears p n.hart (entry ∷ rest) 0 m b refl f in
          (bears.hart_is, bears.place_is ∙ here, operation_is p n.hart entry (decoded entry.word) b f);
      written = λ s e. written_below entry.word s e;
    } in
    let step : Kept model items n.hart.id (p + 1) (fetched model n entry) (ops ++ option_to_list m.operation) =
    subst (λ o. Kept model items n.hart.id (p + 1) (fetched_as model n entry (decoded entry.word) o) (ops ++ option_to_list m.operation)) (sym (operation_of-unplaced p n.hart entry))
    (fetched_kept model items n.hart.id p m n ops entry next h (may_do-unplaced (address_of n.reserved) m.operation ∙ reserved.0)) in
    let whole = kept_all model items (p + 1) (fetched model n entry) (ops ++ option_to_list m.operation) rest placed
    (λ k. let there : p + 1 + k ≡ p + suc k = omega arith in ap (slice_get items) there ∙ same (suc k))
    (ap (λ w. are_reserved w (items_from (p + 1) (after n.hart entry) rest)) (ap (λ o. address_of (reservation_behind n m.instr o)) (operation_of-unplaced p n.hart entry) ∙ address-behind n m.instr m.operation) ∙ reserved.1)
    (subst (λ i. Kept model items i (p + 1) (fetched model n entry) (ops ++ option_to_list m.operation)) (sym (id-after n.hart entry)) step) in
    subst (λ q. Kept model items n.hart.id q (fetched_all model (fetched model n entry) rest) (ops ++ operations_of (items_from p n.hart (entry ∷ rest)))) end
    (subst (Kept model items n.hart.id (p + 1 + length rest) (fetched_all model (fetched model n entry) rest)) (joined ops m.operation (operations_of (items_from (p + 1) (after n.hart entry) rest)))
    (subst (λ i. Kept model items i (p + 1 + length rest) (fetched_all model (fetched model n entry) rest) ((ops ++ option_to_list m.operation) ++ operations_of (items_from (p + 1) (after n.hart entry) rest))) (id-after n.hart entry) whole))

reset_kept : (model : MemoryModel) (image : Initial) (harts id : ℕ) (items : List Item) → Kept model items id 0 (node_at_reset image harts id) []
reset_kept model image harts id items = record {
  own = λ k a e. absurd (none-some a e);
  window = tt;
  registers = λ r. only_none (Fills items 0 r) [];
  loads = only_none (Leads model items reads 0) [];
  stores = only_none (Leads model items writes 0) [];
  reserved = tt;
  unpinned = λ k w x e. absurd (none-some w e);
}

-- behind the whole list
pub list_kept : (model : MemoryModel) (image : Initial) (harts id : ℕ) (entries : List Retired)
    → are_reserved None (items_from 0 (at_reset image id harts) entries) ≡ true
    → Kept model (items_from 0 (at_reset image id harts) entries) id (length entries) (fetched_all model (node_at_reset image harts id) entries) (operations_of (items_from 0 (at_reset image id harts) entries))
list_kept model image harts id entries r =
    let items = items_from 0 (at_reset image id harts) entries in
    let end : 0 + length entries ≡ length entries = omega arith in
    subst (λ q. Kept model items id q (fetched_all model (node_at_reset image harts id) entries) (operations_of items)) end
    (kept_all model items 0 (node_at_reset image harts id) [] entries (items_placed 0 (at_reset image id harts) entries)
    (λ k. let there : 0 + k ≡ k = omega arith in ap (slice_get items) there) r (reset_kept model image harts id items))

-- ---- the law

preserved_by : (model : MemoryModel) (all : List (List Item)) (id : ℕ) (items : List Item) (order : List Operation) (a b : Operation) → slice_get all id ≡ Some items → a.hart ≡ id → precedes a b ≡ true → asks model items order a b ≡ true → preserved model all order a b ≡ true
preserved_by model all id items order a b e of_hart p t =
    and_from (precedes a b) (list_any (λ (r : Rule). r.asks model (items_of all a.hart) order a b) rules) p
    (ap (λ (ms : List Item). asks model ms order a b) (ap (λ h. slice_index_or all h []) of_hart ∙ get_or_from_slice_get all id items [] e) ∙ t)

pub lists_are_fetched : ListsAreFetched
lists_are_fetched model image harts id entries s r =
    let items = items_from 0 (at_reset image id harts) entries in
    let n = fetched_all model (node_at_reset image harts id) entries in
    let h = list_kept model image harts id entries r in
    record {
      can = can_fetch_all model image 0 (node_at_reset image harts id) entries s r;
      hart = hart_fetched model (node_at_reset image harts id) entries;
      output = output_fetched model (node_at_reset image harts id) entries;
      width = pairs_length (Stands model items (operations_of items)) n.window (operations_of items) h.window;
      operations = λ k w b e f.
          let x = pairs_left (Stands model items (operations_of items)) n.window (operations_of items) k w h.window e in
          subst (IsWaiting model w) (same_Some x.other b (sym x.stands ∙ f)) (record { kind = x.belongs.shows.kind_is; address = x.belongs.shows.address_is; size = x.belongs.shows.size_is; read = x.belongs.shows.read_is; written = x.belongs.shows.written_is; rcsc = x.belongs.shows.rcsc_is });
      needs = λ j k w a b all order e f g t i.
          let x = pairs_left (Stands model items (operations_of items)) n.window (operations_of items) k w h.window f in
          let y = x.belongs.needs j t in
          let same_b = same_Some x.other b (sym x.stands ∙ g) in
          let same_a = same_Some y.element a (sym y.stands ∙ i) in
          let own_a = h.own j a i in
          let own_b = h.own k b g in
          preserved_by model all id items order a b e own_a.hart_is
          (precedes_by a b (own_a.hart_is ∙ sym own_b.hart_is) (subst (λ (c : Operation). a.place < c.place) same_b (subst (λ (c : Operation). c.place < x.other.place) same_a y.is.0)))
          (subst (λ (c : Operation). asks model items order a c ≡ true) same_b (subst (λ (c : Operation). asks model items order c x.other ≡ true) same_a (y.is.1 order)));
      source = λ j k w a b f g t i.
          let x = pairs_left (Stands model items (operations_of items)) n.window (operations_of items) k w h.window f in
          let y = x.belongs.source j t in
          subst (λ (c : Operation). (has_address_dependency items a c || has_data_dependency items a c) ≡ true) (same_Some x.other b (sym x.stands ∙ g)) (subst (λ (c : Operation). (has_address_dependency items c x.other || has_data_dependency items c x.other) ≡ true) (same_Some y.element a (sym y.stands ∙ i)) y.is);
    }
