-- What is kept of a hart while operations are placed in a legal order: `done` stand in it already, `rest` don't yet.
use Rattle.std.proofs.Common.{◌≡◌, ℕ, suc, ◌<◌, List, [], ◌∷◌, ◌++◌, true, false, Some, refl, sym, ap, ◌∙◌, inl, inr, ⊎_elim, arith, subst}
use Rattle.std.specs.Prelude.{slice_get}
use Rattle.std.specs.List.{list_any}
use Rattle.std.proofs.lemmas.Bool.{cases_lt}
use Rattle.std.proofs.lemmas.List.{append_assoc}
use Rattle.std.proofs.lemmas.Option.{same_Some}
use Rattle.machine_types.specs.declared.model.MemoryModel.{MemoryModel}
use Rattle.memory_model.specs.declared.operation.Operation.{Operation}
use Rattle.memory_model.specs.Dependencies.{between}
use Rattle.memory_model.specs.Items.{Item}
use Rattle.memory_model.specs.Operations.{reads, touches}
use Rattle.memory_model.specs.Rules.{has_store_to, items_of}
use Rattle.memory_model.proofs.Lists.{Member}
use Rattle.window_model.specs.Nodes.{Node}
use Rattle.window_model.specs.Pairs.{Pairs}
use Rattle.window_model.specs.Waiting.{Waiting}
use Rattle.window_model.proofs.Pairs.{pairs_left}
use Rattle.window_model.proofs.following.Fetching.{precedes_by}
use Rattle.window_model.proofs.following.Kept.{IsOwn, Stands}
use Rattle.window_model.proofs.following.Rules.{asks}
use Rattle.window_model.proofs.following.Whole.{Legal, member_right, not_behind}

-- where an operation waits
pub record IsAt (ops : List Operation) (a : Operation) : Type 0 where
  pub position : ℕ
  pub stands : slice_get ops position ≡ Some a

-- a later load b of a's hart has read byte x already, and no store to x stands between them in program order
pub record IsPinned (items : List Item) (done : List Operation) (a : Operation) (x : ℕ) : Type 0 where
  pub load : Operation
  pub placed : Member load done
  pub of_hart : load.hart ≡ a.hart
  pub later : a.place < load.place
  pub reads_a : reads a.kind ≡ true
  pub reads_b : reads load.kind ≡ true
  pub in_a : touches x a ≡ true
  pub in_b : touches x load ≡ true
  pub none_between : list_any (λ (m : Item). has_store_to x m.operation) (between items a load) ≡ false

pub record Remaining (model : MemoryModel) (all : List (List Item)) (h : ℕ) (done rest : List Operation) (n : Node) (ops : List Operation) : Type 0 where
  pub own : (k : ℕ) (a : Operation) → slice_get ops k ≡ Some a → IsOwn (items_of all h) h (suc a.place) a
  pub window : Pairs (Stands model (items_of all h) ops) n.window ops
  -- those that wait are the hart's that have no place yet, in program order
  pub waits : (k : ℕ) (a : Operation) → slice_get ops k ≡ Some a → Member a rest
  pub every : (a : Operation) → Member a rest → a.hart ≡ h → IsAt ops a
  pub sorted : (i j : ℕ) (a b : Operation) → slice_get ops i ≡ Some a → slice_get ops j ≡ Some b → i < j → a.place < b.place
  pub pins : (k : ℕ) (w : Waiting) (a : Operation) (x : ℕ) → slice_get n.window k ≡ Some w → slice_get ops k ≡ Some a → w.pinned x ≡ true → IsPinned (items_of all h) done a x

-- what stands earlier in the program waits earlier
pub earlier : (model : MemoryModel) (all : List (List Item)) (h : ℕ) (done rest : List Operation) (n : Node) (ops : List Operation) → Remaining model all h done rest n ops
    → (i j : ℕ) (a b : Operation) → slice_get ops i ≡ Some a → slice_get ops j ≡ Some b → a.place < b.place → i < j
earlier model all h done rest n ops r i j a b e f l =
    ⊎_elim (λ k. k)
    (λ k. ⊎_elim
    (λ m. let p = r.sorted j i b a f e m in absurd (omega (arith, p, l)))
    (λ m. let same : i ≡ j = omega (arith, k, m) in let q = ap (λ (c : Operation). c.place) (same_Some a b (sym e ∙ (ap (slice_get ops) same ∙ f))) in absurd (omega (arith, q, l)))
    (cases_lt j i))
    (cases_lt i j)

-- the operation b of hart h waits at position k, and stands next in the order
pub record Now : Type 0 where
  pub model : MemoryModel
  pub image : ℕ → ℕ
  pub all : List (List Item)
  pub whole : List Operation
  pub done : List Operation
  pub b : Operation
  pub rest : List Operation
  pub n : Node
  pub ops : List Operation
  pub k : ℕ
  pub w : Waiting
  pub legal : Legal model image all whole
  pub split : whole ≡ done ++ b ∷ rest
  pub kept : Remaining model all b.hart done (b ∷ rest) n ops
  pub here : slice_get ops k ≡ Some b
  pub waiting : slice_get n.window k ≡ Some w

-- the order is what is done with b, and the rest
pub split_behind : (c : Now) → c.whole ≡ (c.done ++ c.b ∷ []) ++ c.rest
split_behind c = c.split ∙ sym (append_assoc c.done (c.b ∷ []) c.rest)

pub b_placed : (c : Now) → Member c.b (c.done ++ c.b ∷ [])
b_placed c = member_right c.b c.done (c.b ∷ []) (inl refl)

-- w is b
pub w_is_b : (c : Now) → Stands c.model (items_of c.all c.b.hart) c.ops c.w c.b
w_is_b c =
    let x = pairs_left (Stands c.model (items_of c.all c.b.hart) c.ops) c.n.window c.ops c.k c.w c.kept.window c.waiting in
    subst (Stands c.model (items_of c.all c.b.hart) c.ops c.w) (same_Some x.other c.b (sym x.stands ∙ c.here)) x.belongs

-- what waits and stands earlier in the program stands behind b in the order
pub waits_behind : (c : Now) → (j : ℕ) (a : Operation) → slice_get c.ops j ≡ Some a → a.place < c.b.place → Member a c.rest
waits_behind c j a e l = go (c.kept.waits j a e)
  where
    go : Member a (c.b ∷ c.rest) → Member a c.rest
    go (inl same) = let q = ap (λ (o : Operation). o.place) same in absurd (omega (arith, q, l))
    go (inr m) = m

-- so it doesn't precede b in preserved program order
pub not_asked : (c : Now) → (j : ℕ) (a : Operation) → slice_get c.ops j ≡ Some a → a.place < c.b.place → asks c.model (items_of c.all c.b.hart) c.whole a c.b ≡ true → ⊥
not_asked c j a e l t =
    let own = c.kept.own j a e in
    not_behind c.model c.all c.whole (c.done ++ c.b ∷ []) c.rest c.legal.ordered (split_behind c) c.b a (b_placed c) (waits_behind c j a e l) (precedes_by a c.b own.hart_is l)
    (subst (λ h. asks c.model (items_of c.all h) c.whole a c.b ≡ true) (sym own.hart_is) t)

-- nor what is done already
pub not_asked_done : (c : Now) → (j : ℕ) (a d : Operation) → slice_get c.ops j ≡ Some a → Member d c.done → d.hart ≡ c.b.hart → a.place < d.place → asks c.model (items_of c.all c.b.hart) c.whole a d ≡ true → ⊥
not_asked_done c j a d e m of_hart l t =
    let own = c.kept.own j a e in
    not_behind c.model c.all c.whole c.done (c.b ∷ c.rest) c.legal.ordered c.split d a m (c.kept.waits j a e) (precedes_by a d (own.hart_is ∙ sym of_hart) l)
    (subst (λ h. asks c.model (items_of c.all h) c.whole a d ≡ true) (sym own.hart_is) t)
