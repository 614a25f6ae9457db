-- From each rule to preserved program order.
use Rattle.std.proofs.Common.{◌≡◌, ℕ, zero, suc, List, [], ◌∷◌, Bool, true, Some, refl, ap, ◌∙◌}
use Rattle.std.specs.Prelude.{slice_get}
use Rattle.std.specs.List.{list_any}
use Rattle.std.proofs.lemmas.Bool.{or_left, or_right}
use Rattle.std.proofs.lemmas.Option.{none-some, same_Some}
use Rattle.machine_types.specs.declared.model.MemoryModel.{MemoryModel}
use Rattle.memory_model.specs.declared.operation.Operation.{Operation}
use Rattle.memory_model.specs.Items.{Item}
use Rattle.memory_model.specs.Rules.{Rule, rules, rule_1, rule_2, rule_3, rule_4, rule_5, rule_6, rule_7, rule_8, rule_9, rule_10, rule_11, rule_12, rule_13, overlapping_store, same_byte_loads, atomic_source, fence, acquire, release, annotations, pair, address, data_stored, control, dependent_store, dependent_address}

-- one of the rules asks that a come before b in this order
abbrev pub asks : MemoryModel → List Item → List Operation → (a b : Operation) → Bool
asks model items order a b = list_any (λ (r : Rule). r.asks model items order a b) rules

-- one does whatever the order is
abbrev pub Asks : MemoryModel → List Item → (a b : Operation) → Type 0
Asks model items a b = (order : List Operation) → asks model items order a b ≡ true

pub any_at : {X : Type 0} (test : X → Bool) (xs : List X) (k : ℕ) (x : X) → slice_get xs k ≡ Some x → test x ≡ true → list_any test xs ≡ true
any_at test [] k x e t = absurd (none-some x e)
any_at test (y ∷ rest) zero x e t = or_left (test y) (list_any test rest) (ap test (same_Some y x e) ∙ t)
any_at test (y ∷ rest) (suc k) x e t = or_right (test y) (list_any test rest) (any_at test rest k x e t)

by : (k : ℕ) (rule : Rule) (model : MemoryModel) (items : List Item) (order : List Operation) (a b : Operation) → slice_get rules k ≡ Some rule → rule.asks model items order a b ≡ true → asks model items order a b ≡ true
by k rule model items order a b e t = any_at (λ (r : Rule). r.asks model items order a b) rules k rule e t

pub by_1 : (model : MemoryModel) (items : List Item) (a b : Operation) → rule_1 a b ≡ true → Asks model items a b
by_1 model items a b t order = by 0 overlapping_store model items order a b refl t

pub by_2 : (model : MemoryModel) (items : List Item) (order : List Operation) (a b : Operation) → rule_2 items order a b ≡ true → asks model items order a b ≡ true
by_2 model items order a b t = by 1 same_byte_loads model items order a b refl t

pub by_3 : (model : MemoryModel) (items : List Item) (order : List Operation) (a b : Operation) → rule_3 order a b ≡ true → asks model items order a b ≡ true
by_3 model items order a b t = by 2 atomic_source model items order a b refl t

pub by_4 : (model : MemoryModel) (items : List Item) (a b : Operation) → rule_4 items a b ≡ true → Asks model items a b
by_4 model items a b t order = by 3 fence model items order a b refl t

pub by_5 : (model : MemoryModel) (items : List Item) (a b : Operation) → rule_5 model a ≡ true → Asks model items a b
by_5 model items a b t order = by 4 acquire model items order a b refl t

pub by_6 : (model : MemoryModel) (items : List Item) (a b : Operation) → rule_6 model b ≡ true → Asks model items a b
by_6 model items a b t order = by 5 release model items order a b refl t

pub by_7 : (model : MemoryModel) (items : List Item) (a b : Operation) → rule_7 model a b ≡ true → Asks model items a b
by_7 model items a b t order = by 6 annotations model items order a b refl t

pub by_8 : (model : MemoryModel) (items : List Item) (a b : Operation) → rule_8 items a b ≡ true → Asks model items a b
by_8 model items a b t order = by 7 pair model items order a b refl t

pub by_9 : (model : MemoryModel) (items : List Item) (a b : Operation) → rule_9 items a b ≡ true → Asks model items a b
by_9 model items a b t order = by 8 address model items order a b refl t

pub by_10 : (model : MemoryModel) (items : List Item) (a b : Operation) → rule_10 items a b ≡ true → Asks model items a b
by_10 model items a b t order = by 9 data_stored model items order a b refl t

pub by_11 : (model : MemoryModel) (items : List Item) (a b : Operation) → rule_11 items a b ≡ true → Asks model items a b
by_11 model items a b t order = by 10 control model items order a b refl t

pub by_12 : (model : MemoryModel) (items : List Item) (order : List Operation) (a b : Operation) → rule_12 items order a b ≡ true → asks model items order a b ≡ true
by_12 model items order a b t = by 11 dependent_store model items order a b refl t

pub by_13 : (model : MemoryModel) (items : List Item) (a b : Operation) → rule_13 items a b ≡ true → Asks model items a b
by_13 model items a b t order = by 12 dependent_address model items order a b refl t
