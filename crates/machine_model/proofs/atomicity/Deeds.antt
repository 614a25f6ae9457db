-- What each deed of a retiring instruction does to the hart's reservation and to pairs, and where it may write.
use Rattle.std.proofs.Common.{◌≡◌, ℕ, ◌+◌, ◌%◌, ◌≤◌, List, [], ◌∷◌, ◌++◌, Bool, true, false, Option, Some, None, refl, cond, sym, ap, ◌∙◌, subst, arith, length, ◌⊎◌, inl, inr}
use Rattle.std.specs.Prelude.{option_and_then}
use Rattle.std.specs.List.{AllByRecursion as Each}
use Rattle.std.proofs.lemmas.Bool.{false≢true, and_parts, or_parts, eqb-true}
use Rattle.client_cache.specs.Cache.{copy_at}
use Rattle.client_cache.specs.Held.{perm_of}
use Rattle.client_cache.specs.declared.held.Held.TheVariants.{Trunk}
use Rattle.hart.specs.declared.retired.Retired.{Retired}
use Rattle.machine_model.specs.declared.act.Deed.{Deed}
use Rattle.machine_model.specs.declared.act.Deed.TheVariants as deed
use Rattle.machine_model.specs.Deliveries.{is_trunk}
use Rattle.machine_model.specs.Steps.{Fetched}
use Rattle.machine_model.specs.Views.{Node}
use Rattle.machine_model.specs.Words.{word_of}
use Rattle.machine_model.proofs.atomicity.Kept.{is_pairing, some_is, none_not}
use Rattle.machine_model.proofs.atomicity.Nodes.{reserved_by}
use Rattle.machine_model.proofs.order.Deeds.{Facts, FitsDeed}
use Rattle.machine_model.proofs.order.Kept.{get_new}
use Rattle.machine_model.proofs.order.Rules.{InWord, touches_word}
use Rattle.machine_model.proofs.order.Split.{gave_at}
use Rattle.machine_model.proofs.order.Steps.{Performs, names_by}
use Rattle.machine_model.proofs.order.Values.{names_cases, nothing_named, one_named}
use Rattle.machine_types.specs.declared.model.MemoryModel.{MemoryModel}
use Rattle.memory_model.specs.declared.operation.Operation.{Operation}
use Rattle.memory_model.specs.Items.{Item, operation_of_access, succeeded}
use Rattle.memory_model.specs.Operations.{is_sc, is_lr, stores_to, touches, writes}
use Rattle.memory_model.specs.Rules.{is_lr_or_sc}
use Rattle.reservations.specs.Reservation.{is_valid}
use Rattle.rv32_decode.specs.declared.instruction.Annotations.{Annotations}
use Rattle.rv32_exec.specs.Meaning.{Access, Private, Loads, Stores, DoesLr, DoesSc, DoesAmo, Fences, Calls}
use Rattle.store_buffer.specs.Groups.{Groups, has}
use Rattle.tl_types.specs.Line.{line_of}
use Rattle.trace_recorder.specs.declared.operation.OpId.{OpId}
use Rattle.tl_types.specs.declared.line.LineData.{LineData}

-- ---- reservations and pairs

-- nothing of a pair, and the reservation stays
pub record Plain (m : Item) (old next : Option ℕ) : Type 0 where
  pub stays : next ≡ old
  pub alone : is_lr_or_sc m.instr ≡ false
  pub kind : (i : Operation) → m.operation ≡ Some i → (is_lr i.kind ≡ false) × (is_sc i.kind ≡ false)

-- the reservation ends; what it performs, it performs where one was
pub record Ends (m : Item) (old next : Option ℕ) : Type 0 where
  pub none : next ≡ None
  pub kind : (i : Operation) → m.operation ≡ Some i → (is_lr i.kind ≡ false) × (word : ℕ) × (old ≡ Some word)

-- what an LR of this word gives
pub record IsReserving (word : ℕ) (i : Operation) : Type 0 where
  pub reserves : is_lr i.kind ≡ true
  pub ends_none : is_sc i.kind ≡ false
  pub writes_none : writes i.kind ≡ false
  pub in_word : InWord i
  pub word_is : word_of i.address ≡ word

pub record Takes (m : Item) (buffer : Groups) (names : List OpId) (next : Option ℕ) : Type 0 where
  pub performs : names ≡ [] → ⊥
  pub word : ℕ
  pub some : next ≡ Some word
  pub free : has word buffer ≡ false
  pub kind : (i : Operation) → m.operation ≡ Some i → IsReserving word i

word_aligned : (address : ℕ) → address % 4 ≡ 0 → word_of address ≡ address
word_aligned address e = omega (arith, e)

aligned_in_word : (address : ℕ) → address % 4 ≡ 0 → address % 4 + 4 ≤ 4
aligned_in_word address e = omega (arith, e)

valid_word : (address : ℕ) (o : Option ℕ) → is_valid address o ≡ true → o ≡ Some address
valid_word address None e = absurd (false≢true e)
valid_word address (Some word) e = ap Some (eqb-true word address e)

-- no operation, or one of neither kind
module _ (m : Item) (o : Option ℕ) (alone : is_lr_or_sc m.instr ≡ false) where
  plain_none : m.operation ≡ None → Plain m o o
  plain_none e = record { stays = refl; alone = alone; kind = λ i f. absurd (none_not i (sym e ∙ f)) }

  plain_some : (s : Operation) → m.operation ≡ Some s → is_lr s.kind ≡ false → is_sc s.kind ≡ false → Plain m o o
  plain_some s e a b = record { stays = refl; alone = alone; kind = λ i f. let g = some_is s i (sym e ∙ f) in (ap (λ (x : Operation). is_lr x.kind) (sym g) ∙ a, ap (λ (x : Operation). is_sc x.kind) (sym g) ∙ b) }

pub deed_is : (model : MemoryModel) (h place : ℕ) (bits : Annotations) (n : Node) (f : Fetched) (entry : Retired) (a : Access) (d : Deed) (m : Item) → is_lr_or_sc m.instr ≡ is_pairing a → m.operation ≡ operation_of_access h place bits entry a → Facts f.instr a → FitsDeed model n f a entry d
    → Plain m n.reserved (reserved_by d n.reserved) ⊎ (Ends m n.reserved (reserved_by d n.reserved) ⊎ Takes m n.buffer (names_by h place d) (reserved_by d n.reserved))
deed_is model h place bits n f entry Private deed.Private m p gave x e = inl (plain_none m n.reserved p gave)
deed_is model h place bits n f entry (Calls number argument) deed.Private m p gave x e = inl (plain_none m n.reserved p gave)
deed_is model h place bits n f entry (Calls number argument) (deed.Output k) m p gave x e = inl (plain_none m n.reserved p gave)
deed_is model h place bits n f entry (Loads address bytes) deed.Load m p gave x e = inl (plain_some m n.reserved p _ gave refl refl)
deed_is model h place bits n f entry (Stores address bytes value) (deed.Store s) m p gave x e = inl (plain_some m n.reserved p _ gave refl refl)
deed_is model h place bits n f entry (DoesAmo address op operand) (deed.Amo word v) m p gave x e = inl (plain_some m n.reserved p _ gave refl refl)
deed_is model h place bits n f entry Fences deed.Private m p gave x e = inl (plain_none m n.reserved p gave)
deed_is model h place bits n f entry Fences deed.Seal m p gave x e = inl (plain_none m n.reserved p gave)
deed_is model h place bits n f entry (DoesLr address) (deed.Lr word) m p gave x e = inr (inr (record {
  performs = λ z. one_not _ z;
  word = word;
  some = refl;
  free = subst (λ w. has w n.buffer ≡ false) (sym e.0) (or_parts _ (has address n.buffer) e.1).1;
  kind = λ i g. subst (IsReserving word) (some_is _ i (sym gave ∙ g)) (record { reserves = refl; ends_none = refl; writes_none = refl; in_word = aligned_in_word address x.1; word_is = word_aligned address x.1 ∙ sym e.0 });
}))
  where
    one_not : (k : OpId) → k ∷ [] ≡ [] → ⊥
    one_not k z = cc
deed_is model h place bits n f entry (DoesSc address value) deed.Fail m p gave x e = inr (inl (record { none = refl; kind = λ i g. absurd (go entry.sc_ok e i (sym gave ∙ g)) }))
  where
    go : (o : Option Bool) → o ≡ Some false → (i : Operation) → operation_of_access h place bits (record entry { sc_ok = o }) (DoesSc address value) ≡ Some i → ⊥
    go o q i g = none_not i (sym (ap (λ v. operation_of_access h place bits (record entry { sc_ok = v }) (DoesSc address value)) q) ∙ g)
deed_is model h place bits n f entry (DoesSc address value) (deed.Sc word v) m p gave x e = inr (inl (record { none = refl; kind = λ i g. (go entry.sc_ok e.2 i (sym gave ∙ g), address, valid_word address n.reserved e.3) }))
  where
    go : (o : Option Bool) → o ≡ Some true → (i : Operation) → operation_of_access h place bits (record entry { sc_ok = o }) (DoesSc address value) ≡ Some i → is_lr i.kind ≡ false
    go o q i g = sym (ap (λ (y : Operation). is_lr y.kind) (some_is _ i (sym (ap (λ v. operation_of_access h place bits (record entry { sc_ok = v }) (DoesSc address value)) q) ∙ g)))
deed_is model h place bits n f entry _ _ m p gave x e = absurd e

-- ---- writes

-- the hart's copy of this address's line may be written
abbrev pub Writable : Node → ℕ → Type 0
Writable n word = is_trunk (perm_of (copy_at n.cache (line_of n.cache.shape.size word))) ≡ true

pub trunk_writable : (n : Node) (word : ℕ) → (dirty : Bool) (bytes : LineData) → copy_at n.cache (line_of n.cache.shape.size word) ≡ Some (Trunk dirty bytes) → Writable n word
trunk_writable n word dirty bytes e = ap (λ o. is_trunk (perm_of o)) e

-- a store writes to its own word only
pub store_word : (word x : ℕ) (i : Operation) → InWord i → word_of i.address ≡ word → stores_to x i ≡ true → word_of x ≡ word
store_word word x i f at e = touches_word x i f (and_parts (writes i.kind) (touches x i) e).1 ∙ at

stored_at : (u i : Operation) (word x : ℕ) → Some u ≡ Some i → InWord u → word_of u.address ≡ word → stores_to x i ≡ true → word_of x ≡ word
stored_at u i word x e f at s = store_word word x u f at (ap (stores_to x) (some_is u i e) ∙ s)

-- what is performed as it retires is written to a copy that may be written
pub deed_writes : (model : MemoryModel) (h place : ℕ) (bits : Annotations) (n : Node) (f : Fetched) (entry : Retired) (a : Access) (d : Deed) (m : Item) → m.operation ≡ operation_of_access h place bits entry a → Facts f.instr a → FitsDeed model n f a entry d
    → ((word : ℕ) → n.reserved ≡ Some word → Writable n word) → (names_by h place d ≡ [] → ⊥) → (i : Operation) → m.operation ≡ Some i → (x : ℕ) → stores_to x i ≡ true → Writable n (word_of x)
deed_writes model h place bits n f entry Private deed.Private m gave x e r some i g y s = absurd (some refl)
deed_writes model h place bits n f entry (Calls number argument) deed.Private m gave x e r some i g y s = absurd (some refl)
deed_writes model h place bits n f entry (Calls number argument) (deed.Output k) m gave x e r some i g y s = absurd (some refl)
deed_writes model h place bits n f entry (Loads address bytes) deed.Load m gave x e r some i g y s = absurd (false≢true (ap (stores_to y) (some_is _ i (sym gave ∙ g)) ∙ s))
deed_writes model h place bits n f entry (Stores address bytes value) (deed.Store t) m gave x e r some i g y s = absurd (some refl)
deed_writes model h place bits n f entry (DoesAmo address op operand) (deed.Amo word v) m gave x e r some i g y s =
    let at : word_of y ≡ address = stored_at _ i address y (sym gave ∙ g) (aligned_in_word address x.1) (word_aligned address x.1) s in
    subst (Writable n) (sym at) (trunk_writable n address e.6.0 e.6.1 e.6.2)
deed_writes model h place bits n f entry Fences deed.Private m gave x e r some i g y s = absurd (some refl)
deed_writes model h place bits n f entry Fences deed.Seal m gave x e r some i g y s = absurd (some refl)
deed_writes model h place bits n f entry (DoesLr address) (deed.Lr word) m gave x e r some i g y s = absurd (false≢true (ap (stores_to y) (some_is _ i (sym gave ∙ g)) ∙ s))
deed_writes model h place bits n f entry (DoesSc address value) deed.Fail m gave x e r some i g y s = absurd (some refl)
deed_writes model h place bits n f entry (DoesSc address value) (deed.Sc word v) m gave x e r some i g y s =
    subst (Writable n) (sym (go entry.sc_ok _ e.2 (sym gave ∙ g) (aligned_in_word address x.1) (word_aligned address x.1))) (r address (valid_word address n.reserved e.3))
  where
    go : (o : Option Bool) (u : Operation) → o ≡ Some true → cond (succeeded o) (Some u) None ≡ Some i → InWord u → word_of u.address ≡ address → word_of y ≡ address
    go o u q z f at = store_word address y u f at (ap (stores_to y) (some_is u i (sym (ap (λ v. cond (succeeded v) (Some u) None) q) ∙ z)) ∙ s)
deed_writes model h place bits n f entry _ _ m gave x e r some i g y s = absurd e

-- ---- what is performed

-- nothing, or the new item's operation
pub record IsNewest (h n : ℕ) (m : Item) (i : Operation) : Type 0 where
  pub own : i.hart ≡ h
  pub here : i.place ≡ n
  pub gave : m.operation ≡ Some i

pub out_is : (model : MemoryModel) (h : ℕ) (items longer : List Item) (buffer : Groups) (performed : List Operation) (m : Item) (d : Deed) (names : List OpId) → longer ≡ items ++ m ∷ [] → names ≡ names_by h (length items) d → (p : Performs model h longer buffer performed names)
    → ((names_by h (length items) d ≡ []) × (p.out ≡ [])) ⊎ ((names_by h (length items) d ≡ [] → ⊥) × (i : Operation) × (p.out ≡ i ∷ []) × IsNewest h (length items) m i)
out_is model h items longer buffer performed m d names is_longer are_names p = go (names_cases h (length items) d)
  where
    go : (names_by h (length items) d ≡ []) ⊎ (names_by h (length items) d ≡ record { hart = h; place = length items } ∷ []) → ((names_by h (length items) d ≡ []) × (p.out ≡ [])) ⊎ ((names_by h (length items) d ≡ [] → ⊥) × (i : Operation) × (p.out ≡ i ∷ []) × IsNewest h (length items) m i)
    go (inl e) = inl (e, nothing_named p.out (p.named ∙ (are_names ∙ e)))
    go (inr e) =
        let one = one_named p.out (record { hart = h; place = length items }) (p.named ∙ (are_names ∙ e)) in
        let found = subst (Each (λ a. gave_at (items ++ m ∷ []) a.place ≡ Some a)) one.1 (subst (λ is. Each (λ a. gave_at is a.place ≡ Some a) p.out) is_longer p.found) in
        let here : one.0.place ≡ length items = ap (λ (k : OpId). k.place) one.2 in
        inr (
          (λ z. not_nil _ (sym z ∙ e)),
          one.0,
          one.1,
          record {
            own = ap (λ (k : OpId). k.hart) one.2;
            here = here;
            gave = sym (ap (option_and_then (λ (x : Item). x.operation)) (get_new items m one.0.place here)) ∙ found.0;
          },
        )
      where
        not_nil : (n : OpId) → [] ≡ n ∷ [] → ⊥
        not_nil n e = cc
