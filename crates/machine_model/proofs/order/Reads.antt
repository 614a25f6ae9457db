-- Where each copy holds what was performed, each event keeps that loads returned their sources' bytes.
use Rattle.std.proofs.Common.{◌≡◌, ◌≢◌, ℕ, ◌<◌, List, [], ◌∷◌, ◌++◌, true, false, Some, refl, sym, ap, ◌∙◌, subst, append-nil, length, map, ◌⊎◌, inl, inr}
use Rattle.std.specs.Prelude.{nat_eq, option_and_then}
use Rattle.std.specs.List.{AllByRecursion as Each, filter}
use Rattle.std.proofs.lemmas.Bool.Decides.{eqb_tells}
use Rattle.elf_loader.specs.Image.{Initial, byte_at as image_byte}
use Rattle.hart.specs.declared.retired.Retired.{Retired}
use Rattle.hart.specs.Run.{is_step}
use Rattle.machine_model.specs.declared.act.Act.{Act}
use Rattle.machine_model.specs.declared.act.Act.TheVariants as act
use Rattle.machine_model.specs.declared.act.Deed.{Deed}
use Rattle.machine_types.specs.declared.config.Config.{Config}
use Rattle.machine_model.specs.Changing.{acted, does, drained, next_place, retired, went_alone}
use Rattle.machine_model.specs.Steps.{Fetched}
use Rattle.machine_model.specs.Views.{State, node_at}
use Rattle.machine_model.proofs.runs.Runs.{AllStand}
use Rattle.machine_model.proofs.order.Acts.{retired_step, retired_known, retired_gave, retired_trace, alone_step, alone_grown}
use Rattle.machine_model.proofs.order.Buffers.{KeepsBuffers, quiet_keeps}
use Rattle.machine_model.proofs.order.Deeds.{FitsDeed}
use Rattle.machine_model.proofs.order.Events.{IsFit}
use Rattle.machine_model.proofs.order.Kept.{joined, of_word, IsWaiting, get_new}
use Rattle.machine_model.proofs.order.Loads.{HoldsLast, value_of}
use Rattle.machine_model.proofs.order.Moves.{OrderKept, Changes, done_more, done_same, drained_step, drained_names, drained_out, drained_done, drained_moves, oldest_group, younger, oldest_line, oldest_waiting}
use Rattle.machine_model.proofs.order.Split.{Split, absent, gave_at, split_drain, split_foreign}
use Rattle.machine_model.proofs.order.Steps.{names_by}
use Rattle.machine_model.proofs.order.Traces.{items_at, items_same, items_here, done, new_item, operation_is, length-items_from}
use Rattle.machine_model.proofs.order.Values.{IsRight, waits, Gives, retire_rights, drain_rights, rights_foreign}
use Rattle.memory_model.specs.declared.operation.Operation.{Operation}
use Rattle.memory_model.specs.Items.{Item, annotations_of}
use Rattle.memory_model.specs.Traces.{image_of, instructions, last_performed, operation_at}
use Rattle.memory_model.specs.Verdict.{name_of}
use Rattle.memory_model.proofs.Lists.{Each-weaker, Each-kept}
use Rattle.memory_model.proofs.Named.{operation_at-bears}
use Rattle.rv32_decode.specs.Rows.{decoded}
use Rattle.rv32_decode.specs.declared.instruction.Instr.{Instr}
use Rattle.rv32_exec.specs.Meaning.{access_of}
use Rattle.trace_recorder.specs.History.{entries_of}
use Rattle.trace_recorder.specs.declared.operation.OpId.{OpId}

-- each load of a hart is right, where these are performed
abbrev pub RightAt : (ℕ → ℕ) → ℕ → List Item → List Operation → Type 0
RightAt image h items performed = Each (IsRight image h (performed ++ waits items performed)) performed

pub record ValuesKept (s : State) : Type 0 where
  pub each : (h : ℕ) → h < s.views.config.harts → RightAt (image_of s.trace) h (items_at s.trace h) (done s.trace)

right_same : (im im' : Initial) (h : ℕ) (items items' : List Item) (performed performed' : List Operation) → im' ≡ im → items' ≡ items → performed' ≡ performed → RightAt (image_byte im) h items performed → RightAt (image_byte im') h items' performed'
right_same im im' h items items' performed performed' a b c r =
    subst (λ i. RightAt (image_byte i) h items' performed') (sym a) (subst (λ is. RightAt (image_byte im) h is performed') (sym b) (subst (RightAt (image_byte im) h items) (sym c) r))

pub values_still : (s t : State) → KeepsBuffers s t → ValuesKept s → ValuesKept t
values_still s t k v = record {
  each = λ h l. right_same s.trace.image t.trace.image h (items_at s.trace h) (items_at t.trace h) (done s.trace) (done t.trace) k.image (items_same s.trace t.trace k.image k.entries h) (done_same s.trace t.trace k.image k.entries k.performed) (v.each h (subst (λ (c : Config). h < c.harts) k.config l));
}

-- one hart's part changes
values_by : (h : ℕ) (names : List OpId) (s t : State) (out : List Operation) → Changes h names s t → t.trace.image ≡ s.trace.image → done t.trace ≡ done s.trace ++ out → Each (λ a. a.hart ≡ h) out
    → RightAt (image_of s.trace) h (items_at t.trace h) (done s.trace ++ out) → OrderKept s → ValuesKept s → ValuesKept t
values_by h names s t out c image done_is own here o v = record { each = λ k l. each k (subst (λ (x : Config). k < x.harts) c.config l) (eqb_tells k h) }
  where
    each : (k : ℕ) → k < s.views.config.harts → ((nat_eq k h ≡ true) × (k ≡ h)) ⊎ ((nat_eq k h ≡ false) × (k ≢ h)) → RightAt (image_of t.trace) k (items_at t.trace k) (done t.trace)
    each k l (inl e) =
        subst (λ j. RightAt (image_of t.trace) j (items_at t.trace j) (done t.trace)) (sym e.1)
        (right_same s.trace.image t.trace.image h (items_at t.trace h) (items_at t.trace h) (done s.trace ++ out) (done t.trace) image refl done_is here)
    each k l (inr e) =
        let q = o.each k l in
        let foreign : Each (λ a. a.hart ≡ k → ⊥) out = Each-weaker (λ a. a.hart ≡ h) (λ a. a.hart ≡ k → ⊥) (λ a x f. e.1 (sym f ∙ x)) out own in
        let waiting = joined q.sealed ++ q.current in
        let after = (split_foreign k (items_at s.trace k) waiting (done s.trace) out foreign q.split).waits in
        right_same s.trace.image t.trace.image k (items_at s.trace k) (items_at t.trace k) (done s.trace ++ out) (done t.trace) image (c.items k e.1) done_is
        (subst (λ w. Each (IsRight (image_of s.trace) k ((done s.trace ++ out) ++ w)) (done s.trace ++ out)) (sym after)
        (rights_foreign (image_of s.trace) k (done s.trace) out waiting foreign (subst (λ w. Each (IsRight (image_of s.trace) k (done s.trace ++ w)) (done s.trace)) q.split.waits (v.each k l))))

-- ---- an instruction retires

new_gives : (h : ℕ) (entry : Retired) (i : Instr) (d : Deed) (s : State) → (l : h < s.views.config.harts) → AllStand s → is_step s.trace.image (node_at s h).hart entry ≡ true → decoded entry.word ≡ Some i
    → (f : Fetched) → f.instr ≡ i → FitsDeed s.views.config.model (node_at s h) f (access_of i (node_at s h).hart.regs) entry d → ((y : ℕ) → image_of s.trace y < 256) → HoldsLast (last_performed s.trace) (node_at s h)
    → (o : OrderKept s) (a : Operation) → (new_item h entry s.trace).operation ≡ Some a → Gives (image_of s.trace) h (length (items_at s.trace h)) (done s.trace) (joined (o.each h l).sealed ++ (o.each h l).current) a
new_gives h entry i d s l st step dec f fi fits small holds o a g =
    let t = (retired h entry i (does s.views.config.model h d s)).trace in
    let n : OpId = record { hart = h; place = length (items_at s.trace h) } in
    let lt : h < length s.trace.entries = subst (λ x. h < x) (sym st.entries) l in
    let at : operation_at (instructions t) n ≡ Some a =
    operation_is t n ∙ (ap (λ is. gave_at is (length (items_at s.trace h))) (items_here h entry s.trace t (retired_trace h entry i d s l st) lt) ∙ (ap (option_and_then (λ (m : Item). m.operation)) (get_new (items_at s.trace h) (new_item h entry s.trace) (length (items_at s.trace h)) refl) ∙ g)) in
    let bears = operation_at-bears t n a at in
    record {
      own = bears.hart_is;
      here = bears.place_is;
      value = value_of s.views.config.model (image_of s.trace) h (length (items_at s.trace h)) (node_at s h) f entry (access_of i (node_at s h).hart.regs) d (items_at s.trace h) (done s.trace) (annotations_of f.instr) small holds
          (retired_known h entry i s step dec f fi) fits (o.each h l) a (sym (retired_gave h entry i s l st dec f fi) ∙ g);
    }

retired_values : (h : ℕ) (entry : Retired) (i : Instr) (d : Deed) (s : State) → h < s.views.config.harts → AllStand s → is_step s.trace.image (node_at s h).hart entry ≡ true → decoded entry.word ≡ Some i
    → (f : Fetched) → f.instr ≡ i → f.place ≡ next_place s h → FitsDeed s.views.config.model (node_at s h) f (access_of i (node_at s h).hart.regs) entry d → ((y : ℕ) → image_of s.trace y < 256) → HoldsLast (last_performed s.trace) (node_at s h)
    → OrderKept s → ValuesKept s → ValuesKept (retired h entry i (does s.views.config.model h d s))
retired_values h entry i d s l st step dec f fi fp fits small holds o v =
    let t = retired h entry i (does s.views.config.model h d s) in
    let names = names_by h (next_place s h) d in
    let change = retired_step h entry i d s l st step dec f fi fp fits o in
    let p = change.performs in
    let longer = retired_trace h entry i d s l st in
    let lt : h < length s.trace.entries = subst (λ x. h < x) (sym st.entries) l in
    values_by h names s t p.out change.changes longer.image (done_more h names s t change.changes p o.resolved) p.own
    (retire_rights s.views.config.model (image_of s.trace) h (items_at s.trace h) (items_at t.trace h) (node_at s h).buffer (node_at t h).buffer (done s.trace) (new_item h entry s.trace) d names
    (items_here h entry s.trace t.trace longer lt) (ap (λ n. names_by h n d) (sym (length-items_from 0 _ (entries_of s.trace h)))) (o.each h l) p (new_gives h entry i d s l st step dec f fi fits small holds o) (v.each h l)) o v

-- ---- the other acts

drained_values : (h word : ℕ) (s : State) → h < length s.views.nodes → h < s.views.config.harts → OrderKept s → ValuesKept s → ValuesKept (drained h word s)
drained_values h word s l m o v =
    let t = drained h word s in
    let mv = drained_moves h word s l in
    let k = o.each h m in
    let g = oldest_group k.sealed k.current in
    let rest = younger k.sealed k.current in
    let own = oldest_waiting s.views.config.model h (items_at s.trace h) (node_at s h).buffer (done s.trace) k in
    let split = subst (λ w. Split h (items_at s.trace h) w (done s.trace)) (oldest_line k.sealed k.current) k.split in
    let after = (split_drain h (items_at s.trace h) g rest (done s.trace) (of_word word) split).waits in
    let here : RightAt (image_of s.trace) h (items_at s.trace h) (done s.trace ++ drained_out word k) =
    subst (λ w. Each (IsRight (image_of s.trace) h ((done s.trace ++ drained_out word k) ++ w)) (done s.trace ++ drained_out word k)) (sym after)
    (drain_rights (image_of s.trace) h word (done s.trace) g rest own (subst (λ w. Each (IsRight (image_of s.trace) h (done s.trace ++ w)) (done s.trace)) split.waits (v.each h m))) in
    values_by h (drained_names h word s) s t (drained_out word k) (drained_step h word s l m o).changes mv.image (drained_done h word s l m o)
    (Each-weaker (IsWaiting h) (λ a. a.hart ≡ h) (λ a z. z.own) (drained_out word k) (Each-kept (IsWaiting h) (of_word word) g own))
    (subst (λ is. RightAt (image_of s.trace) h is (done s.trace ++ drained_out word k)) (sym (items_same s.trace t.trace mv.image mv.entries h)) here) o v

alone_values : (h count : ℕ) (s : State) → h < s.views.config.harts → AllStand s → OrderKept s → ValuesKept s → ValuesKept (went_alone h count s)
alone_values h count s l st o v =
    let t = went_alone h count s in
    let g = alone_grown h count s l st o in
    let change = alone_step h count s l st o in
    let p = change.performs in
    let nothing : p.out ≡ [] = none_named p.out p.named in
    let here : RightAt (image_of s.trace) h (items_at t.trace h) (done s.trace) = subst (λ ops. Each (IsRight (image_of s.trace) h (done s.trace ++ filter (absent (done s.trace)) ops)) (done s.trace)) (sym g.operations) (v.each h l) in
    values_by h [] s t p.out change.changes g.image (done_more h [] s t change.changes p o.resolved) p.own
    (subst (RightAt (image_of s.trace) h (items_at t.trace h)) (sym (ap (λ xs. done s.trace ++ xs) nothing ∙ append-nil (done s.trace))) here) o v
  where
    none_named : (out : List Operation) → map name_of out ≡ [] → out ≡ []
    none_named [] e = refl
    none_named (a ∷ out) e = absurd (not_so _ _ e)
      where
        not_so : (n : OpId) (ns : List OpId) → n ∷ ns ≡ [] → ⊥
        not_so n ns e = cc

pub acted_values : (h : ℕ) (a : Act) (s : State) → h < s.views.config.harts → AllStand s → IsFit s h a → ((y : ℕ) → image_of s.trace y < 256) → HoldsLast (last_performed s.trace) (node_at s h) → OrderKept s → ValuesKept s → ValuesKept (acted h a s)
acted_values h (act.Retire e i d) s l st p small holds o v = retired_values h e i d s l st p.0 p.1 p.2 p.3 p.4 p.5 small holds o v
acted_values h (act.Drain word) s l st p small holds o v = drained_values h word s (subst (λ n. h < n) (sym st.nodes) l) l o v
acted_values h (act.Local count) s l st p small holds o v = alone_values h count s l st o v
acted_values h a s l st p small holds o v = values_still s _ (quiet_keeps h a s tt) v
