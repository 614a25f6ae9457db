-- What a machine's event comes to, the flat machine's comes to as well, or its SC fails; and a line that it accesses, the hart's cache has.
use Rattle.std.proofs.Common.{◌≡◌, ℕ, ◌%◌, List, Bool, true, false, Option, Some, None, refl, sym, ap, ◌∙◌, subst, cond, not, ◌&&◌, ◌⊎◌, inl, inr, arith, length}
use Rattle.std.specs.Prelude.{is_some}
use Rattle.std.proofs.lemmas.Bool.{eqb-true, eq-eqb}
use Rattle.client_cache.specs.Cache.{Cache, copy_at}
use Rattle.client_cache.specs.Held.{bytes_in}
use Rattle.client_cache.specs.declared.answers.Want.{Want}
use Rattle.client_cache.specs.declared.answers.Want.TheVariants as want
use Rattle.client_cache.specs.declared.held.Held.{Held}
use Rattle.client_cache.specs.declared.held.Held.TheVariants.{Branch, Trunk}
use Rattle.machine_model.specs.Image.{Initial, word_at}
use Rattle.flat_model.specs.Flat.{FlatNode}
use Rattle.flat_model.specs.Flat as of_flat
use Rattle.flat_model.specs.Steps as flat
use Rattle.flat_model.specs.Steps.{FlatPlan, Stops, Retires, Drains}
use Rattle.hart.specs.Run.{can_fetch, is_running, next_stop, stop_with}
use Rattle.machine_model.specs.declared.act.Act.TheVariants as act
use Rattle.machine_model.specs.declared.act.Deed.{Deed}
use Rattle.machine_model.specs.declared.act.Deed.TheVariants as deed
use Rattle.machine_model.specs.declared.act.Plan.{Plan}
use Rattle.machine_model.specs.declared.act.Plan.TheVariants.{Stays, Changes}
use Rattle.machine_types.specs.declared.outcome.Outcome.TheVariants as outcome
use Rattle.machine_model.specs.Deciding.{miss_by, reading, reading_by, writing, writing_by}
use Rattle.machine_model.specs.Events.{plan_drain}
use Rattle.machine_model.specs.Steps.{Fetched, plan_access, plan_amo, plan_sc, plan_fence, plan_instr, plan_load, plan_lr, plan_step, plan_store, plan_unless, retires, update, waits_for_stores, write_waits}
use Rattle.machine_model.specs.Views.{Node}
use Rattle.machine_model.specs.Words.{word_of, word_in, read_from, store_of}
use Rattle.machine_model.proofs.order.Deeds.{Facts, facts}
use Rattle.machine_types.specs.declared.model.MemoryModel.{MemoryModel}
use Rattle.machine_types.specs.declared.model.MemoryModel.TheVariants.{Rvwmo, Ztso}
use Rattle.machine_model.specs.TheVariants as kind
use Rattle.machine_model.specs.Rules.{fences}
use Rattle.machine_model.specs.Reservation.{is_valid}
use Rattle.rv32_decode.specs.Rows.{decoded}
use Rattle.rv32_decode.specs.declared.instruction.AmoOp.{AmoOp}
use Rattle.rv32_decode.specs.declared.instruction.Instr.{Instr}
use Rattle.hart.specs.Meaning.{Access, Private, Loads, Stores, DoesLr, DoesSc, DoesAmo, Fences, Calls, access_of}
use Rattle.store_buffer.specs.ByteMask.{covers, laid_over, marks_of_access}
use Rattle.store_buffer.specs.Groups.{drainable, fits, forwarded, has, is_empty}
use Rattle.tl_types.specs.Line.{line_of}
use Rattle.tl_types.specs.declared.line.LineData.{LineData}

-- a node without its cache and queues, and with this reservation
abbrev pub seen : Node → Option ℕ → FlatNode
seen n r = record { hart = n.hart; output = n.output; reserved = r; buffer = n.buffer }

abbrev pub HasLine : Node → ℕ → Type 0
HasLine n address = (held : Held) × (copy_at n.cache (line_of n.cache.shape.size address) ≡ Some held)

abbrev pub HasLines : Node → Option ℕ → Type 0
HasLines n None = Unit {0}
HasLines n (Some address) = HasLine n address

-- copies have memory's bytes
abbrev pub ReadsMemory : Node → List ℕ → Type 0
ReadsMemory n memory = (address : ℕ) (held : Held) → copy_at n.cache (line_of n.cache.shape.size address) ≡ Some held → word_in (bytes_in held) (word_of address) ≡ of_flat.word_in memory (word_of address)

-- what both sides of a node have in common
pub record Alike (n : Node) (r : Option ℕ) (memory : List ℕ) : Type 0 where
  pub reads : ReadsMemory n memory
  pub reserved : (word : ℕ) → n.reserved ≡ Some word → r ≡ Some word
  pub holds : (word : ℕ) → n.reserved ≡ Some word → HasLine n word

-- a flat plan that follows the machine's, or the plan of a failure does
abbrev pub Follows : Node → FlatPlan → FlatPlan → Plan → Type 0
Follows n p q (Stays o) = Unit {0}
Follows n p q (Changes (act.Stop code)) = p ≡ Stops code
Follows n p q (Changes (act.Retire e i d)) = ((x : Option ℕ) × (p ≡ Retires e i d x) × HasLines n x) ⊎ (q ≡ Retires e i d None)
Follows n p q (Changes (act.Miss line grow)) = Unit {0}
Follows n p q (Changes _) = ⊥

-- ---- by cases

both : (P : FlatPlan → Plan → Type 0) (b : Bool) (p q : FlatPlan) (x y : Plan) → (b ≡ true → P p x) → (b ≡ false → P q y) → P (cond b p q) (cond b x y)
both P true p q x y f g = f refl
both P false p q x y f g = g refl

alone : (P : Plan → Type 0) (b : Bool) (p q : Plan) → (b ≡ true → P p) → (b ≡ false → P q) → P (cond b p q)
alone P true p q x y = x refl
alone P false p q x y = y refl

miss_follows : (n : Node) (p q : FlatPlan) (line : ℕ) (w : Want) → Follows n p q (miss_by line w)
miss_follows n p q line want.WaitRelease = tt
miss_follows n p q line want.WaitGrant = tt
miss_follows n p q line want.NoTracker = tt
miss_follows n p q line want.SetFull = tt
miss_follows n p q line (want.Missed grow) = tt

reading_follows : (n : Node) (p q : FlatPlan) (go : LineData → Plan) (c : Cache) (line : ℕ) (copy : Option Held) → ((held : Held) → copy ≡ Some held → Follows n p q (go (bytes_in held))) → Follows n p q (reading_by copy go c line)
reading_follows n p q go c line None g = miss_follows n p q line _
reading_follows n p q go c line (Some held) g = g held refl

writing_follows : (n : Node) (p q : FlatPlan) (go : LineData → Plan) (c : Cache) (line : ℕ) (copy : Option Held) → ((held : Held) → copy ≡ Some held → Follows n p q (go (bytes_in held))) → Follows n p q (writing_by copy go c line)
writing_follows n p q go c line None g = miss_follows n p q line _
writing_follows n p q go c line (Some (Branch bytes)) g = miss_follows n p q line _
writing_follows n p q go c line (Some (Trunk dirty bytes)) g = g (Trunk dirty bytes) refl

-- ---- the tests on the buffer

valid_is : (word : ℕ) (o : Option ℕ) → is_valid word o ≡ true → o ≡ Some word
valid_is word None e = absurd cc
valid_is word (Some other) e = ap Some (eqb-true other word e)

is_is_valid : (word : ℕ) (o : Option ℕ) → o ≡ Some word → is_valid word o ≡ true
is_is_valid word o e = ap (is_valid word) e ∙ eq-eqb word word refl

own_word : (address : ℕ) → address % 4 ≡ 0 → word_of address ≡ address
own_word address e = omega (arith, e)

-- ---- accesses

module _ (model : MemoryModel) (n : Node) (r : Option ℕ) (memory : List ℕ) (same : Alike n r memory) (f : Fetched) where
  abbrev m : FlatNode
  m = seen n r

  load_follows : (address bytes : ℕ) (q : FlatPlan) → Follows n (flat.plan_load memory m f address bytes) q (plan_load n f address bytes)
  load_follows address bytes q =
      let waiting = forwarded (word_of address) n.buffer in
      let line = line_of n.cache.shape.size address in
      let whole : List ℕ → ℕ = λ lower. read_from (laid_over waiting.0 waiting.1 lower) address bytes in
      let go : LineData → Plan = λ held. retires n f (Some (whole (word_in held (word_of address)))) None deed.Load in
      let there : FlatPlan = flat.retires m f (Some (whole (of_flat.word_in memory (word_of address)))) None deed.Load (Some address) in
      both (λ p x. Follows n p q x) (covers waiting.0 (marks_of_access (address % 4) bytes)) (flat.retires m f (Some (read_from waiting.1 address bytes)) None deed.Load None) there (retires n f (Some (read_from waiting.1 address bytes)) None deed.Load) (reading go n.cache line)
      (λ e. inl (None, refl, tt))
      (λ e. reading_follows n there q go n.cache line (copy_at n.cache line) (λ held g. inl (Some address, ap (λ lower. flat.retires m f (Some (whole lower)) None deed.Load (Some address)) (sym (same.reads address held g)), (held, g))))

  store_follows : (address bytes value : ℕ) (q : FlatPlan) → Follows n (flat.plan_store m f address bytes value) q (plan_store n f address bytes value)
  store_follows address bytes value q =
      both (λ p x. Follows n p q x) (fits (word_of address) n.buffer) (flat.retires m f None None (deed.Store (store_of address bytes value f.place)) None) (flat.Stays outcome.BufferFull) (retires n f None None (deed.Store (store_of address bytes value f.place))) (Stays outcome.BufferFull) (λ e. inl (None, refl, tt)) (λ e. tt)

  lr_follows : (address : ℕ) (q : FlatPlan) → address % 4 ≡ 0 → Follows n (flat.plan_lr memory m f address) q (plan_lr n f address)
  lr_follows address q aligned =
      let line = line_of n.cache.shape.size address in
      let go : LineData → Plan = λ held. retires n f (Some (read_from (word_in held address) address 4)) None (deed.Lr address) in
      let plan : List ℕ → FlatPlan = λ word. flat.retires m f (Some (read_from word address 4)) None (deed.Lr address) (Some address) in
      let there : FlatPlan = plan (of_flat.word_in memory address) in
      both (λ p x. Follows n p q x) (waits_for_stores n.buffer f.instr address) (flat.Stays outcome.MustDrain) there (Stays outcome.MustDrain) (writing go n.cache line) (λ e. tt)
      (λ e. writing_follows n there q go n.cache line (copy_at n.cache line) (λ held g. inl (Some address, ap plan (sym (subst (λ w. word_in (bytes_in held) w ≡ of_flat.word_in memory w) (own_word address aligned) (same.reads address held g))), (held, g))))

  amo_follows : (address : ℕ) (op : AmoOp) (operand : ℕ) (q : FlatPlan) → address % 4 ≡ 0 → Follows n (flat.plan_amo model memory m f address op operand) q (plan_amo model n f address op operand)
  amo_follows address op operand q aligned =
      let line = line_of n.cache.shape.size address in
      let go : LineData → Plan = λ held. update n f address op operand (read_from (word_in held address) address 4) in
      let plan : List ℕ → FlatPlan = λ word. flat.update m f address op operand (read_from word address 4) in
      let there : FlatPlan = plan (of_flat.word_in memory address) in
      both (λ p x. Follows n p q x) (write_waits model n.buffer f.instr address) (flat.Stays outcome.MustDrain) there (Stays outcome.MustDrain) (writing go n.cache line) (λ e. tt)
      (λ e. writing_follows n there q go n.cache line (copy_at n.cache line) (λ held g. inl (Some address, ap plan (sym (subst (λ w. word_in (bytes_in held) w ≡ of_flat.word_in memory w) (own_word address aligned) (same.reads address held g))), (held, g))))

  sc_follows : (address value : ℕ) → Follows n (flat.plan_sc model m f address value) (flat.fails m f) (plan_sc model n f address value)
  sc_follows address value = go (is_valid address n.reserved) refl (is_valid address r) refl
    where
      writes : Plan
      writes = retires n f None (Some true) (deed.Sc address value)

      wrote : FlatPlan
      wrote = flat.retires m f None (Some true) (deed.Sc address value) (Some address)

      go : (b : Bool) → is_valid address n.reserved ≡ b → (c : Bool) → is_valid address r ≡ c
          → Follows n (cond (not c) (flat.fails m f) (cond (write_waits model n.buffer f.instr address) (flat.Stays outcome.MustDrain) wrote)) (flat.fails m f) (cond (not b) (retires n f None (Some false) deed.Fail) (cond (write_waits model n.buffer f.instr address) (Stays outcome.MustDrain) writes))
      go false e c g = inr refl
      go true e true g =
          both (λ p x. Follows n p (flat.fails m f) x) (write_waits model n.buffer f.instr address) (flat.Stays outcome.MustDrain) wrote (Stays outcome.MustDrain) writes (λ w. tt) (λ w. inl (Some address, refl, same.holds address (valid_is address n.reserved e)))
      go true e false g = let h : true ≡ false = sym (is_is_valid address r (same.reserved address (valid_is address n.reserved e))) ∙ g in absurd cc

  fence_follows : (q : FlatPlan) → Follows n (flat.plan_fence m f) q (plan_fence n f)
  fence_follows q =
      let d : Deed = cond (fences (Some f.instr) kind.Store kind.Store) deed.Seal deed.Private in
      both (λ p x. Follows n p q x) (fences (Some f.instr) kind.Store kind.Load && not (is_empty n.buffer)) (flat.Stays outcome.MustDrain) (flat.retires m f None None d None) (Stays outcome.MustDrain) (retires n f None None d) (λ e. tt) (λ e. inl (None, refl, tt))

  access_follows : (a : Access) → Facts f.instr a → Follows n (flat.plan_access model memory m f a) (flat.plan_fail_access m f a) (plan_access model n f a)
  access_follows Private x = inl (None, refl, tt)
  access_follows (Loads address bytes) x = load_follows address bytes _
  access_follows (Stores address bytes value) x = store_follows address bytes value _
  access_follows (DoesLr address) x = lr_follows address _ x.1
  access_follows (DoesSc address value) x = sc_follows address value
  access_follows (DoesAmo address op operand) x = amo_follows address op operand _ x.1
  access_follows Fences x = fence_follows _
  access_follows (Calls number argument) x = inl (None, refl, tt)

-- ---- a step

can_be : (b : Bool) (o : Option ℕ) → cond b o (Some 1) ≡ None → (b ≡ true) × (o ≡ None)
can_be true o e = (refl, e)
can_be false o e = absurd cc

module _ (model : MemoryModel) (image : Initial) (n : Node) (r : Option ℕ) (memory : List ℕ) (same : Alike n r memory) (place : ℕ) where
  by_instr : (w : ℕ) (o : Option Instr) → stop_with (length image.bytes) n.hart o ≡ None → Follows n (flat.plan_instr model memory (seen n r) w place o) (flat.plan_fail_instr (seen n r) w place o) (plan_instr model n w place o)
  by_instr w None e = absurd cc
  by_instr w (Some i) e = access_follows model n r memory same (record { word = w; instr = i; place = place }) (access_of i n.hart.regs) (facts i n.hart.pc n.hart.regs (length image.bytes) e)

  by_stop : (o : Option ℕ) → next_stop image n.hart ≡ o → let w = word_at image n.hart.pc in Follows n (flat.plan_unless o (flat.plan_instr model memory (seen n r) w place (decoded w))) (flat.refused_if (is_some o) (flat.plan_fail_instr (seen n r) w place (decoded w))) (plan_unless o (plan_instr model n w place (decoded w)))
  by_stop (Some code) e = refl
  by_stop None e = by_instr (word_at image n.hart.pc) (decoded (word_at image n.hart.pc)) (can_be (can_fetch image n.hart.pc) (stop_with (length image.bytes) n.hart (decoded (word_at image n.hart.pc))) e).1

  by_running : (b : Bool) → let w = word_at image n.hart.pc in let o = next_stop image n.hart in
      Follows n (cond (not b) (flat.Stays outcome.Halted) (flat.plan_unless o (flat.plan_instr model memory (seen n r) w place (decoded w)))) (cond (not b) (flat.Stays outcome.Halted) (flat.refused_if (is_some o) (flat.plan_fail_instr (seen n r) w place (decoded w)))) (cond (not b) (Stays outcome.Halted) (plan_unless o (plan_instr model n w place (decoded w))))
  by_running true = by_stop (next_stop image n.hart) refl
  by_running false = tt

  pub step_follows : Follows n (flat.plan_step model image memory (seen n r) place) (flat.plan_fail image (seen n r) place) (plan_step model image n place)
  step_follows = by_running (is_running n.hart.status)

-- ---- a drain

-- a drain that a machine goes on with: the flat one does, and the hart's cache has the line
abbrev pub FollowsDrain : Node → ℕ → FlatPlan → Plan → Type 0
FollowsDrain n word p (Changes (act.Drain w)) = (w ≡ word) × (p ≡ Drains word) × HasLine n word
FollowsDrain n word p (Changes (act.Miss line grow)) = Unit {0}
FollowsDrain n word p (Changes _) = ⊥
FollowsDrain n word p (Stays o) = Unit {0}

miss_drains : (n : Node) (word : ℕ) (p : FlatPlan) (line : ℕ) (w : Want) → FollowsDrain n word p (miss_by line w)
miss_drains n word p line want.WaitRelease = tt
miss_drains n word p line want.WaitGrant = tt
miss_drains n word p line want.NoTracker = tt
miss_drains n word p line want.SetFull = tt
miss_drains n word p line (want.Missed grow) = tt

writing_drains : (n : Node) (word line : ℕ) (copy : Option Held) → ((held : Held) → copy ≡ Some held → HasLine n word) → FollowsDrain n word (Drains word) (writing_by copy (λ bytes. Changes (act.Drain word)) n.cache line)
writing_drains n word line None g = miss_drains n word (Drains word) line _
writing_drains n word line (Some (Branch bytes)) g = miss_drains n word (Drains word) line _
writing_drains n word line (Some (Trunk dirty bytes)) g = (refl, refl, g (Trunk dirty bytes) refl)

pub drain_follows : (n : Node) (r : Option ℕ) (word : ℕ) → FollowsDrain n word (flat.plan_drain (seen n r) word) (plan_drain n word)
drain_follows n r word =
    let line = line_of n.cache.shape.size word in
    let goes : Plan = writing (λ bytes. Changes (act.Drain word)) n.cache line in
    both (FollowsDrain n word) (not (has word n.buffer)) (flat.Stays outcome.NoEntry) (cond (not (drainable word n.buffer)) (flat.Stays outcome.NotOldest) (Drains word)) (Stays outcome.NoEntry) (cond (not (drainable word n.buffer)) (Stays outcome.NotOldest) goes) (λ e. tt)
    (λ e. both (FollowsDrain n word) (not (drainable word n.buffer)) (flat.Stays outcome.NotOldest) (Drains word) (Stays outcome.NotOldest) goes (λ g. tt)
    (λ g. writing_drains n word line (copy_at n.cache line) (λ held h. (held, h))))
