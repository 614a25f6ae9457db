-- What an access of the code does, and by which entries its hart goes behind it.
use Rattle.std.proofs.Common.{◌≡◌, ℕ, zero, suc, ◌+◌, ◌-◌, ◌*◌, ◌/◌, ◌%◌, ◌^◌, ◌<◌, ◌≤◌, ◌⊎◌, inl, inr, Bool, true, false, not, ◌&&◌, ◌||◌, List, [], ◌∷◌, Option, Some, None, refl, sym, ap, ◌∙◌, subst, arith, length}
use Rattle.std.specs.Prelude.{◌==◌, IfSome, bit_and, if◌then◌else◌, is_none, slice_index, unwrap_or}
use Rattle.std.proofs.lemmas.Bool.{and_from, and_parts, eq-eqb, eqb-true, false≢true}
use Rattle.std.proofs.lemmas.Option.{none-some}
use Rattle.std.proofs.lemmas.Nat.{pow_pos}
use Rattle.std.proofs.Math.Nat.{mod-eq_of_lt, mod-lt}
use Rattle.amo_unit.specs.Amo.{combined}
use Rattle.elf_loader.specs.Image.{Initial, word_at}
use Rattle.hart.specs.declared.retired.Retired.{Retired}
use Rattle.hart.specs.declared.state.Hart.{Hart}
use Rattle.hart.specs.Local.{next_entry}
use Rattle.hart.specs.Run.{can_do, can_fetch, is_running, is_step, next_stop, number_read, stop_with}
use Rattle.memory_model.specs.declared.operation.Kind.{Kind}
use Rattle.memory_model.specs.declared.operation.Kind.TheVariants as kind
use Rattle.memory_model.specs.Items.{annotations_of}
use Rattle.memory_model.specs.Operations.{is_lr, is_sc, writes}
use Rattle.memory_model.specs.Rules.{fences, is_lr_or_sc}
use Rattle.memory_model.specs.Dependencies.{steers}
use Rattle.rv32_decode.specs.declared.instruction.AmoOp.{AmoOp}
use Rattle.rv32_decode.specs.declared.instruction.Instr.{Instr}
use Rattle.rv32_decode.specs.declared.instruction.Instr.TheVariants as instr
use Rattle.rv32_decode.specs.Rows.{decoded}
use Rattle.rv32_exec.specs.Actions.{action_of_access, width_of}
use Rattle.rv32_exec.specs.Arithmetic.{bytes_stored, sum32}
use Rattle.rv32_exec.specs.Meaning.{Access, Loads, Stores, access_of, value_written}
use Rattle.rv32_exec.specs.Uses.{uses_of}
use Rattle.rv32_exec.specs.Width.{byte_count}
use Rattle.rv32_exec.specs.declared.actions.Action.{Action}
use Rattle.rv32_exec.specs.declared.actions.Action.TheVariants as action
use Rattle.rv32_exec.specs.declared.actions.Width.{Width}
use Rattle.window_model.specs.Outcomes.{number_out}
use Rattle.window_machine.specs.declared.access.Access as code
use Rattle.window_machine.specs.Acting.{is_of}
use Rattle.window_machine.specs.Asking.{IsNext, does, done_by, first_byte, retired_by, retired_with}
use Rattle.window_machine.specs.Circles.{accesses, is_of_memory}
use Rattle.window_machine.specs.Lanes.{are_lanes, are_lanes_of, first_lane, lane_count, lanes_from, number_in}
use Rattle.window_machine.proofs.Acting.{loaded_width, stored_width}
use Rattle.window_machine.proofs.Numbers.{from_all, number_whole, of_kind, seven, stands}

-- ---- what instructions of accesses have in common

pub record IsAccess (i : Instr) (k : Kind) : Type 0 where
  pub other : (uses_of i).other ≡ []
  pub stored : writes k ≡ false → (uses_of i).stored ≡ []
  pub steers_not : steers (Some i) ≡ false
  pub fences_not : (a b : Kind) → fences (Some i) a b ≡ false
  pub out : (x : List ℕ) → number_out (access_of i x) ≡ []
  pub reserving : is_lr_or_sc (Some i) ≡ (is_lr k || is_sc k)

pub is_access : (i : Instr) (k : Kind) → is_of i k ≡ true → IsAccess i k
is_access (instr.Upper op rd imm) k e = absurd (false≢true e)
is_access (instr.Jal rd offset) k e = absurd (false≢true e)
is_access (instr.Jalr rd rs1 offset) k e = absurd (false≢true e)
is_access (instr.Branch op rs1 rs2 offset) k e = absurd (false≢true e)
is_access (instr.Load op rd rs1 offset) kind.Load e = record { other = refl; stored = λ h. refl; steers_not = refl; fences_not = λ a b. refl; out = λ x. refl; reserving = refl }
is_access (instr.Load op rd rs1 offset) kind.Store e = absurd (false≢true e)
is_access (instr.Load op rd rs1 offset) kind.Lr e = absurd (false≢true e)
is_access (instr.Load op rd rs1 offset) kind.Sc e = absurd (false≢true e)
is_access (instr.Load op rd rs1 offset) kind.Amo e = absurd (false≢true e)
is_access (instr.Store op rs1 rs2 offset) kind.Load e = absurd (false≢true e)
is_access (instr.Store op rs1 rs2 offset) kind.Store e = record { other = refl; stored = λ h. absurd (false≢true (sym h)); steers_not = refl; fences_not = λ a b. refl; out = λ x. refl; reserving = refl }
is_access (instr.Store op rs1 rs2 offset) kind.Lr e = absurd (false≢true e)
is_access (instr.Store op rs1 rs2 offset) kind.Sc e = absurd (false≢true e)
is_access (instr.Store op rs1 rs2 offset) kind.Amo e = absurd (false≢true e)
is_access (instr.Immediate op rd rs1 imm) k e = absurd (false≢true e)
is_access (instr.Shift op rd rs1 amount) k e = absurd (false≢true e)
is_access (instr.Register op rd rs1 rs2) k e = absurd (false≢true e)
is_access (instr.Fence sets) k e = absurd (false≢true e)
is_access instr.FenceTso k e = absurd (false≢true e)
is_access (instr.System op) k e = absurd (false≢true e)
is_access (instr.Lr rd rs1 bits) kind.Load e = absurd (false≢true e)
is_access (instr.Lr rd rs1 bits) kind.Store e = absurd (false≢true e)
is_access (instr.Lr rd rs1 bits) kind.Lr e = record { other = refl; stored = λ h. refl; steers_not = refl; fences_not = λ a b. refl; out = λ x. refl; reserving = refl }
is_access (instr.Lr rd rs1 bits) kind.Sc e = absurd (false≢true e)
is_access (instr.Lr rd rs1 bits) kind.Amo e = absurd (false≢true e)
is_access (instr.Sc rd rs1 rs2 bits) kind.Load e = absurd (false≢true e)
is_access (instr.Sc rd rs1 rs2 bits) kind.Store e = absurd (false≢true e)
is_access (instr.Sc rd rs1 rs2 bits) kind.Lr e = absurd (false≢true e)
is_access (instr.Sc rd rs1 rs2 bits) kind.Sc e = record { other = refl; stored = λ h. absurd (false≢true (sym h)); steers_not = refl; fences_not = λ a b. refl; out = λ x. refl; reserving = refl }
is_access (instr.Sc rd rs1 rs2 bits) kind.Amo e = absurd (false≢true e)
is_access (instr.Amo op rd rs1 rs2 bits) kind.Load e = absurd (false≢true e)
is_access (instr.Amo op rd rs1 rs2 bits) kind.Store e = absurd (false≢true e)
is_access (instr.Amo op rd rs1 rs2 bits) kind.Lr e = absurd (false≢true e)
is_access (instr.Amo op rd rs1 rs2 bits) kind.Sc e = absurd (false≢true e)
is_access (instr.Amo op rd rs1 rs2 bits) kind.Amo e = record { other = refl; stored = λ h. absurd (false≢true (sym h)); steers_not = refl; fences_not = λ a b. refl; out = λ x. refl; reserving = refl }

-- ---- its access, from its action

same_load : (a b : ℕ) (v w : Width) → action.Load a v ≡ action.Load b w → (a ≡ b) × (v ≡ w)
same_load a b v w e = (cc, cc)

same_store : (a b : ℕ) (v w : Width) (m n : ℕ) → action.Store a v m ≡ action.Store b w n → (a ≡ b) × ((v ≡ w) × (m ≡ n))
same_store a b v w m n e = (cc, (cc, cc))

width_is : (m n : ℕ) → byte_count (width_of m) ≡ m → byte_count (width_of n) ≡ n → width_of m ≡ width_of n → m ≡ n
width_is m n e f same = sym e ∙ (ap byte_count same ∙ f)

pub count_is : (l : ℕ) → are_lanes l ≡ true → byte_count (width_of (lane_count l)) ≡ lane_count l
count_is l e = eqb-true _ _ (from_all (λ n. byte_count (width_of (lane_count n)) == lane_count n) seven l e refl)

loads : (a m b n : ℕ) → byte_count (width_of m) ≡ m → byte_count (width_of n) ≡ n → action.Load a (width_of m) ≡ action.Load b (width_of n) → Loads a m ≡ Loads b n
loads a m b n e f same =
    let parts = same_load a b (width_of m) (width_of n) same in ap (λ x. Loads x m) parts.0 ∙ ap (Loads b) (width_is m n e f parts.1)

stores : (a m v b n w : ℕ) → byte_count (width_of m) ≡ m → byte_count (width_of n) ≡ n → action.Store a (width_of m) v ≡ action.Store b (width_of n) w → Stores a m v ≡ Stores b n w
stores a m v b n w e f same =
    let parts = same_store a b (width_of m) (width_of n) v w same in
    ap (λ x. Stores x m v) parts.0 ∙ (ap (λ x. Stores b x v) (width_is m n e f parts.1.0) ∙ ap (Stores b n) parts.1.1)

pub same_access : (i : Instr) (k : Kind) (a count operand : ℕ) (op : AmoOp) (x : List ℕ) → is_of i k ≡ true → byte_count (width_of count) ≡ count → action_of_access (done_by k a count operand op) ≡ action_of_access (access_of i x) → done_by k a count operand op ≡ access_of i x
same_access (instr.Upper o rd imm) k a count operand op x e c same = absurd (false≢true e)
same_access (instr.Jal rd offset) k a count operand op x e c same = absurd (false≢true e)
same_access (instr.Jalr rd rs1 offset) k a count operand op x e c same = absurd (false≢true e)
same_access (instr.Branch o rs1 rs2 offset) k a count operand op x e c same = absurd (false≢true e)
same_access (instr.Load o rd rs1 offset) kind.Load a count operand op x e c same = loads a count _ _ c (loaded_width o) same
same_access (instr.Load o rd rs1 offset) kind.Store a count operand op x e c same = absurd (false≢true e)
same_access (instr.Load o rd rs1 offset) kind.Lr a count operand op x e c same = absurd (false≢true e)
same_access (instr.Load o rd rs1 offset) kind.Sc a count operand op x e c same = absurd (false≢true e)
same_access (instr.Load o rd rs1 offset) kind.Amo a count operand op x e c same = absurd (false≢true e)
same_access (instr.Store o rs1 rs2 offset) kind.Load a count operand op x e c same = absurd (false≢true e)
same_access (instr.Store o rs1 rs2 offset) kind.Store a count operand op x e c same = stores a count operand _ _ _ c (stored_width o) same
same_access (instr.Store o rs1 rs2 offset) kind.Lr a count operand op x e c same = absurd (false≢true e)
same_access (instr.Store o rs1 rs2 offset) kind.Sc a count operand op x e c same = absurd (false≢true e)
same_access (instr.Store o rs1 rs2 offset) kind.Amo a count operand op x e c same = absurd (false≢true e)
same_access (instr.Immediate o rd rs1 imm) k a count operand op x e c same = absurd (false≢true e)
same_access (instr.Shift o rd rs1 amount) k a count operand op x e c same = absurd (false≢true e)
same_access (instr.Register o rd rs1 rs2) k a count operand op x e c same = absurd (false≢true e)
same_access (instr.Fence sets) k a count operand op x e c same = absurd (false≢true e)
same_access instr.FenceTso k a count operand op x e c same = absurd (false≢true e)
same_access (instr.System o) k a count operand op x e c same = absurd (false≢true e)
same_access (instr.Lr rd rs1 bits) kind.Load a count operand op x e c same = absurd (false≢true e)
same_access (instr.Lr rd rs1 bits) kind.Store a count operand op x e c same = absurd (false≢true e)
same_access (instr.Lr rd rs1 bits) kind.Lr a count operand op x e c same = cc
same_access (instr.Lr rd rs1 bits) kind.Sc a count operand op x e c same = absurd (false≢true e)
same_access (instr.Lr rd rs1 bits) kind.Amo a count operand op x e c same = absurd (false≢true e)
same_access (instr.Sc rd rs1 rs2 bits) kind.Load a count operand op x e c same = absurd (false≢true e)
same_access (instr.Sc rd rs1 rs2 bits) kind.Store a count operand op x e c same = absurd (false≢true e)
same_access (instr.Sc rd rs1 rs2 bits) kind.Lr a count operand op x e c same = absurd (false≢true e)
same_access (instr.Sc rd rs1 rs2 bits) kind.Sc a count operand op x e c same = cc
same_access (instr.Sc rd rs1 rs2 bits) kind.Amo a count operand op x e c same = absurd (false≢true e)
same_access (instr.Amo o rd rs1 rs2 bits) kind.Load a count operand op x e c same = absurd (false≢true e)
same_access (instr.Amo o rd rs1 rs2 bits) kind.Store a count operand op x e c same = absurd (false≢true e)
same_access (instr.Amo o rd rs1 rs2 bits) kind.Lr a count operand op x e c same = absurd (false≢true e)
same_access (instr.Amo o rd rs1 rs2 bits) kind.Sc a count operand op x e c same = absurd (false≢true e)
same_access (instr.Amo o rd rs1 rs2 bits) kind.Amo a count operand op x e c same = cc

-- ---- what it writes

stored_fits : (a count operand b bytes number : ℕ) → Stores a count operand ≡ Stores b bytes (number % 2 ^ (8 * bytes)) → operand < 2 ^ (8 * count)
stored_fits a count operand b bytes number same =
    let size : count ≡ bytes = cc in
    let value : operand ≡ number % 2 ^ (8 * bytes) = cc in
    subst (λ n. operand < 2 ^ (8 * n)) (sym size) (subst (λ n. n < 2 ^ (8 * bytes)) (sym value) (mod-lt number (pow_pos (8 * bytes))))

operand_fits : (i : Instr) (a count operand : ℕ) (op : AmoOp) (x : List ℕ) → is_of i kind.Store ≡ true → Stores a count operand ≡ access_of i x → operand < 2 ^ (8 * count)
operand_fits (instr.Upper o rd imm) a count operand op x e same = absurd (false≢true e)
operand_fits (instr.Jal rd offset) a count operand op x e same = absurd (false≢true e)
operand_fits (instr.Jalr rd rs1 offset) a count operand op x e same = absurd (false≢true e)
operand_fits (instr.Branch o rs1 rs2 offset) a count operand op x e same = absurd (false≢true e)
operand_fits (instr.Load o rd rs1 offset) a count operand op x e same = absurd (false≢true e)
operand_fits (instr.Store o rs1 rs2 offset) a count operand op x e same = stored_fits a count operand (sum32 (slice_index x rs1) offset) (bytes_stored o) (slice_index x rs2) same
operand_fits (instr.Immediate o rd rs1 imm) a count operand op x e same = absurd (false≢true e)
operand_fits (instr.Shift o rd rs1 amount) a count operand op x e same = absurd (false≢true e)
operand_fits (instr.Register o rd rs1 rs2) a count operand op x e same = absurd (false≢true e)
operand_fits (instr.Fence sets) a count operand op x e same = absurd (false≢true e)
operand_fits instr.FenceTso a count operand op x e same = absurd (false≢true e)
operand_fits (instr.System o) a count operand op x e same = absurd (false≢true e)
operand_fits (instr.Lr rd rs1 bits) a count operand op x e same = absurd (false≢true e)
operand_fits (instr.Sc rd rs1 rs2 bits) a count operand op x e same = absurd (false≢true e)
operand_fits (instr.Amo o rd rs1 rs2 bits) a count operand op x e same = absurd (false≢true e)

pub writes_store : (image : Initial) (hart : Hart) (a : code.Access) (read : ℕ) → IsNext image hart a → a.kind ≡ kind.Store → a.operand % 2 ^ (8 * lane_count a.lanes) ≡ unwrap_or (value_written (does a) (number_read (retired_by a read))) 0
writes_store image hart a read next is =
    let stores : Stores (first_byte a) (lane_count a.lanes) a.operand ≡ access_of a.instr hart.regs = ap (λ k. done_by k (first_byte a) (lane_count a.lanes) a.operand a.op) (sym is) ∙ next.does in
    let fits = operand_fits a.instr (first_byte a) (lane_count a.lanes) a.operand a.op hart.regs (ap (is_of a.instr) (sym is) ∙ a.asked) stores in
    mod-eq_of_lt fits ∙ ap (λ k. unwrap_or (value_written (done_by k (first_byte a) (lane_count a.lanes) a.operand a.op) (number_read (retired_by a read))) 0) (sym is)

pub writes_sc : (a : code.Access) (read : ℕ) → a.kind ≡ kind.Sc → a.operand ≡ unwrap_or (value_written (does a) (number_read (retired_by a read))) 0
writes_sc a read is = ap (λ k. unwrap_or (value_written (done_by k (first_byte a) (lane_count a.lanes) a.operand a.op) (number_read (retired_by a read))) 0) (sym is)

pub whole_sc : (a : code.Access) → a.kind ≡ kind.Sc → a.lanes ≡ lanes_from 0 4
whole_sc a is = eqb-true a.lanes (lanes_from 0 4) (sym (ap (λ k. are_lanes_of k a.lanes) is) ∙ a.bytes)

pub whole_lr : (a : code.Access) → a.kind ≡ kind.Lr → a.lanes ≡ lanes_from 0 4
whole_lr a is = eqb-true a.lanes (lanes_from 0 4) (sym (ap (λ k. are_lanes_of k a.lanes) is) ∙ a.bytes)

pub whole_amo : (a : code.Access) → a.kind ≡ kind.Amo → a.lanes ≡ lanes_from 0 4
whole_amo a is = eqb-true a.lanes (lanes_from 0 4) (sym (ap (λ k. are_lanes_of k a.lanes) is) ∙ a.bytes)

-- the number that its entry has read
pub number_of_amo : (image : Initial) (hart : Hart) (a : code.Access) (read : ℕ) → IsNext image hart a → a.kind ≡ kind.Amo → read < 2 ^ 32 → number_read (retired_by a read) ≡ read
number_of_amo image hart a read next is l =
    ap (λ k. number_read (retired_with k a.entry (number_in a.lanes read))) is
    ∙ (ap (λ entry. number_read (retired_with kind.Amo entry (number_in a.lanes read))) next.entry
    ∙ (ap (λ lanes. number_in lanes read) (whole_amo a is) ∙ number_whole read l))

pub writes_amo : (image : Initial) (hart : Hart) (a : code.Access) (read new : ℕ) → IsNext image hart a → a.kind ≡ kind.Amo → read < 2 ^ 32 → new < 2 ^ 32 → new ≡ combined a.op read a.operand
    → number_in a.lanes new ≡ unwrap_or (value_written (does a) (number_read (retired_by a read))) 0
writes_amo image hart a read new next is l m e =
    ap (λ lanes. number_in lanes new) (whole_amo a is) ∙ (number_whole new m
    ∙ (e ∙ (ap (λ n. combined a.op n a.operand) (sym (number_of_amo image hart a read next is l))
    ∙ ap (λ k. unwrap_or (value_written (done_by k (first_byte a) (lane_count a.lanes) a.operand a.op) (number_read (retired_by a read))) 0) (sym is))))

-- ---- what a hart does next

-- what the code finds of a hart's next instruction
pub record IsFound (image : Initial) (hart : Hart) (i : Instr) (entry : Retired) (plan : Action) : Type 0 where
  pub runs : is_running hart.status ≡ true
  pub goes_on : next_stop image hart ≡ None
  pub fetched : decoded (word_at image hart.pc) ≡ Some i
  pub entry_is : entry ≡ next_entry image hart
  pub plan_is : plan ≡ action_of_access (access_of i hart.regs)

pub is_next : (image : Initial) (hart : Hart) (i : Instr) (entry : Retired) (plan : Action) (o : Option code.Access) → IsFound image hart i entry plan
    → IfSome o (λ (a : code.Access). (a.instr ≡ i) × (a.entry ≡ entry) × (a.bits ≡ annotations_of i))
    → IfSome o (λ (a : code.Access). action_of_access (does a) ≡ plan)
    → IfSome o (λ (a : code.Access). IsNext image hart a)
is_next image hart i entry plan None found f g = tt
is_next image hart i entry plan (Some a) found f g = record {
  runs = found.runs;
  goes_on = found.goes_on;
  fetched = found.fetched ∙ ap (λ j. Some j) (sym f.0);
  entry = f.1 ∙ found.entry_is;
  bits = f.2 ∙ ap annotations_of (sym f.0);
  does = same_access a.instr a.kind (first_byte a) (lane_count a.lanes) a.operand a.op hart.regs a.asked (count_is a.lanes (of_kind a.kind a.lanes a.bytes))
      (g ∙ (found.plan_is ∙ ap (λ j. action_of_access (access_of j hart.regs)) (sym f.0)));
}

-- ---- an entry that a hart can retire

pub record IsTaken (image : Initial) (hart : Hart) (entry : Retired) : Type 0 where
  pub runs : is_running hart.status ≡ true
  pub pc : entry.pc ≡ hart.pc
  pub fetches : can_fetch image hart.pc ≡ true
  pub word : entry.word ≡ word_at image hart.pc
  pub does : can_do (length image.bytes) hart entry (decoded entry.word) ≡ true

pub is_taken : (image : Initial) (hart : Hart) (entry : Retired) → is_step image hart entry ≡ true → IsTaken image hart entry
is_taken image hart entry e =
    let a = and_parts _ _ e in
    let b = and_parts _ _ a.0 in
    let d = and_parts _ _ b.0 in
    let f = and_parts _ _ d.0 in
    record { runs = f.0; pc = eqb-true _ _ f.1; fetches = d.1; word = eqb-true _ _ b.1; does = a.1 }

pub no_access : (image : Initial) (hart : Hart) (i : Instr) (entry : Retired) → decoded (word_at image hart.pc) ≡ Some i → is_of_memory (access_of i hart.regs) ≡ false → is_step image hart entry ≡ true → accesses hart (decoded entry.word) ≡ false
no_access image hart i entry fetched none e =
    ap (λ w. accesses hart (decoded w)) (is_taken image hart entry e).word ∙ (ap (accesses hart) fetched ∙ none)

goes_on_so : (image : Initial) (hart : Hart) (entry : Retired) (o : Option Instr) → can_do (length image.bytes) hart entry o ≡ true → stop_with (length image.bytes) hart o ≡ None
goes_on_so image hart entry None e = absurd (false≢true e)
goes_on_so image hart entry (Some i) e = none_is _ (and_parts _ _ e).0
  where
    none_is : (o : Option ℕ) → is_none o ≡ true → o ≡ None
    none_is None f = refl
    none_is (Some code) f = absurd (false≢true f)

pub goes_on_at : (image : Initial) (hart : Hart) (entry : Retired) → is_step image hart entry ≡ true → next_stop image hart ≡ None
goes_on_at image hart entry e =
    let t = is_taken image hart entry e in
    ap (λ b. if b then stop_with (length image.bytes) hart (decoded (word_at image hart.pc)) else Some 1) t.fetches
    ∙ (ap (λ w. stop_with (length image.bytes) hart (decoded w)) (sym t.word) ∙ goes_on_so image hart entry (decoded entry.word) t.does)

pub no_step_stopped : (image : Initial) (hart : Hart) (entry : Retired) (code : ℕ) → next_stop image hart ≡ Some code → is_step image hart entry ≡ true → ⊥
no_step_stopped image hart entry code stops e = none-some code (sym (goes_on_at image hart entry e) ∙ stops)
