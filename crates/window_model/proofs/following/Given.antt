-- What an entry of a hart's list gives: its operation, by its instruction.
use Rattle.std.proofs.Common.{◌≡◌, ℕ, ◌+◌, ◌<◌, List, [], ◌∷◌, Bool, true, false, Option, Some, None, refl, cond, ◌||◌, arith, subst}
use Rattle.std.specs.Prelude.{nat_eq}
use Rattle.std.specs.List.{list_any}
use Rattle.std.specs.Option.{option_map}
use Rattle.std.proofs.lemmas.Bool.{false≢true, eqb-true}
use Rattle.std.proofs.lemmas.Option.{none-some}
use Rattle.hart.specs.declared.retired.Retired.{Retired}
use Rattle.hart.specs.declared.state.Hart.{Hart}
use Rattle.hart.specs.Run.{after}
use Rattle.machine_types.specs.declared.model.MemoryModel.{MemoryModel}
use Rattle.machine_types.specs.declared.model.MemoryModel.TheVariants.{Rvwmo, Ztso}
use Rattle.memory_model.specs.declared.operation.Operation.{Operation}
use Rattle.memory_model.specs.Dependencies.{uses_in}
use Rattle.memory_model.specs.Items.{annotations_of, items_from, operation_of_access, operation_of_entry, succeeded}
use Rattle.memory_model.specs.Operations.{has_acquire, has_rcsc, has_release, is_lr, is_sc}
use Rattle.memory_model.specs.Rules.{is_lr_or_sc}
use Rattle.rv32_decode.specs.Fields.{fences_of, rd_of}
use Rattle.rv32_decode.specs.Rows.{Name, decoded, instr_of, is_tso, name_of}
use Rattle.rv32_decode.specs.Rows.Name.{Upper, Jal, Jalr, Branch, Load, Store, Immediate, Shift, Register, Fence, System, Lr, Sc, Amo}
use Rattle.rv32_decode.specs.declared.instruction.Annotations.{Annotations}
use Rattle.rv32_decode.specs.declared.instruction.Instr.{Instr}
use Rattle.rv32_decode.specs.declared.instruction.Instr.TheVariants as instr
use Rattle.rv32_decode.specs.declared.instruction.SystemOp.TheVariants.{Ecall, Ebreak}
use Rattle.rv32_exec.specs.Meaning.{Access, Private, Loads, Stores, DoesLr, DoesSc, DoesAmo, Fences, Calls, access_of}
use Rattle.rv32_exec.specs.Uses.{named}
use Rattle.trace_operations.specs.Placed.{IsPlaced}
use Rattle.window_model.specs.Fetching.{operation_of}

-- ---- the place of an operation matters to nothing that waits

abbrev pub unplaced : Operation → Operation
unplaced b = record b { place = 0 }

unplaced_access : (hart place : ℕ) (bits : Annotations) (entry : Retired) (access : Access) → operation_of_access hart 0 bits entry access ≡ option_map unplaced (operation_of_access hart place bits entry access)
unplaced_access hart place bits entry (Loads address bytes) = refl
unplaced_access hart place bits entry (Stores address bytes value) = refl
unplaced_access hart place bits entry (DoesLr address) = refl
unplaced_access hart place bits entry (DoesSc address value) = go (succeeded entry.sc_ok)
  where
    go : (b : Bool) → cond b (operation_of_access hart 0 bits (record entry { sc_ok = Some true }) (DoesSc address value)) None ≡ option_map unplaced (cond b (operation_of_access hart place bits (record entry { sc_ok = Some true }) (DoesSc address value)) None)
    go true = refl
    go false = refl
unplaced_access hart place bits entry (DoesAmo address op operand) = refl
unplaced_access hart place bits entry Private = refl
unplaced_access hart place bits entry Fences = refl
unplaced_access hart place bits entry (Calls number argument) = refl

unplaced_entry : (place : ℕ) (hart : Hart) (entry : Retired) (i : Option Instr) → operation_of_entry 0 hart entry i ≡ option_map unplaced (operation_of_entry place hart entry i)
unplaced_entry place hart entry None = refl
unplaced_entry place hart entry (Some i) = unplaced_access hart.id place (annotations_of i) entry (access_of i hart.regs)

pub operation_of-unplaced : (place : ℕ) (hart : Hart) (entry : Retired) → operation_of hart entry ≡ option_map unplaced (operation_of_entry place hart entry (decoded entry.word))
operation_of-unplaced place hart entry = unplaced_entry place hart entry (decoded entry.word)

pub has_acquire-unplaced : (model : MemoryModel) (b : Operation) → has_acquire model (unplaced b) ≡ has_acquire model b
has_acquire-unplaced Rvwmo b = refl
has_acquire-unplaced Ztso b = refl

pub has_release-unplaced : (model : MemoryModel) (b : Operation) → has_release model (unplaced b) ≡ has_release model b
has_release-unplaced Rvwmo b = refl
has_release-unplaced Ztso b = refl

pub has_rcsc-unplaced : (model : MemoryModel) (b : Operation) → has_rcsc model (unplaced b) ≡ has_rcsc model b
has_rcsc-unplaced Rvwmo b = refl
has_rcsc-unplaced Ztso b = refl

-- ---- the operations of LRs and SCs are theirs, and have whole words

pub record IsOf (i : Option Instr) (b : Operation) : Type 0 where
  pub pairs : is_lr_or_sc i ≡ (is_lr b.kind || is_sc b.kind)
  pub word : (is_lr b.kind || is_sc b.kind) ≡ true → b.size ≡ 4

abbrev IsOfAny : Option Instr → Option Operation → Type 0
IsOfAny i None = Unit {0}
IsOfAny i (Some b) = IsOf i b

given : (place : ℕ) (hart : Hart) (entry : Retired) (i : Instr) → IsOfAny (Some i) (operation_of_entry place hart entry (Some i))
given place hart entry (instr.Upper op rd imm) = tt
given place hart entry (instr.Jal rd offset) = tt
given place hart entry (instr.Jalr rd rs1 offset) = tt
given place hart entry (instr.Branch op rs1 rs2 offset) = tt
given place hart entry (instr.Load op rd rs1 offset) = record { pairs = refl; word = λ e. absurd (false≢true e) }
given place hart entry (instr.Store op rs1 rs2 offset) = record { pairs = refl; word = λ e. absurd (false≢true e) }
given place hart entry (instr.Immediate op rd rs1 imm) = tt
given place hart entry (instr.Shift op rd rs1 amount) = tt
given place hart entry (instr.Register op rd rs1 rs2) = tt
given place hart entry (instr.Fence sets) = tt
given place hart entry instr.FenceTso = tt
given place hart entry (instr.System Ecall) = tt
given place hart entry (instr.System Ebreak) = tt
given place hart entry (instr.Lr rd rs1 bits) = record { pairs = refl; word = λ e. refl }
given place hart entry (instr.Sc rd rs1 rs2 bits) = go (succeeded entry.sc_ok)
  where
    go : (b : Bool) → IsOfAny (Some (instr.Sc rd rs1 rs2 bits)) (cond b (operation_of_access hart.id place bits (record entry { sc_ok = Some true }) (access_of (instr.Sc rd rs1 rs2 bits) hart.regs)) None)
    go true = record { pairs = refl; word = λ e. refl }
    go false = tt
given place hart entry (instr.Amo op rd rs1 rs2 bits) = record { pairs = refl; word = λ e. absurd (false≢true e) }

pub operation_is : (place : ℕ) (hart : Hart) (entry : Retired) (i : Option Instr) (b : Operation) → operation_of_entry place hart entry i ≡ Some b → IsOf i b
operation_is place hart entry None b e = absurd (none-some b e)
operation_is place hart entry (Some i) b e = subst (IsOfAny (Some i)) e (given place hart entry i)

-- ---- an instruction writes one of x0 to x31

named_below : (word r : ℕ) → list_any (nat_eq r) (named (rd_of word)) ≡ true → r < 32
named_below word r e = go (nat_eq (rd_of word) 0) e
  where
    go : (b : Bool) → list_any (nat_eq r) (cond b [] (rd_of word ∷ [])) ≡ true → r < 32
    go true h = absurd (false≢true h)
    go false h = first (nat_eq r (rd_of word)) refl h
      where
        first : (c : Bool) → nat_eq r (rd_of word) ≡ c → (c || false) ≡ true → r < 32
        first true k h = let same = eqb-true r (rd_of word) k in omega (arith, same)
        first false k h = absurd (false≢true h)

none_below : (r : ℕ) → false ≡ true → r < 32
none_below r e = absurd (false≢true e)

row_below : (n : Name) (word r : ℕ) → list_any (nat_eq r) (uses_in (Some (instr_of n word))).written ≡ true → r < 32
row_below (Upper op) word r e = named_below word r e
row_below Jal word r e = named_below word r e
row_below Jalr word r e = named_below word r e
row_below (Branch op) word r e = none_below r e
row_below (Load op) word r e = named_below word r e
row_below (Store op) word r e = none_below r e
row_below (Immediate op) word r e = named_below word r e
row_below (Shift op) word r e = named_below word r e
row_below (Register op) word r e = named_below word r e
row_below Fence word r e = go (is_tso word) e
  where
    go : (b : Bool) → list_any (nat_eq r) (uses_in (Some (cond b instr.FenceTso (instr.Fence (fences_of word))))).written ≡ true → r < 32
    go true h = none_below r h
    go false h = none_below r h
row_below (System op) word r e = none_below r e
row_below Lr word r e = named_below word r e
row_below Sc word r e = named_below word r e
row_below (Amo op) word r e = named_below word r e

pub written_below : (word r : ℕ) → list_any (nat_eq r) (uses_in (decoded word)).written ≡ true → r < 32
written_below word r e = go (name_of word) e
  where
    go : (o : Option Name) → list_any (nat_eq r) (uses_in (option_map (λ n. instr_of n word) o)).written ≡ true → r < 32
    go None h = none_below r h
    go (Some n) h = row_below n word r h

-- ---- the instructions of a list stand at their places

pub items_placed : (place : ℕ) (hart : Hart) (entries : List Retired) → IsPlaced place (items_from place hart entries)
items_placed place hart [] = tt
items_placed place hart (entry ∷ rest) = (refl, items_placed (place + 1) (after hart entry) rest)
