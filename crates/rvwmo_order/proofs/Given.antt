-- The operations of an order of a trace's names are those of its instructions, with bytes, each once.
use Rattle.std.proofs.Common.{◌≡◌, ℕ, zero, suc, ◌+◌, ◌<◌, ◌≤◌, List, [], ◌∷◌, Bool, true, false, Option, Some, None, refl, cond, subst, ap, ◌∙◌, arith}
use Rattle.std.specs.Prelude.{option_and_then, slice_get}
use Rattle.std.specs.List.{cons_option}
use Rattle.std.proofs.lemmas.Option.{get_or_from_slice_get, none-some, same_Some}
use Rattle.rv32_decode.specs.Rows.{decoded}
use Rattle.rv32_decode.specs.declared.instruction.Annotations.{Annotations}
use Rattle.rv32_decode.specs.declared.instruction.Instr.{Instr}
use Rattle.rv32_decode.specs.declared.instruction.Instr.TheVariants as instr
use Rattle.rv32_decode.specs.declared.instruction.LoadOp.{LoadOp}
use Rattle.rv32_decode.specs.declared.instruction.LoadOp.TheVariants.{Lb, Lh, Lw, Lbu, Lhu}
use Rattle.rv32_decode.specs.declared.instruction.StoreOp.{StoreOp}
use Rattle.rv32_decode.specs.declared.instruction.StoreOp.TheVariants.{Sb, Sh, Sw}
use Rattle.rv32_decode.specs.declared.instruction.SystemOp.TheVariants.{Ecall, Ebreak}
use Rattle.hart.specs.Arithmetic.{bytes_loaded, bytes_stored}
use Rattle.hart.specs.Meaning.{Access, Private, Loads, Stores, DoesLr, DoesSc, DoesAmo, Fences, Calls, access_of}
use Rattle.elf_loader.specs.Image.{Initial}
use Rattle.hart.specs.declared.retired.Retired.{Retired}
use Rattle.hart.specs.declared.state.Hart.{Hart}
use Rattle.hart.specs.Run.{after, at_reset}
use Rattle.memory_model.specs.History.{History}
use Rattle.memory_model.specs.OpId.{OpId}
use Rattle.memory_model.specs.declared.operation.Operation.{Operation}
use Rattle.memory_model.specs.Items.{Item, annotations_of, items_from, items_of_harts, operation_of_access, operation_of_entry, succeeded}
use Rattle.memory_model.specs.Rules.{items_of}
use Rattle.memory_model.specs.Traces.{instructions, operation_at, operations_at}
use Rattle.memory_model.proofs.Named.{operation_at-bears}
use Rattle.rvwmo_order.specs.Bounds.{GivesEach, IsGiven}
use Rattle.memory_model.proofs.Lists.{Each-weaker}
use Rattle.rvwmo_order.specs.Ranks.{AreSmall}
use Rattle.rvwmo_order.proofs.Paired.{listed_lr}

-- ---- bytes

abbrev IsSized : ℕ → Type 0
IsSized bytes = (0 < bytes) × (bytes ≤ 4)

abbrev Sized : Access → Type 0
Sized (Loads address bytes) = IsSized bytes
Sized (Stores address bytes value) = IsSized bytes
Sized _ = Unit {0}

loaded_sized : (op : LoadOp) → IsSized (bytes_loaded op)
loaded_sized Lb = (omega arith, omega arith)
loaded_sized Lh = (omega arith, omega arith)
loaded_sized Lw = (omega arith, omega arith)
loaded_sized Lbu = (omega arith, omega arith)
loaded_sized Lhu = (omega arith, omega arith)

stored_sized : (op : StoreOp) → IsSized (bytes_stored op)
stored_sized Sb = (omega arith, omega arith)
stored_sized Sh = (omega arith, omega arith)
stored_sized Sw = (omega arith, omega arith)

sized : (i : Instr) (regs : List ℕ) → Sized (access_of i regs)
sized (instr.Load op rd rs1 offset) regs = loaded_sized op
sized (instr.Store op rs1 rs2 offset) regs = stored_sized op
sized (instr.System Ecall) regs = tt
sized (instr.System Ebreak) regs = tt
sized _ regs = tt

with_size : (r a : Operation) → Some r ≡ Some a → IsSized r.size → IsSized a.size
with_size r a e h = subst (λ (y : Operation). IsSized y.size) (same_Some r a e) h

tried_sized : (ok : Bool) (r a : Operation) → cond ok (Some r) None ≡ Some a → IsSized r.size → IsSized a.size
tried_sized true r a e h = with_size r a e h
tried_sized false r a e h = absurd (none-some a e)

access_sized : (hart place : ℕ) (bits : Annotations) (entry : Retired) (access : Access) (a : Operation) → Sized access → operation_of_access hart place bits entry access ≡ Some a → IsSized a.size
access_sized hart place bits entry (Loads address bytes) a h e = with_size _ a e h
access_sized hart place bits entry (Stores address bytes value) a h e = with_size _ a e h
access_sized hart place bits entry (DoesLr address) a h e = with_size _ a e (omega arith, omega arith)
access_sized hart place bits entry (DoesSc address value) a h e = tried_sized (succeeded entry.sc_ok) _ a e (omega arith, omega arith)
access_sized hart place bits entry (DoesAmo address op operand) a h e = with_size _ a e (omega arith, omega arith)
access_sized hart place bits entry Private a h e = absurd (none-some a e)
access_sized hart place bits entry Fences a h e = absurd (none-some a e)
access_sized hart place bits entry (Calls number argument) a h e = absurd (none-some a e)

item_sized : (place : ℕ) (hart : Hart) (entries : List Retired) (k : ℕ) (m : Item) (a : Operation) → slice_get (items_from place hart entries) k ≡ Some m → m.operation ≡ Some a → IsSized a.size
item_sized place hart [] k m a e f = absurd (none-some m e)
item_sized place hart (entry ∷ rest) zero m a e f = go (decoded entry.word) (ap (λ (i : Item). i.operation) (same_Some _ m e) ∙ f)
  where
    go : (o : Option Instr) → operation_of_entry place hart entry o ≡ Some a → IsSized a.size
    go None g = absurd (none-some a g)
    go (Some i) g = access_sized hart.id place (annotations_of i) entry (access_of i hart.regs) a (sized i hart.regs) g
item_sized place hart (entry ∷ rest) (suc k) m a e f = item_sized (place + 1) (after hart entry) rest k m a e f

list_sized : (image : Initial) (harts id : ℕ) (lists : List (List Retired)) (k place : ℕ) (items : List Item) (m : Item) (a : Operation) → slice_get (items_of_harts image harts id lists) k ≡ Some items → slice_get items place ≡ Some m → m.operation ≡ Some a → IsSized a.size
list_sized image harts id [] k place items m a e f g = absurd (none-some items e)
list_sized image harts id (entries ∷ rest) zero place items m a e f g = item_sized 0 (at_reset image id harts) entries place m a (ap (λ (is : List Item). slice_get is place) (same_Some _ items e) ∙ f) g
list_sized image harts id (entries ∷ rest) (suc k) place items m a e f g = list_sized image harts (id + 1) rest k place items m a e f g

-- ---- by name

given_by : (t : History) (name : OpId) (a : Operation) → operation_at (instructions t) name ≡ Some a → IsGiven (items_of (instructions t) a.hart) a
given_by t name a e = go (slice_get (instructions t) name.hart) refl e
  where
    found : (items : List Item) → slice_get (instructions t) name.hart ≡ Some items → (o : Option Item) → slice_get items name.place ≡ o → option_and_then (λ (m : Item). m.operation) o ≡ Some a → IsGiven (items_of (instructions t) a.hart) a
    found items f None h g = absurd (none-some a g)
    found items f (Some m) h g =
        let bears = operation_at-bears t name a e in
        let size = list_sized t.image _ 0 t.entries name.hart name.place items m a f h g in
        let list : items_of (instructions t) a.hart ≡ items = ap (items_of (instructions t)) bears.hart_is ∙ get_or_from_slice_get (instructions t) name.hart items [] f in
        record {
          item = m;
          there = ap (λ (is : List Item). slice_get is a.place) list ∙ (ap (slice_get items) bears.place_is ∙ h);
          gives = g;
          has_bytes = size.0;
          small = size.1;
          of_lr = λ is. listed_lr t.image _ 0 t.entries name.hart name.place items m a f h g is;
        }

    go : (o : Option (List Item)) → slice_get (instructions t) name.hart ≡ o → option_and_then (λ (m : Item). m.operation) (option_and_then (λ (items : List Item). slice_get items name.place) o) ≡ Some a → IsGiven (items_of (instructions t) a.hart) a
    go None f g = absurd (none-some a g)
    go (Some items) f g = found items f (slice_get items name.place) refl g

pub given_each : (t : History) (names : List OpId) → GivesEach (instructions t) (operations_at (instructions t) names)
given_each t [] = tt
given_each t (name ∷ rest) = go (operation_at (instructions t) name) refl (given_each t rest)
  where
    go : (o : Option Operation) → operation_at (instructions t) name ≡ o → GivesEach (instructions t) (operations_at (instructions t) rest) → GivesEach (instructions t) (cons_option o (operations_at (instructions t) rest))
    go None e h = h
    go (Some a) e h = (given_by t name a e, h)

pub small_each : (harts : List (List Item)) (order : List Operation) → GivesEach harts order → AreSmall order
small_each harts order h = Each-weaker (λ (a : Operation). IsGiven (items_of harts a.hart) a) (λ (a : Operation). a.size ≤ 4) (λ a g. g.small) order h
