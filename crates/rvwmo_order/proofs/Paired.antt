-- The operation of an instruction is an LR only where the instruction is one.
use Rattle.std.proofs.Common.{◌≡◌, ℕ, zero, suc, ◌+◌, List, [], ◌∷◌, true, false, Option, Some, None, refl, sym, ap, ◌∙◌}
use Rattle.std.specs.Prelude.{slice_get}
use Rattle.std.proofs.lemmas.Bool.{true≢false}
use Rattle.std.proofs.lemmas.Option.{none-some, same_Some}
use Rattle.rv32_decode.specs.Rows.{decoded}
use Rattle.rv32_decode.specs.declared.instruction.Instr.{Instr}
use Rattle.rv32_decode.specs.declared.instruction.Instr.TheVariants as instr
use Rattle.rv32_decode.specs.declared.instruction.SystemOp.TheVariants.{Ecall, Ebreak}
use Rattle.elf_loader.specs.Image.{Initial}
use Rattle.hart.specs.declared.retired.Retired.{Retired}
use Rattle.hart.specs.declared.state.Hart.{Hart}
use Rattle.hart.specs.Run.{after, at_reset}
use Rattle.memory_model.specs.declared.operation.Operation.{Operation}
use Rattle.memory_model.specs.Items.{Item, items_from, items_of_harts, operation_of_entry}
use Rattle.memory_model.specs.Operations.{is_lr}
use Rattle.memory_model.specs.Rules.{is_lr_or_sc}

other_kind : (r a : Operation) → Some r ≡ Some a → is_lr r.kind ≡ false → is_lr a.kind ≡ true → ⊥
other_kind r a e other is = true≢false (sym is ∙ (ap (λ (s : Operation). is_lr s.kind) (sym (same_Some r a e)) ∙ other))

lr_of : (place : ℕ) (hart : Hart) (entry : Retired) (i : Instr) (a : Operation) → operation_of_entry place hart entry (Some i) ≡ Some a → is_lr a.kind ≡ true → is_lr_or_sc (Some i) ≡ true
lr_of place hart entry (instr.Lr rd rs1 bits) a e is = refl
lr_of place hart entry (instr.Sc rd rs1 rs2 bits) a e is = refl
lr_of place hart entry (instr.Load op rd rs1 offset) a e is = absurd (other_kind _ a e refl is)
lr_of place hart entry (instr.Store op rs1 rs2 offset) a e is = absurd (other_kind _ a e refl is)
lr_of place hart entry (instr.Amo op rd rs1 rs2 bits) a e is = absurd (other_kind _ a e refl is)
lr_of place hart entry (instr.System Ecall) a e is = absurd (none-some a e)
lr_of place hart entry (instr.System Ebreak) a e is = absurd (none-some a e)
lr_of place hart entry (instr.Upper op rd imm) a e is = absurd (none-some a e)
lr_of place hart entry (instr.Jal rd offset) a e is = absurd (none-some a e)
lr_of place hart entry (instr.Jalr rd rs1 offset) a e is = absurd (none-some a e)
lr_of place hart entry (instr.Branch op rs1 rs2 offset) a e is = absurd (none-some a e)
lr_of place hart entry (instr.Immediate op rd rs1 imm) a e is = absurd (none-some a e)
lr_of place hart entry (instr.Shift op rd rs1 amount) a e is = absurd (none-some a e)
lr_of place hart entry (instr.Register op rd rs1 rs2) a e is = absurd (none-some a e)
lr_of place hart entry (instr.Fence sets) a e is = absurd (none-some a e)
lr_of place hart entry instr.FenceTso a e is = absurd (none-some a e)

item_lr : (place : ℕ) (hart : Hart) (entries : List Retired) (k : ℕ) (m : Item) (a : Operation) → slice_get (items_from place hart entries) k ≡ Some m → m.operation ≡ Some a → is_lr a.kind ≡ true → is_lr_or_sc m.instr ≡ true
item_lr place hart [] k m a e f is = absurd (none-some m e)
item_lr place hart (entry ∷ rest) zero m a e f is =
    let item = same_Some _ m e in
    ap (λ (i : Item). is_lr_or_sc i.instr) (sym item) ∙ go (decoded entry.word) (ap (λ (i : Item). i.operation) item ∙ f)
  where
    go : (o : Option Instr) → operation_of_entry place hart entry o ≡ Some a → is_lr_or_sc o ≡ true
    go None g = absurd (none-some a g)
    go (Some i) g = lr_of place hart entry i a g is
item_lr place hart (entry ∷ rest) (suc k) m a e f is = item_lr (place + 1) (after hart entry) rest k m a e f is

pub listed_lr : (image : Initial) (harts id : ℕ) (lists : List (List Retired)) (k place : ℕ) (items : List Item) (m : Item) (a : Operation) → slice_get (items_of_harts image harts id lists) k ≡ Some items → slice_get items place ≡ Some m → m.operation ≡ Some a → is_lr a.kind ≡ true → is_lr_or_sc m.instr ≡ true
listed_lr image harts id [] k place items m a e f g is = absurd (none-some items e)
listed_lr image harts id (entries ∷ rest) zero place items m a e f g is = item_lr 0 (at_reset image id harts) entries place m a (ap (λ (is : List Item). slice_get is place) (same_Some _ items e) ∙ f) g is
listed_lr image harts id (entries ∷ rest) (suc k) place items m a e f g is = listed_lr image harts (id + 1) rest k place items m a e f g is
