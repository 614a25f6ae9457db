use Rattle.std.proofs.Common.{◌∙◌, ◌/◌, ◌%◌, ◌&&◌, Bool, ap, arith, cond, sym, true}
use Rattle.std.specs.Prelude.{◌==◌, is_some}
use Rattle.std.proofs.lemmas.Bool.{ne_eqb}
use Rattle.rv32_decode.specs.Decoding.{amo_of}
use Rattle.memory_model.specs.Items.{succeeded}
use Rattle.trace_operations.proofs.Opcodes.{atomic_told}
use Rattle.trace_operations.proofs.items.is_atomic.Goals as goal

pub returns-else-funct3-eq2 : goal.returns-else-funct3-eq2
returns-else-funct3-eq2 c =
    let e = c.args.entry.now in
    let known = cond ((e.word / 134217728 % 32 == 2) && (e.word / 1048576 % 32 == 0)) true (cond (e.word / 134217728 % 32 == 3) (succeeded e.sc_ok) (is_some (amo_of (e.word / 134217728 % 32)))) in
    let other = ne_eqb (e.word / 4096 % 8) 2 (λ is. first_of (omega arith, grind arith)) in
    other ∙ sym (atomic_told e c.requires ∙ ap (λ (b : Bool). b && known) other)
