use Rattle.std.proofs.Common.{◌≡◌, ◌∙◌, ◌/◌, ◌%◌, ◌&&◌, Bool, ap, arith, not, sym}
use Rattle.std.specs.Prelude.{◌==◌}
use Rattle.std.proofs.lemmas.Bool.{le-ltb, lt-ltb}
use Rattle.std.proofs.lemmas.Bool.Decides.{nat_tests}
use Rattle.memory_model.specs.Items.{has_operation}
use Rattle.trace_operations.proofs.Opcodes.{load_told}
use Rattle.trace_operations.proofs.items.is_load.Goals as goal

pub returns-then-funct3-lt6 : goal.returns-then-funct3-lt6
returns-then-funct3-lt6 c =
    let f = c.args.entry.now.word / 4096 % 8 in
    let told : has_operation c.args.entry.now ≡ not (f == 3) = load_told c.args.entry.now c.requires ∙ ap (λ (b : Bool). b && not (f == 3)) (lt-ltb f 6 (omega arith)) in
    first_of (cc told, grind (arith, nat_tests, told))

pub returns-else-funct3-lt6 : goal.returns-else-funct3-lt6
returns-else-funct3-lt6 c =
    let f = c.args.entry.now.word / 4096 % 8 in
    let high = le-ltb f 6 (omega arith) in
    high ∙ sym (load_told c.args.entry.now c.requires ∙ ap (λ (b : Bool). b && not (f == 3)) high)
