use Rattle.std.proofs.Common.{◌≡◌, ◌++◌, ap, ◌∙◌, unwrap_or}
use Rattle.std.specs.Option.{option_or}
use Rattle.rv32_exec.specs.Uses.{named}
use Rattle.window_machine.proofs.Uses.{Found, address_number, source_numbers, stored_number, written_number}
use Rattle.window_machine.proofs.registers.registers_of.Goals as goal

pub returns : goal.returns
returns c =
    let i = c.args.instr.now in
    let a = c.address_register.result in
    let s = c.stored_register.result in
    let o = c.other_registers-one.result.0 in
    let p = c.other_registers-one.result.1 in
    let found : Found i a s o p = record { address_is = c.address_register.ensures; stored_is = c.stored_register.ensures; other_is = c.other_registers-one.ensures } in
    let first : c.number.result ≡ unwrap_or (option_or a o) 0 = c.number.ensures.value ∙ ap (λ q. unwrap_or q 0) c.or.ensures in
    let second : c.number-2.result ≡ unwrap_or (option_or s p) 0 = c.number-2.ensures.value ∙ ap (λ q. unwrap_or q 0) c.or-2.ensures in
    record {
      sources = ap (λ q. named q ++ named c.number-2.result) first ∙ (ap (λ q. named (unwrap_or (option_or a o) 0) ++ named q) second ∙ source_numbers i a s o p found);
      address = λ e. ap named first ∙ address_number i a s o p found e;
      stored = λ e. ap named second ∙ stored_number i a s o p found e;
      written = ap named c.number-3.ensures.value ∙ written_number i c.destination.result c.destination.ensures;
      below = c.number-3.ensures.below;
    }
