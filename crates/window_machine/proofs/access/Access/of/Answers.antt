use Rattle.std.proofs.Common.{◌≡◌, ℕ, ◌%◌, true, sym, ap, ◌∙◌}
use Rattle.std.proofs.lemmas.Bool.{and_parts}
use Rattle.memory_model.specs.declared.operation.Kind.TheVariants as kind
use Rattle.rv32_exec.specs.Width.{byte_count}
use Rattle.rv32_exec.specs.declared.actions.Action.{Action}
use Rattle.window_machine.specs.Acting.{is_of, is_placed}
use Rattle.window_machine.specs.Lanes.{are_placed}
use Rattle.window_machine.proofs.Numbers.{lies, sized}
use Rattle.window_machine.proofs.access.Access.of.Goals as goal

pub new-requires-clause-whole : goal.new-requires-clause-whole
new-requires-clause-whole c =
    let size = byte_count c.in-Load.size in
    let placed : (is_of c.args.next.now.instr kind.Load ≡ true) × (are_placed c.in-Load.addr size ≡ true) = and_parts _ _ (sym (ap (is_placed c.args.next.now.instr) c.in-Load.is) ∙ c.args.next.now.placed) in
    (sized c.in-Load.size c.in-Load.addr (lies c.in-Load.addr size placed.1).aligned).are

pub new-requires-in-Store-clause-whole : goal.new-requires-in-Store-clause-whole
new-requires-in-Store-clause-whole c =
    let size = byte_count c.in-Store.size in
    let placed : (is_of c.args.next.now.instr kind.Store ≡ true) × (are_placed c.in-Store.addr size ≡ true) = and_parts _ _ (sym (ap (is_placed c.args.next.now.instr) c.in-Store.is) ∙ c.args.next.now.placed) in
    (sized c.in-Store.size c.in-Store.addr (lies c.in-Store.addr size placed.1).aligned).are
