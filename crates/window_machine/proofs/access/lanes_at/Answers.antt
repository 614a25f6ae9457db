use Rattle.std.proofs.Common.{ℕ, ◌-◌, ◌*◌, ◌^◌, sym, ap, ◌∙◌}
use Rattle.rv32_exec.specs.Width.{byte_count}
use Rattle.rv32_exec.specs.declared.actions.Width.{Width}
use Rattle.window_machine.proofs.Numbers.{moved_up}
use Rattle.window_machine.proofs.access.lanes_at.Goals as goal
use Rattle.window_machine.proofs.access.lanes_at.Goals.{in-Byte, in-Half, in-Word}

pub returns : goal.returns
returns c =
    elim c.match-size.branch [
      | in-Byte w ↦ moved_up c.args.size c.args.address c.match-size.bytes c.requires (w.bytes-is ∙ ap (λ (s : Width). 2 ^ (8 * byte_count s) - 1) (sym w.in-Byte.is))
      | in-Half w ↦ moved_up c.args.size c.args.address c.match-size.bytes c.requires (w.bytes-is ∙ ap (λ (s : Width). 2 ^ (8 * byte_count s) - 1) (sym w.in-Half.is))
      | in-Word w ↦ moved_up c.args.size c.args.address c.match-size.bytes c.requires (w.bytes-is ∙ ap (λ (s : Width). 2 ^ (8 * byte_count s) - 1) (sym w.in-Word.is))
    ]
