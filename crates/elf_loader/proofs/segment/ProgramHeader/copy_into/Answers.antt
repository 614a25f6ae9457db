use Rattle.std.proofs.Common.{◌≡◌, ◌+◌, ◌-◌, length, refl, arith}
use Rattle.elf_loader.proofs.Placing.{lies_inside, pasted-segment}
use Rattle.elf_loader.proofs.segment.ProgramHeader.copy_into.Goals as goal

pub returns : goal.returns
returns c = λ k.
    let s = c.args.self.now in
    pasted-segment c.args.file.now c.args.memory.now c.copy_from_slice.new.self s _ _ _ k
    (lies_inside _ _ s c.requires) refl (omega arith) (omega arith) c.copy_from_slice.ensures.after
