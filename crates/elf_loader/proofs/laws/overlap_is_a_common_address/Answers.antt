use Rattle.elf_loader.proofs.Overlap.{common-from_overlap, overlap-from_common}
use Rattle.elf_loader.proofs.laws.overlap_is_a_common_address.Goals as goal

pub returns : goal.returns
returns c = λ one other. (common-from_overlap one other, λ common. overlap-from_common one other common.0 common.1 common.2)
