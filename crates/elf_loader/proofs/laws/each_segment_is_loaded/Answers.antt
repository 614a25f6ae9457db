use Rattle.elf_loader.proofs.Loaded.{loaded_byte-segment}
use Rattle.elf_loader.proofs.laws.each_segment_is_loaded.Goals as goal

pub returns : goal.returns
returns c = λ file size address segments i other inside apart h at. loaded_byte-segment file size address segments i other h inside apart at
