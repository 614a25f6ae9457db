use Rattle.std.proofs.Common.{◌≡◌, drop, not, find}
use Rattle.elf_loader.specs.Image.{byte_at}
use Rattle.memory_model.specs.Legal.{returns_sources}
use Rattle.rvwmo_order.proofs.judging.wrong_load.Given as goal

abbrev pub invariant-loop-a : goal.invariant-loop-a
invariant-loop-a l = find (λ a. not (returns_sources (byte_at l.image) l.ranking a)) l.ranking ≡ find (λ a. not (returns_sources (byte_at l.image) l.ranking a)) (drop l.a-index l.ranking)
