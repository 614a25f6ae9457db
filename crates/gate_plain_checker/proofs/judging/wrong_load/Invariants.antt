use Rattle.std.proofs.Common.{◌≡◌, length, not, find}
use Rattle.elf_loader.specs.Image.{byte_at}
use Rattle.memory_model.specs.Legal.{returns_sources}
use Rattle.gate_plain_checker.proofs.judging.wrong_load.Given as goal

abbrev pub invariant-loop-rest : goal.invariant-loop-rest
invariant-loop-rest l = find (λ a. not (returns_sources (byte_at l.image) l.order a)) l.order ≡ find (λ a. not (returns_sources (byte_at l.image) l.order a)) l.rest

abbrev pub decreases-loop-rest : goal.decreases-loop-rest
decreases-loop-rest l = length l.rest
