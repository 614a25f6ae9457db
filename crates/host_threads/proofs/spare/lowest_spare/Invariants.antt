use Rattle.std.proofs.Common.{◌+◌, ◌-◌}
use Rattle.client_cache.specs.Shape.{set_of}
use Rattle.elf_loader.specs.Size.{base}
use Rattle.host_threads.proofs.Sets.{Walks}
use Rattle.host_threads.proofs.spare.lowest_spare.Given as goal
use Rattle.machine_model.specs.Views.{shape_of_config}

abbrev pub invariant-loop-line : goal.invariant-loop-line
invariant-loop-line l = Walks l.config l.cache (set_of (shape_of_config l.config) l.fn.address) l.line

abbrev pub decreases-loop-line : goal.decreases-loop-line
decreases-loop-line l = base + l.size - l.line
