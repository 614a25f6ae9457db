use Rattle.std.proofs.Common.{◌≡◌, length, suc, option_map}
use Rattle.std.specs.Option.{option_map_or}
use Rattle.log_text.specs.Meant.{memory_of}
use Rattle.log_text.specs.Names.{lines_left, lines_of}
use Rattle.log_text.proofs.meant.memory_of.Given as goal

abbrev pub invariant-loop-rest : goal.invariant-loop-rest
invariant-loop-rest l = memory_of l.address (lines_left (option_map (λ rest. rest.now) l.rest)) ≡ memory_of l.address (lines_of l.text)

abbrev pub decreases-loop-rest : goal.decreases-loop-rest
decreases-loop-rest l = option_map_or (λ rest. suc (length rest.now)) l.rest 0
