use Rattle.std.proofs.Common.{◌≡◌, ◌+◌, ◌≤◌, length, suc, option_map}
use Rattle.std.specs.Option.{option_map_or}
use Rattle.log_text.specs.Meant.{source_from, source_line}
use Rattle.log_text.specs.Names.{lines_left}
use Rattle.log_text.proofs.meant.source_line.Given as goal

abbrev pub invariant-loop-rest : goal.invariant-loop-rest
invariant-loop-rest l = record {
  answer : source_from l.skip l.begun l.text l.before l.left (lines_left (option_map (λ rest. rest.now) l.rest)) ≡ source_line l.skip l.text l.number;
  few : l.before + option_map_or (λ rest. suc (length rest.now)) l.rest 0 ≤ suc (length l.fn.text);
}

abbrev pub decreases-loop-rest : goal.decreases-loop-rest
decreases-loop-rest l = option_map_or (λ rest. suc (length rest.now)) l.rest 0
