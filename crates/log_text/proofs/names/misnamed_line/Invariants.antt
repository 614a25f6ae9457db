use Rattle.std.proofs.Common.{◌≡◌, ◌+◌, ◌≤◌, length, suc, option_map}
use Rattle.std.specs.Option.{option_map_or}
use Rattle.log_text.specs.Names.{lines_left, misnamed_from, misnamed_in}
use Rattle.log_text.proofs.names.misnamed_line.Given as goal

abbrev pub invariant-loop-rest : goal.invariant-loop-rest
invariant-loop-rest l = record {
  answer : misnamed_from l.lines_before (lines_left (option_map (λ rest. rest.now) l.rest)) ≡ misnamed_in l.fn.text;
  few : l.lines_before + option_map_or (λ rest. suc (length rest.now)) l.rest 0 ≤ suc (length l.fn.text);
}

abbrev pub decreases-loop-rest : goal.decreases-loop-rest
decreases-loop-rest l = option_map_or (λ rest. suc (length rest.now)) l.rest 0
