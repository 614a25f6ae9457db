use Rattle.std.proofs.Common.{◌≡◌, ◌+◌, ◌≤◌, filter, length, suc, option_map}
use Rattle.std.specs.Option.{option_map_or}
use Rattle.log_text.specs.Meant.{foreign_in, is_foreign}
use Rattle.log_text.specs.Names.{lines_left}
use Rattle.log_text.proofs.meant.foreign_messages.Given as goal

abbrev pub invariant-loop-rest : goal.invariant-loop-rest
invariant-loop-rest l = record {
  answer : l.count + length (filter is_foreign (lines_left (option_map (λ rest. rest.now) l.rest))) ≡ foreign_in l.fn.text;
  few : l.count + option_map_or (λ rest. suc (length rest.now)) l.rest 0 ≤ suc (length l.fn.text);
}

abbrev pub decreases-loop-rest : goal.decreases-loop-rest
decreases-loop-rest l = option_map_or (λ rest. suc (length rest.now)) l.rest 0
