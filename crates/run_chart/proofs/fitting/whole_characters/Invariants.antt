use Rattle.std.proofs.Common.{◌≡◌, ◌≤◌}
use Rattle.elf_symbols.specs.Short.{whole_characters}
use Rattle.run_chart.proofs.fitting.whole_characters.Given as goal

-- the characters behind are none that begin there
abbrev pub invariant-loop-count : goal.invariant-loop-count
invariant-loop-count l = record {
  same : whole_characters l.text l.count ≡ whole_characters l.text l.most;
  few : l.count ≤ l.most;
}

abbrev pub decreases-loop-count : goal.decreases-loop-count
decreases-loop-count l = l.count
