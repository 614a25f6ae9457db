use Rattle.std.proofs.Common.{◌≡◌, ◌≤◌}
use Rattle.elf_symbols.specs.Short.{whole_characters}
use Rattle.elf_symbols.proofs.symbol.whole_characters.Given as goal

-- the characters behind are none that begin there
abbrev pub invariant-loop-count : goal.invariant-loop-count
invariant-loop-count l = record {
  same : whole_characters l.name l.count ≡ whole_characters l.name l.most;
  few : l.count ≤ l.most;
}

abbrev pub decreases-loop-count : goal.decreases-loop-count
decreases-loop-count l = l.count
