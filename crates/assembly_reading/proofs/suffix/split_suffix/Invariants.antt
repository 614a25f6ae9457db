use Rattle.std.proofs.Common.{◌≡◌, ◌++◌, take, drop}
use Rattle.assembly_reading.specs.Suffixes.{base, suffix}
use Rattle.assembly_reading.proofs.suffix.split_suffix.Given as goal

abbrev pub invariant-loop-length : goal.invariant-loop-length
invariant-loop-length l = (base l.word ≡ take l.length l.word ++ base (drop l.length l.word)) × (suffix l.word ≡ suffix (drop l.length l.word))
