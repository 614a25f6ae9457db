use Rattle.std.proofs.Common.{◌≡◌, ◌+◌, ◌*◌, ◌++◌, length, take}
use Rattle.std.specs.List.{flat_map}
use Rattle.run_waves.specs.Signals.{byte_bits}
use Rattle.run_waves.proofs.telling.spell_bits.Given as goal

abbrev pub invariant-loop-byte : goal.invariant-loop-byte
invariant-loop-byte l = (l.page ≡ l.initial.page ++ flat_map byte_bits (take l.byte-index l.bytes)) × (length l.page ≡ length l.initial.page + 8 * l.byte-index)
