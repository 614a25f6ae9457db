use Rattle.std.proofs.Common.{◌≡◌, ◌+◌, ◌≤◌, length, map, ap, ◌∙◌, arith}
use Rattle.std.proofs.lemmas.List.FromFn.{length-map-range_with_len}
use Rattle.elf_loader.specs.Load.{loaded_byte}
use Rattle.elf_loader.specs.Size.{IsMemorySize, base}
use Rattle.elf_loader.proofs.Faults.{entry_above, entry_below}
use Rattle.elf_loader.proofs.loader.load.Goals as goal

pub new-requires-clause-size : goal.new-requires-clause-size
new-requires-clause-size c = rw (c.in_ok-bytes.ensures, length-map-range_with_len) c.requires

pub new-requires-clause-inside : goal.new-requires-clause-inside
new-requires-clause-inside c =
    let good = c.in_ok-entry.ensures.good_entry in
    rw (c.in_ok-bytes.ensures, length-map-range_with_len) (entry_above _ _ good, entry_below _ _ good)
