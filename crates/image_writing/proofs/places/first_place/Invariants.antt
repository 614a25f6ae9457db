use Rattle.std.proofs.Common.{◌≡◌, ◌-◌, ◌≤◌}
use Rattle.elf_loader.specs.Elf.{e_phnum, e_phoff}
use Rattle.image_writing.specs.Places.{place_from}
use Rattle.image_writing.proofs.places.first_place.Given as goal

abbrev pub invariant-loop-entry : goal.invariant-loop-entry
invariant-loop-entry l = record {
  same : place_from l.file l.address l.entry (l.count - l.entry) ≡ place_from l.file l.address 0 (e_phnum l.file);
  within : l.entry ≤ l.count;
  count : l.count ≡ e_phnum l.file;
  table : l.table ≡ e_phoff l.file;
}

abbrev pub decreases-loop-entry : goal.decreases-loop-entry
decreases-loop-entry l = l.count - l.entry
