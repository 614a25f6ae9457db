use Rattle.std.proofs.Common.{◌++◌, drop}
use Rattle.std.specs.List.{flat_map}
use Rattle.text_fields.proofs.Pages.{Spelling}
use Rattle.run_waves.specs.Telling.{changes_since}
use Rattle.run_waves.proofs.telling.put_all_changes.Given as goal

abbrev pub invariant-loop-part : goal.invariant-loop-part
invariant-loop-part g l =
    Spelling (g.W.Write.contents l.initial.out) (g.W.Write.contents l.out) l.page (flat_map (changes_since l.machine) (drop l.part-index l.seen)) (l.initial.page ++ flat_map (changes_since l.machine) l.seen)
