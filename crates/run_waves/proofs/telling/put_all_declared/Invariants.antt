use Rattle.std.proofs.Common.{◌++◌, drop}
use Rattle.std.specs.List.{flat_map}
use Rattle.text_fields.proofs.Pages.{Spelling}
use Rattle.run_waves.specs.Naming.{declared}
use Rattle.run_waves.proofs.telling.put_all_declared.Given as goal

abbrev pub invariant-loop-group : goal.invariant-loop-group
invariant-loop-group g l =
    Spelling (g.W.Write.contents l.initial.out) (g.W.Write.contents l.out) l.page (flat_map (declared) (drop l.group-index l.groups)) (l.initial.page ++ flat_map (declared) l.groups)
