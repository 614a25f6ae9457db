use Rattle.std.proofs.Common.{◌++◌, drop}
use Rattle.std.specs.List.{flat_map}
use Rattle.text_fields.proofs.Pages.{Spelling}
use Rattle.run_waves.specs.Naming.{declaration}
use Rattle.run_waves.proofs.telling.put_declarations.Given as goal

abbrev pub invariant-loop-signal : goal.invariant-loop-signal
invariant-loop-signal g l =
    Spelling (g.W.Write.contents l.initial.out) (g.W.Write.contents l.out) l.page (flat_map (declaration l.group) (drop l.signal-index l.signals)) (l.initial.page ++ flat_map (declaration l.group) l.signals)
