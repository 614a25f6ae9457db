use Rattle.std.proofs.Common.{take}
use Rattle.std.specs.Io.KnownBytes.{Appends}
use Rattle.std.specs.List.{flat_map}
use Rattle.log_text.specs.Verdicts.{broken_text}
use Rattle.log_text.proofs.verdict.put_each.Given as goal

abbrev pub invariant-loop-broken : goal.invariant-loop-broken
invariant-loop-broken g l = Appends (g.W.Write.contents l.initial.out) (g.W.Write.contents l.out) (flat_map broken_text (take l.broken-index l.listed))
