use Rattle.std.proofs.Common.{◌≡◌, ◌+◌, ◌<◌, ℕ}
use Rattle.fences_command.specs.Witnesses.{AreSpare}
use Rattle.fences_command.proofs.needed_runs.spare_each.Given as goal

-- nothing was written, and the files of the numbers so far are spared
abbrev pub invariant-loop-index : goal.invariant-loop-index
invariant-loop-index g l = record {
  stays : g.F.Files.held l.files ≡ g.F.Files.held l.initial.files;
  spare : (i : ℕ) → i < l.index → AreSpare l.wanted l.folder.name.now (i + 1);
}
