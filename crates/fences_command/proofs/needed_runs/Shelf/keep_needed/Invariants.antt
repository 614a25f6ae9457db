use Rattle.std.proofs.Common.{◌≡◌, ◌+◌, ◌≤◌, IfSome, length}
use Rattle.fences_command.proofs.Shown.{HasShown}
use Rattle.fences_command.specs.Witnesses.{IsNeededFile}
use Rattle.search_files.specs.Folders.{SparesOthers}
use Rattle.fences_command.proofs.needed_runs.Shelf.keep_needed.Given as goal

abbrev pub invariant-loop-rest : goal.invariant-loop-rest
invariant-loop-rest g l = record {
  shown : HasShown l.self.wanted l.self.folder.config l.self.folder.kib l.self.image.now l.self.file.now l.audit l.self.folder.name.now (g.F.Files.held l.files) l.number l.rest;
  few : l.number + length l.rest ≤ length l.audit.met.items;
  spared : SparesOthers (IsNeededFile l.self.folder.name.now) (g.F.Files.held l.initial.files) (g.F.Files.held l.files);
  written : IfSome l.self.wanted.write (λ w. g.F.Files.held l.files w.now ≡ g.F.Files.held l.initial.files w.now);
}

abbrev pub decreases-loop-rest : goal.decreases-loop-rest
decreases-loop-rest g l = length l.rest
