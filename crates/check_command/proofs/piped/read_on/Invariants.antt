use Rattle.std.proofs.Common.{◌≡◌}
use Rattle.std.specs.Io.KnownBytes.{Consumes}
use Rattle.check_command.specs.Watching.{HaveJudged}
use Rattle.check_command.proofs.piped.read_on.Given as goal

-- what came so far was read, and messages of it were judged
abbrev pub invariant-loop : goal.invariant-loop
invariant-loop g l = record {
  taken : Consumes (g.F.Files.held l.fn.files l.file) (g.F.Reader.Read.remaining l.reader) l.bytes.items;
  judged : HaveJudged l.watch;
  spared : g.F.Files.held l.files ≡ g.F.Files.held l.fn.files;
}
