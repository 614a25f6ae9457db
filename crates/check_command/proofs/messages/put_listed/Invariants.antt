use Rattle.std.proofs.Common.{ℕ, List, take}
use Rattle.std.specs.Prelude.{IsTrue}
use Rattle.std.specs.Io.KnownBytes.{Appends}
use Rattle.check_command.specs.Breaches.{AreBreachLines, IsBreachLine}
use Rattle.command_files.specs.Messages.{is_plain}
use Rattle.check_command.proofs.messages.put_listed.Given as goal

abbrev pub invariant-loop-broken : goal.invariant-loop-broken
invariant-loop-broken g l = IsTrue (is_plain l.log.file.now) → (bytes : List ℕ)
    × AreBreachLines (IsBreachLine l.log.profile l.log.log.now l.text l.log.file.now) (take l.broken-index l.listed) bytes
    × Appends (g.E.Write.contents l.initial.err) (g.E.Write.contents l.err) bytes
