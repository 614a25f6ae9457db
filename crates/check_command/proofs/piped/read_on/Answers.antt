use Rattle.std.proofs.Common.{ℕ, List, refl, subst, sym, ◌∙◌}
use Rattle.std.specs.Io.KnownBytes.{Consumes}
use Rattle.check_command.proofs.Logs.{broken_held}
use Rattle.check_command.proofs.Piping.{all_come, broken_found, handed_on, none_read, read_is_text}
use Rattle.check_command.proofs.piped.read_on.Goals as goal

pub loop-init : goal.loop-init
loop-init g c = record {
  taken = subst (λ (b : List ℕ). Consumes (g.F.Files.held c.args.files.now c.args.file.now) (g.F.Reader.Read.remaining c.args.reader) b) (sym c.new-bytes.ensures.items)
      (none_read (g.F.Files.held c.args.files.now c.args.file.now) (g.F.Reader.Read.remaining c.args.reader) c.requires.unread);
  judged = c.new-watch.ensures;
  spared = refl;
}

pub returns-in-Ok-false-clause-read : goal.returns-in-Ok-false-clause-read
returns-in-Ok-false-clause-read g c = all_come (g.F.Files.held c.args.files.now c.args.file.now) (g.F.Reader.Read.remaining c.read_more.new.reader) c.read_more.new.bytes.items
    (c.in-Ok-false.ensures.read (g.F.Files.held c.args.files.now c.args.file.now) c.loop.invariant.taken) (c.in-Ok-false.ensures.end c.in-Ok-false.field-0-test)

pub returns-in-Err-clause-fault : goal.returns-in-Err-clause-fault
returns-in-Err-clause-fault g c = read_is_text (g.F.Files.held c.args.files.now) c.args.file c.unread.result c.unread.ensures.fault

pub too_long-requires : goal.too_long-requires
too_long-requires g c = (
  g.F.Reader.Read.remaining c.read_more.new.reader,
  handed_on (g.F.Files.held c.args.files.now) (g.F.Files.held c.loop.files) c.args.file.now (g.F.Reader.Read.remaining c.read_more.new.reader) c.read_more.new.bytes.items c.deref.result.now
      c.loop.invariant.spared c.deref.ensures.value (c.in-Ok-true.ensures.read (g.F.Files.held c.args.files.now c.args.file.now) c.loop.invariant.taken),
)

pub returns-in-Ok-Some-clause-read : goal.returns-in-Ok-Some-clause-read
returns-in-Ok-Some-clause-read g c = broken_held (g.F.Files.held c.args.files.now) c.args.file.now c.args.check (g.F.Reader.Read.remaining c.read_more.new.reader) c.read_more.new.bytes.items c.in-Ok-Some.log
    c.requires.input c.requires.first (c.in-Ok-true.ensures.read (g.F.Files.held c.args.files.now c.args.file.now) c.loop.invariant.taken)
    (broken_found c.read_more.new.bytes.items c.deref-in-loop.result.now c.args.check c.in-Ok-Some.field-0 c.in-Ok-Some.log c.deref-in-loop.ensures.value c.in-Ok-Some.field-0-is c.in-Ok-Some.ensures.broken)

pub loop-preserved : goal.loop-preserved
loop-preserved g c = record {
  taken = c.in-Ok-true.ensures.read (g.F.Files.held c.args.files.now c.args.file.now) c.loop.invariant.taken;
  judged = c.in-Ok-None.ensures.judged;
  spared = c.too_long.ensures.spared ∙ c.loop.invariant.spared;
}
