use Rattle.std.proofs.Common.{◌≡◌, ap, sym, ◌∙◌}
use Rattle.std.proofs.lemmas.List.{map-set}
use Rattle.backing_memory.specs.Lines.{lines_in}
use Rattle.backing_memory.proofs.Lines.{short-is_not-long, long-is_not-short}
use Rattle.backing_memory.proofs.memory.Memory.set_line.Goals as goal
use Rattle.backing_memory.proofs.memory.Memory.set_line.Goals.{in-Bytes16+in-Bytes16-line, in-Bytes64+in-Bytes64-line}
use Rattle.tl_types.specs.declared.line.LineData.TheVariants as data_of

pub unreachable-requires : goal.unreachable-requires
unreachable-requires c =
    short-is_not-long c.args.self.now c.in-Bytes16.lines.items c.args.i c.args.line c.in_default.field-0
    (sym c.self.view_is ∙ ap lines_in c.in-Bytes16.is) c.requires.inside c.requires.fits c.in_default.is

pub unreachable-requires-in_default-line : goal.unreachable-requires-in_default-line
unreachable-requires-in_default-line c =
    long-is_not-short c.args.self.now c.in-Bytes64.lines.items c.args.i c.args.line c.in_default-line.field-0
    (sym c.self.view_is ∙ ap lines_in c.in-Bytes64.is) c.requires.inside c.requires.fits c.in_default-line.is

pub returns : goal.returns
returns c =
    elim c.match-self.branch [
      | in-Bytes16+in-Bytes16-line w ↦
          rw (w.self-inside-is, ← c.self.view_is, w.in-Bytes16.is, w.in-Bytes16-line.is)
          (map-set data_of.Bytes16 w.in-Bytes16.lines.items c.args.i w.in-Bytes16-line.bytes)
      | in-Bytes64+in-Bytes64-line w ↦
          rw (w.self-inside-is, ← c.self.view_is, w.in-Bytes64.is, w.in-Bytes64-line.is)
          (map-set data_of.Bytes64 w.in-Bytes64.lines.items c.args.i w.in-Bytes64-line.bytes)
    ]
