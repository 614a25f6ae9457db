use Rattle.std.proofs.Common.{arith, ◌∙◌}
use Rattle.lawful_log.proofs.Tallied.{another_hart, another_line, counts_here, have_room_so_far}
use Rattle.lawful_log.proofs.awaited.tallies_for.Goals as goal
use Rattle.lawful_log.proofs.awaited.tallies_for.Goals.{then-entry-hart+then-entry-line, else-entry-hart, else-entry-hart-via-then-entry-hart+else-entry-line, else-entry-hart-via-else-entry-hart}

pub count-requires : goal.count-requires
count-requires c = have_room_so_far c.args.hart c.args.line c.args.log.now c.loop-entry.entry-index c.loop-entry.tallies c.loop-entry.invariant (omega arith)

pub loop-entry-preserved : goal.loop-entry-preserved
loop-entry-preserved c = elim c.if-entry-hart.branch [
  | then-entry-hart+then-entry-line w ↦ counts_here c.args.hart c.args.line c.args.log.now c.loop-entry.entry-index _ c.loop-entry.tallies c.if-entry-hart.tallies c.loop-entry-test.true c.loop-entry.invariant w.if-entry-hart.true w.if-entry-line.true (w.tallies-is ∙ w.count.ensures)
  | else-entry-hart w ↦ elim w.else-entry-hart.branch [
    | else-entry-hart-via-then-entry-hart+else-entry-line w' ↦ another_line c.args.hart c.args.line c.args.log.now c.loop-entry.entry-index _ c.loop-entry.tallies c.if-entry-hart.tallies c.loop-entry-test.true c.loop-entry.invariant w'.if-entry-hart.true w'.if-entry-line.false w.tallies-is
    | else-entry-hart-via-else-entry-hart w' ↦ another_hart c.args.hart c.args.line c.args.log.now c.loop-entry.entry-index _ c.loop-entry.tallies c.if-entry-hart.tallies c.loop-entry-test.true c.loop-entry.invariant w'.if-entry-hart.false w.tallies-is
  ]
]
