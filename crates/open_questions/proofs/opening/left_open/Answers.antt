use Rattle.std.proofs.Common.{◌-◌, arith, drop}
use Rattle.open_questions.proofs.Opened.{has_room, passed_more}
use Rattle.open_questions.specs.Open.{open_from}
use Rattle.open_questions.proofs.opening.left_open.Goals as goal

pub found_with-found-requires : goal.found_with-found-requires
found_with-found-requires c = has_room c.loop-index.answers c.loop-index.found c.args.log.now c.loop-index.index c.loop-index-test.true c.loop-index.invariant.1 c.loop-index.invariant.0

pub loop-index-preserved : goal.loop-index-preserved
loop-index-preserved c = (
  passed_more c.args.log.now (c.loop-index.index - 1) _ (omega (arith, c.loop-index.invariant.0.within, c.loop-index-test.true)) c.loop-index.index c.note.new.self c.leave_open-is_open.result c.found_with-found.result
      (omega (arith, c.loop-index-test.true))
      (c.in_ok-note.ensures (drop c.loop-index.index c.args.log.now) c.loop-index.invariant.0.follows)
      (c.leave_open-is_open.ensures (drop c.loop-index.index c.args.log.now) c.loop-index.invariant.0.follows)
      (c.found_with-found.ensures (open_from c.loop-index.index (drop c.loop-index.index c.args.log.now)) c.loop-index.invariant.0.leaves),
  c.loop-index.invariant.1,
)
