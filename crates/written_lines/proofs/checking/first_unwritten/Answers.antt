use Rattle.std.proofs.Common.{refl, take}
use Rattle.written_lines.proofs.Passed.{all_passed, found_here, passes}
use Rattle.written_lines.proofs.checking.first_unwritten.Goals as goal

pub loop-index-init : goal.loop-index-init
loop-index-init c = (c.new-granted.ensures, refl)

pub returns-in-Some : goal.returns-in-Some
returns-in-Some c = found_here c.args.performed.now c.args.log.now c.loop-index.granted c.loop-index.index _ c.loop-index-test.true c.loop-index.invariant c.other_byte_of.result c.in-Some.address
    (c.other_byte_of.ensures c.args.performed.now c.in_ok-stores.ensures) c.in-Some.is

pub loop-index-preserved : goal.loop-index-preserved
loop-index-preserved c = passes c.args.performed.now c.args.log.now c.loop-index.granted c.loop-index.index _ c.loop-index-test.true c.loop-index.invariant c.other_byte_of.result c.note.new.self
    (c.other_byte_of.ensures c.args.performed.now c.in_ok-stores.ensures) c.in-None.is
    (c.in_ok-note-in-None.ensures (take c.loop-index.index c.args.log.now) c.loop-index.invariant.0)
