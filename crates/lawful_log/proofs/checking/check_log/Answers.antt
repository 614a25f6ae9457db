use Rattle.std.proofs.Common.{take}
use Rattle.lawful_log.proofs.Behind.{none_lawful}
use Rattle.lawful_log.proofs.Passing.{breach_decides, first_breach, passes}
use Rattle.lawful_log.proofs.checking.check_log.Goals as goal

pub loop-index-init : goal.loop-index-init
loop-index-init c = (c.new-followed.ensures, none_lawful c.args.profile)

pub returns-in-Some-clause-unlawful : goal.returns-in-Some-clause-unlawful
returns-in-Some-clause-unlawful c = first_breach c.args.profile c.args.log.now c.loop-index.index _ c.loop-index-test.true c.in-Some.rule c.broken.result
    c.loop-index.invariant.1 c.in-Some.is (c.broken.ensures (take c.loop-index.index c.args.log.now) c.loop-index.invariant.0)

pub returns-in-Some-clause-lawful : goal.returns-in-Some-clause-lawful
returns-in-Some-clause-lawful c = breach_decides c.args.profile c.args.log.now c.in-Some.rule c.loop-index.index (first_breach c.args.profile c.args.log.now c.loop-index.index _ c.loop-index-test.true c.in-Some.rule c.broken.result
    c.loop-index.invariant.1 c.in-Some.is (c.broken.ensures (take c.loop-index.index c.args.log.now) c.loop-index.invariant.0))

pub loop-index-preserved : goal.loop-index-preserved
loop-index-preserved c = passes c.args.profile c.args.log.now c.loop-index.index _ c.loop-index-test.true c.broken.result c.note.new.self
    c.loop-index.invariant.1 c.in-None.is (c.broken.ensures (take c.loop-index.index c.args.log.now) c.loop-index.invariant.0)
    (c.in_ok-note-in-None.ensures (take c.loop-index.index c.args.log.now) c.loop-index.invariant.0)
