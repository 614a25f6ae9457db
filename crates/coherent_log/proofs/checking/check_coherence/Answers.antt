use Rattle.std.proofs.Common.{sym, take, arith}
use Rattle.std.specs.Option.{option_copied}
use Rattle.std.proofs.lemmas.List.{length-take-le}
use Rattle.coherent_log.proofs.Entries.{none_coherent}
use Rattle.coherent_log.proofs.Passing.{breach_decides, first_breach, passes}
use Rattle.coherent_log.proofs.checking.check_coherence.Goals as goal

pub loop-index-init : goal.loop-index-init
loop-index-init c = (c.new-followed.ensures, none_coherent (option_copied c.args.image))

pub returns-in-Some-clause-incoherent : goal.returns-in-Some-clause-incoherent
returns-in-Some-clause-incoherent c = first_breach (option_copied c.args.image) c.args.log.now c.loop-index.index _ c.loop-index-test.true c.in-Some.breach c.broken.result
    c.loop-index.invariant.1 c.in-Some.is (c.broken.ensures (take c.loop-index.index c.args.log.now) c.loop-index.invariant.0)

pub returns-in-Some-clause-coherent : goal.returns-in-Some-clause-coherent
returns-in-Some-clause-coherent c = breach_decides (option_copied c.args.image) c.args.log.now c.loop-index.index _ c.loop-index-test.true c.in-Some.breach c.broken.result
    c.in-Some.is (c.broken.ensures (take c.loop-index.index c.args.log.now) c.loop-index.invariant.0)

pub loop-index-preserved : goal.loop-index-preserved
loop-index-preserved c = passes (option_copied c.args.image) c.args.log.now c.loop-index.index _ c.loop-index-test.true c.broken.result c.note.new.self
    c.loop-index.invariant.1 c.in-None.is (c.broken.ensures (take c.loop-index.index c.args.log.now) c.loop-index.invariant.0)
    (c.in_ok-note-in-None.ensures (take c.loop-index.index c.args.log.now) c.loop-index.invariant.0 (sym (length-take-le c.loop-index.index c.args.log.now (omega (arith, c.loop-index-test.true)))))
