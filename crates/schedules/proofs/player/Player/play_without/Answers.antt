use Rattle.std.proofs.Common.{◌∙◌}
use Rattle.machine_types.specs.declared.event.Event.TheVariants as event
use Rattle.schedules.proofs.Shorter.{skip_next, take_next}
use Rattle.schedules.proofs.player.Player.play_without.Goals as goal

pub loop-index-preserved-then-index-to : goal.loop-index-preserved-then-index-to
loop-index-preserved-then-index-to c =
    (c.loop-index.invariant.0, skip_next c.loop-index.self.events c.args.events.now c.loop-index.index (event.Step 0) c.loop-index-test.true c.loop-index.invariant.1)

pub loop-index-preserved : goal.loop-index-preserved
loop-index-preserved c = (
  c.apply.ensures.start ∙ c.loop-index.invariant.0,
  take_next c.loop-index.self.events c.args.events.now c.loop-index.index _ c.apply.new.self.events c.loop-index-test.true c.apply.ensures.kept c.loop-index.invariant.1,
)
