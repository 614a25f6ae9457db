use Rattle.std.proofs.Common.{◌∙◌}
use Rattle.explorer.proofs.Patched.{patched_back}
use Rattle.explorer.proofs.final_words.memory.patched_over.Goals as goal

pub loop-index-preserved : goal.loop-index-preserved
loop-index-preserved c = patched_back c.loop-index.over.items _ c.args.patches.now c.loop-index.index _ c.loop-index-test.true c.loop-index.auto.index c.lay_over.ensures ∙ c.loop-index.invariant
