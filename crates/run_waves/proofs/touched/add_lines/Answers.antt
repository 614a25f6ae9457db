use Rattle.run_waves.proofs.Adding.{line_added, lines_added}
use Rattle.run_waves.proofs.touched.add_lines.Goals as goal

pub loop-rest-preserved : goal.loop-rest-preserved
loop-rest-preserved c = line_added c.args.harts _ _ c.loop-rest.rest.now _ _ _ _ c.in-len1-up.len_at_least c.in_ok-meet.ensures.parts c.in_ok-meet.ensures.met c.loop-rest.invariant

pub returns : goal.returns
returns c = lines_added c.args.harts c.loop-rest.met.keys c.loop-rest.rest.now _ _ c.in_default.len_below c.loop-rest.invariant
