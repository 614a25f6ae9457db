use Rattle.std.proofs.Common.{◌∙◌}
use Rattle.fences_command.proofs.Spare.{spare_more}
use Rattle.fences_command.proofs.needed_runs.spare_each.Goals as goal

pub loop-index-preserved : goal.loop-index-preserved
loop-index-preserved g c =
    let was = c.loop-index.invariant in
    record {
      stays = c.in_ok-spare_number.ensures.stays ∙ was.stays;
      spare = spare_more c.args.wanted c.args.folder.name.now c.loop-index.index was.spare c.in_ok-spare_number.ensures.spare;
    }
