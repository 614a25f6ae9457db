use Rattle.text_fields.proofs.Written.{put_more, put_again}
use Rattle.text_fields.proofs.writing.put.Goals as goal
use Rattle.text_fields.proofs.writing.put.Goals.{in-Ok, in-Err+else-ne}

pub loop-preserved : goal.loop-preserved
loop-preserved g c =
    elim c.match-write.branch [
      | in-Ok w ↦ put_more _ _ _ _ _ _ w.in-Ok.taken c.loop.invariant w.in-Ok.ensures.bytes (search (w.rest-is, w.split_at.ensures))
      | in-Err+else-ne w ↦ put_again _ _ _ _ _ _ c.loop.invariant w.in-Err.ensures.bytes (search w.rest-is)
    ]
