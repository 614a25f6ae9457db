use Rattle.std.proofs.lemmas.Option.{slice_get_within}
use Rattle.rvwmo_order.proofs.bounds.touched.ranks_read.Goals as goal

pub ranks_at-requires : goal.ranks_at-requires
ranks_at-requires c = slice_get_within c.args.ranking.now c.args.position c.args.a.now c.requires
