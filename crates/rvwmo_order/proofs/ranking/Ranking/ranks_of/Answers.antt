use Rattle.std.proofs.Common.{◌∙◌, ap}
use Rattle.std.specs.Prelude.{slice_get}
use Rattle.std.proofs.lemmas.Option.{slice_get_within}
use Rattle.rvwmo_order.proofs.ranking.Ranking.ranks_of.Goals as goal

pub ranks_at-requires : goal.ranks_at-requires
ranks_at-requires c = slice_get_within c.args.self.now c.position_of.result c.args.load.now (ap (slice_get c.args.self.now) c.position_of.ensures ∙ c.requires.there)

pub returns : goal.returns
returns c = c.ranks_at.ensures c.args.load.now (ap (slice_get c.args.self.now) c.position_of.ensures ∙ c.requires.there) c.requires.reads
