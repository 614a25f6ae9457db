use Rattle.std.proofs.Common.{IfOk}
use Rattle.fence_audit.proofs.Made.{made_all}
use Rattle.fence_audit.specs.Searches.{IsSearchedBy}
use Rattle.fence_audit.proofs.searches.Asking.made_of.Goals as goal

pub returns : goal.returns
returns g c =
    made_all (λ r. IfOk r (IsSearchedBy c.args.self.now)) _ _ c.map_indices.result (λ xs given i d below. (given i d below).1.met) c.map_indices.ensures.len c.map_indices.ensures.each
