use Rattle.std.proofs.Common.{Some, true}
use Rattle.std.specs.FinSet as set
use Rattle.client_cache.specs.declared.held.Held.TheVariants.{Trunk}
use Rattle.client_cache.specs.Held.{granted_copy}
use Rattle.client_cache.specs.Cache.{copy_at}
use Rattle.client_cache.proofs.AtLines.{put_own, remove_own, missed_own, stalled_own, probed_own, evicted_own}
use Rattle.client_cache.proofs.laws.calls_change_their_line.Goals as goal

pub returns-clause-missed : goal.returns-clause-missed
returns-clause-missed _ = missed_own

pub returns-clause-stalled : goal.returns-clause-stalled
returns-clause-stalled _ = stalled_own

pub returns-clause-probe : goal.returns-clause-probe
returns-clause-probe _ = probed_own

pub returns-clause-grant : goal.returns-clause-grant
returns-clause-grant _ c line cap bytes = λ i. record {
  copy = put_own c.copies line (granted_copy cap bytes (copy_at c line)) i;
  acquiring = remove_own c.acquiring line i;
  releasing = set.contains c.releasing line;
}

pub returns-clause-release_ack : goal.returns-clause-release_ack
returns-clause-release_ack _ c line = λ i. record {
  copy = copy_at c line;
  acquiring = set.contains c.acquiring line;
  releasing = remove_own c.releasing line i;
}

pub returns-clause-evict : goal.returns-clause-evict
returns-clause-evict _ = evicted_own

pub returns-clause-write : goal.returns-clause-write
returns-clause-write _ c line bytes = λ i. record {
  copy = put_own c.copies line (Some (Trunk true bytes)) i;
  acquiring = set.contains c.acquiring line;
  releasing = set.contains c.releasing line;
}
