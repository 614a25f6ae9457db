use Rattle.std.proofs.Common.{Some, true}
use Rattle.std.specs.FinSet as set
use Rattle.client_cache.specs.declared.held.Held.TheVariants.{Trunk}
use Rattle.client_cache.specs.Held.{granted_copy}
use Rattle.client_cache.specs.Cache.{copy_at}
use Rattle.client_cache.proofs.AtLines.{put_other, remove_other, wanted_other, probed_other, evicted_other}
use Rattle.client_cache.proofs.laws.calls_keep_other_lines.Goals as goal

pub returns-clause-want : goal.returns-clause-want
returns-clause-want _ = wanted_other

pub returns-clause-probe : goal.returns-clause-probe
returns-clause-probe _ = probed_other

pub returns-clause-grant : goal.returns-clause-grant
returns-clause-grant _ c line cap bytes q n = λ i. record {
  copy = put_other c.copies line (granted_copy cap bytes (copy_at c line)) q n i;
  acquiring = remove_other c.acquiring line q n i;
  releasing = set.contains c.releasing q;
}

pub returns-clause-release_ack : goal.returns-clause-release_ack
returns-clause-release_ack _ c line q n = λ i. record {
  copy = copy_at c q;
  acquiring = set.contains c.acquiring q;
  releasing = remove_other c.releasing line q n i;
}

pub returns-clause-evict : goal.returns-clause-evict
returns-clause-evict _ = evicted_other

pub returns-clause-write : goal.returns-clause-write
returns-clause-write _ c line bytes q n = λ i. record {
  copy = put_other c.copies line (Some (Trunk true bytes)) q n i;
  acquiring = set.contains c.acquiring q;
  releasing = set.contains c.releasing q;
}
