-- How large a trace may be.
use Rattle.std.specs.Prelude.{◌≤◌, All, List, length}
use Rattle.std.specs.Global.{Vec}
use Rattle.hart.specs.TheConstants.{MAX_ENTRIES, MAX_HARTS}
use Rattle.hart.specs.declared.retired.Retired.{Retired}
use Rattle.trace_recorder.specs.History.{History}

pub record IsWithinLimits (t : History) : Type 0 where
  pub harts : length t.entries ≤ MAX_HARTS
  pub places : All (λ entries. length entries ≤ MAX_ENTRIES) t.entries

-- the same of lists that a trace is made of, one a hart
pub record AreWithinLimits (entries : List (Vec Retired)) : Type 0 where
  pub harts : length entries ≤ MAX_HARTS
  pub places : All (λ list. length list.items ≤ MAX_ENTRIES) entries
