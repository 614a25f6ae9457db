use Rattle.store_buffer.proofs.SingleGroups.{new_is_single, put_single_stays_single, seal_stays_single, take_stays_single}
use Rattle.store_buffer.proofs.laws.single_groups_stay.Goals as goal

pub returns : goal.returns
returns c =
    record {
      new = new_is_single;
      put_single = put_single_stays_single;
      seal = seal_stays_single;
      take = take_stays_single;
    }
