use Rattle.store_buffer.proofs.StoreLaws.{put_is_behind, put_single_is_behind, seal_is_up, oldest_is_first, take_is_drained, forward_is_last, has_is_any_of_all, drainable_is_any, empty_is_none, sealed_is_some}
use Rattle.store_buffer.proofs.laws.buffer_of_stores.Goals as goal

pub returns : goal.returns
returns c =
    record {
      put = put_is_behind;
      put_single = put_single_is_behind;
      seal = seal_is_up;
      oldest = oldest_is_first;
      take = take_is_drained;
      forward = forward_is_last;
      has = has_is_any_of_all;
      drainable = drainable_is_any;
      is_empty = empty_is_none;
      has_sealed = sealed_is_some;
    }
