use Rattle.store_buffer.proofs.StoreLaws.{own_word, other_word, put_appends, entry_is_filter, ops_are_filter, byte_is_last, has_is_any, take_filters, always_distinct}
use Rattle.store_buffer.proofs.laws.group_of_stores.Goals as goal

pub returns : goal.returns
returns c =
    record {
      own_word = own_word;
      other_word = other_word;
      put = put_appends;
      entry = entry_is_filter;
      ops = ops_are_filter;
      byte = byte_is_last;
      has = has_is_any;
      take = take_filters;
      distinct = always_distinct;
    }
