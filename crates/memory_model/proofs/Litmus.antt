-- The litmus shapes compute.
use Rattle.std.proofs.Common.{refl}
use Rattle.memory_model.specs.Litmus.{Overlap, SameWord, AtomicSource, Fence, Acquire, Release, Both, Pair, Address, Stored, Control, ThroughStore, BehindAddress, Values, Atomicity, Shapes}

overlap : Overlap
overlap = record {
  exchanged = record { run = refl; whole = refl; illegal = refl; fault = refl };
  in_order = record { run = refl; whole = refl; legal = refl; no_fault = refl };
  apart = record { run = refl; whole = refl; legal = refl; no_fault = refl };
  before_store = record { run = refl; whole = refl; illegal = refl; fault = refl };
  forwarded = record { run = refl; whole = refl; legal = refl; no_fault = refl };
  before_amo = record { run = refl; whole = refl; illegal = refl; fault = refl };
  before_sc = record { run = refl; whole = refl; illegal = refl; fault = refl };
}

same_word : SameWord
same_word = record {
  new_then_old = record { run = refl; whole = refl; illegal = refl; fault = refl };
  both_from_image = record { run = refl; whole = refl; legal = refl; no_fault = refl };
  equal_values = record { run = refl; whole = refl; illegal = refl; fault = refl };
  store_between = record { run = refl; whole = refl; legal = refl; no_fault = refl };
  other_byte_between = record { run = refl; whole = refl; illegal = refl; fault = refl };
  lr_first = record { run = refl; whole = refl; illegal = refl; fault = refl };
  lr_last = record { run = refl; whole = refl; illegal = refl; fault = refl };
  sc_between = record { run = refl; whole = refl; illegal = refl; fault = refl };
  amo_between = record { run = refl; whole = refl; illegal = refl; fault = refl };
}

atomic_source : AtomicSource
atomic_source = record {
  of_conditional = record { run = refl; whole = refl; illegal = refl; fault = refl };
  beside_sc = record { run = refl; whole = refl; legal = refl; no_fault = refl };
  of_amo = record { run = refl; whole = refl; illegal = refl; fault = refl };
  by_lr = record { run = refl; whole = refl; illegal = refl; fault = refl };
  of_some_bytes = record { run = refl; whole = refl; illegal = refl; fault = refl };
}

fence : Fence
fence = record {
  w_w = record { run = refl; whole = refl; illegal = refl; fault = refl };
  r_w = record { run = refl; whole = refl; legal = refl; no_fault = refl };
  w_r = record { run = refl; whole = refl; legal = refl; no_fault = refl };
  io = record { run = refl; whole = refl; legal = refl; no_fault = refl };
  tso_stores = record { run = refl; whole = refl; illegal = refl; fault = refl };
  tso_store_load = record { run = refl; whole = refl; legal = refl; no_fault = refl };
  tso_loads = record { run = refl; whole = refl; illegal = refl; fault = refl };
  rw_store_load = record { run = refl; whole = refl; illegal = refl; fault = refl };
  mode_8_loads = record { run = refl; whole = refl; legal = refl; no_fault = refl };
  mode_8_devices = record { run = refl; whole = refl; illegal = refl; fault = refl };
  amo_as_load = record { run = refl; whole = refl; illegal = refl; fault = refl };
  amo_as_store = record { run = refl; whole = refl; illegal = refl; fault = refl };
  amo_in_w = record { run = refl; whole = refl; illegal = refl; fault = refl };
  amo_in_r = record { run = refl; whole = refl; illegal = refl; fault = refl };
  load_in_r = record { run = refl; whole = refl; illegal = refl; fault = refl };
  lr_in_r = record { run = refl; whole = refl; illegal = refl; fault = refl };
  sc_in_w = record { run = refl; whole = refl; illegal = refl; fault = refl };
  lr_behind = record { run = refl; whole = refl; illegal = refl; fault = refl };
  sc_behind = record { run = refl; whole = refl; illegal = refl; fault = refl };
  amo_behind_in_r = record { run = refl; whole = refl; illegal = refl; fault = refl };
  amo_behind_in_w = record { run = refl; whole = refl; illegal = refl; fault = refl };
  tso_lr = record { run = refl; whole = refl; illegal = refl; fault = refl };
  tso_sc = record { run = refl; whole = refl; illegal = refl; fault = refl };
  tso_sc_behind = record { run = refl; whole = refl; illegal = refl; fault = refl };
}

acquire : Acquire
acquire = record {
  amo_aq = record { run = refl; whole = refl; illegal = refl; fault = refl };
  amo_rl = record { run = refl; whole = refl; legal = refl; no_fault = refl };
  lr_aq = record { run = refl; whole = refl; illegal = refl; fault = refl };
  sc_aq = record { run = refl; whole = refl; illegal = refl; fault = refl };
  lr_plain = record { run = refl; whole = refl; legal = refl; no_fault = refl };
  lr_ztso = record { run = refl; whole = refl; illegal = refl; fault = refl };
  plain = record { run = refl; whole = refl; legal = refl; no_fault = refl };
  plain_ztso = record { run = refl; whole = refl; illegal = refl; fault = refl };
}

release : Release
release = record {
  amo_rl = record { run = refl; whole = refl; illegal = refl; fault = refl };
  amo_aq = record { run = refl; whole = refl; legal = refl; no_fault = refl };
  amo_aq_ztso = record { run = refl; whole = refl; illegal = refl; fault = refl };
  sc_rl = record { run = refl; whole = refl; illegal = refl; fault = refl };
  lr_rl = record { run = refl; whole = refl; illegal = refl; fault = refl };
  sc_plain = record { run = refl; whole = refl; legal = refl; no_fault = refl };
  sc_ztso = record { run = refl; whole = refl; illegal = refl; fault = refl };
}

both : Both
both = record {
  annotated = record { run = refl; whole = refl; illegal = refl; fault = refl };
  store_lr = record { run = refl; whole = refl; legal = refl; no_fault = refl };
  plain = record { run = refl; whole = refl; legal = refl; no_fault = refl };
  plain_ztso = record { run = refl; whole = refl; legal = refl; no_fault = refl };
  amo_acquires_ztso = record { run = refl; whole = refl; illegal = refl; fault = refl };
  amo_acquires_not = record { run = refl; whole = refl; legal = refl; no_fault = refl };
  lr_rcpc_ztso = record { run = refl; whole = refl; legal = refl; no_fault = refl };
}

pair : Pair
pair = record {
  paired = record { run = refl; whole = refl; illegal = refl; fault = refl };
  failed_between = record { run = refl; whole = refl; legal = refl; no_fault = refl };
  other_lr = record { run = refl; whole = refl; legal = refl; no_fault = refl };
}

address : Address
address = record {
  dependent = record { run = refl; whole = refl; illegal = refl; fault = refl };
  overwritten = record { run = refl; whole = refl; legal = refl; no_fault = refl };
  through_x0 = record { run = refl; whole = refl; legal = refl; no_fault = refl };
  through_failed_sc = record { run = refl; whole = refl; illegal = refl; fault = refl };
  past_fence = record { run = refl; whole = refl; illegal = refl; fault = refl };
  through_jalr = record { run = refl; whole = refl; illegal = refl; fault = refl };
  to_store = record { run = refl; whole = refl; illegal = refl; fault = refl };
  to_lr = record { run = refl; whole = refl; illegal = refl; fault = refl };
  to_sc = record { run = refl; whole = refl; illegal = refl; fault = refl };
  to_amo = record { run = refl; whole = refl; illegal = refl; fault = refl };
  through_load = record { run = refl; whole = refl; illegal = refl; fault = refl };
  through_lr = record { run = refl; whole = refl; illegal = refl; fault = refl };
  through_amo_address = record { run = refl; whole = refl; illegal = refl; fault = refl };
  through_amo_operand = record { run = refl; whole = refl; illegal = refl; fault = refl };
}

stored : Stored
stored = record {
  dependent = record { run = refl; whole = refl; illegal = refl; fault = refl };
  independent = record { run = refl; whole = refl; legal = refl; no_fault = refl };
  amo_operand = record { run = refl; whole = refl; illegal = refl; fault = refl };
  to_sc = record { run = refl; whole = refl; illegal = refl; fault = refl };
}

control : Control
control = record {
  dependent = record { run = refl; whole = refl; illegal = refl; fault = refl };
  then_load = record { run = refl; whole = refl; legal = refl; no_fault = refl };
  independent = record { run = refl; whole = refl; legal = refl; no_fault = refl };
  jump = record { run = refl; whole = refl; illegal = refl; fault = refl };
  to_sc = record { run = refl; whole = refl; illegal = refl; fault = refl };
  to_amo = record { run = refl; whole = refl; illegal = refl; fault = refl };
  second_register = record { run = refl; whole = refl; illegal = refl; fault = refl };
}

through_store : ThroughStore
through_store = record {
  of_dependent = record { run = refl; whole = refl; illegal = refl; fault = refl };
  of_addressed = record { run = refl; whole = refl; illegal = refl; fault = refl };
  of_independent = record { run = refl; whole = refl; legal = refl; no_fault = refl };
  of_later = record { run = refl; whole = refl; legal = refl; no_fault = refl };
  to_lr = record { run = refl; whole = refl; illegal = refl; fault = refl };
  of_some_bytes = record { run = refl; whole = refl; illegal = refl; fault = refl };
}

behind_address : BehindAddress
behind_address = record {
  store = record { run = refl; whole = refl; illegal = refl; fault = refl };
  load = record { run = refl; whole = refl; legal = refl; no_fault = refl };
  free = record { run = refl; whole = refl; legal = refl; no_fault = refl };
  failed_sc = record { run = refl; whole = refl; illegal = refl; fault = refl };
  past_store = record { run = refl; whole = refl; illegal = refl; fault = refl };
  past_lr = record { run = refl; whole = refl; illegal = refl; fault = refl };
  past_sc = record { run = refl; whole = refl; illegal = refl; fault = refl };
  past_amo = record { run = refl; whole = refl; illegal = refl; fault = refl };
  to_sc = record { run = refl; whole = refl; illegal = refl; fault = refl };
  to_amo = record { run = refl; whole = refl; illegal = refl; fault = refl };
}

values : Values
values = record {
  behind_store = record { run = refl; whole = refl; illegal = refl; fault = refl };
  before_store = record { run = refl; whole = refl; legal = refl; no_fault = refl };
  own_value = record { run = refl; whole = refl; illegal = refl; fault = refl };
  old_value = record { run = refl; whole = refl; legal = refl; no_fault = refl };
}

atomicity : Atomicity
atomicity = record {
  store_between = record { run = refl; whole = refl; illegal = refl; fault = refl };
  store_behind = record { run = refl; whole = refl; legal = refl; no_fault = refl };
  own_store = record { run = refl; whole = refl; legal = refl; no_fault = refl };
  first_word = record { run = refl; whole = refl; illegal = refl; fault = refl };
  second_word = record { run = refl; whole = refl; legal = refl; no_fault = refl };
  source_behind = record { run = refl; whole = refl; illegal = refl; fault = refl };
  source_between = record { run = refl; whole = refl; legal = refl; no_fault = refl };
  foreign_source = record { run = refl; whole = refl; legal = refl; no_fault = refl };
}

pub shapes : Shapes
shapes = record { overlap = overlap; same_word = same_word; atomic_source = atomic_source; fence = fence; acquire = acquire; release = release; both = both; pair = pair; address = address; stored = stored; control = control; through_store = through_store; behind_address = behind_address; values = values; atomicity = atomicity }
