-- Verdicts on the litmus shapes: orders that a rule of preserved program order or an axiom allows and forbids. A wrong
-- variant of a rule changes a verdict below.
use Rattle.std.specs.Prelude.{[], ◌∷◌}
use Rattle.hart.specs.TheVariants.{Rvwmo, Ztso}
use Rattle.memory_model.specs.Examples.{op, Passes, IsIllegal}
use Rattle.memory_model.specs.LitmusPrograms.{overlapping_stores, stores_apart, load_before_store, store_before_load, load_before_amo, load_before_sc, two_loads, two_loads_of_image, two_loads_of_equal_values, own_store_between, own_store_to_another_byte, load_of_sc, load_beside_sc, load_of_amo, stores_fence_w_w, stores_fence_r_w, stores_fence_w_r, stores_fence_io, stores_fence_tso, store_fence_tso_load, loads_fence_tso, store_fence_rw_load, loads_fence_rw_w, store_fence_iorw_load, amo_fence_tso_load, store_fence_tso_amo, amo_fence_w_w_store, amo_fence_r_w_store, amo_aq_load, amo_rl_load, lr_aq_load, sc_aq_load, lr_load, loads_of_two_words, store_amo_rl, store_amo_aq, load_sc_rl, load_lr_rl, store_sc, sc_rl_lr_aq, store_lr_aq, sc_lr, store_amo_load, sc_rl_lr, pair_of_two_words, failed_sc_between, another_lr_between, address_from_load, address_overwritten, address_through_x0, address_through_failed_sc, address_past_fence, address_through_jalr, data_from_load, data_of_another, amo_data_from_load, branch_on_load, branch_on_load_then_load, branch_on_another, jalr_on_load, load_of_dependent_store, load_of_addressed_store, load_of_independent_store, load_of_later_store, store_behind_address, load_behind_address, store_behind_free_address, store_behind_failed_sc, load_of_old_value, amo_of_own_value, amo_of_old_value, pair_and_store, pair_and_own_store, pair_of_two_words_and_store, pair_of_two_words_and_other_store, pair_of_own_store, pair_of_foreign_store, load_fence_r_w, lr_fence_r_w, sc_fence_w_w, load_fence_r_r_lr, store_fence_w_w_sc, store_fence_w_r_amo, store_fence_w_w_amo, lr_fence_tso_load, sc_fence_tso_store, store_fence_tso_sc, lr_then_load, load_then_lr, sc_between, amo_between, lr_of_sc, load_of_sc_and_byte, store_to_loaded_address, lr_of_loaded_address, sc_to_loaded_address, amo_of_loaded_address, address_through_load, address_through_lr, address_through_amo_address, address_through_amo_operand, sc_data_from_load, sc_behind_branch, amo_behind_branch, branch_by_second_register, lr_of_dependent_store, load_of_dependent_store_and_byte, store_behind_store_address, store_behind_lr_address, store_behind_sc_address, store_behind_amo_address, sc_behind_address, amo_behind_address}

pub record Overlap : Type 0 where
  pub exchanged : IsIllegal Rvwmo overlapping_stores (op 0 3 ∷ op 0 2 ∷ []) 1 (op 0 2) (op 0 3)
  pub in_order : Passes Rvwmo overlapping_stores (op 0 2 ∷ op 0 3 ∷ [])
  pub apart : Passes Rvwmo stores_apart (op 0 3 ∷ op 0 2 ∷ [])
  pub before_store : IsIllegal Rvwmo load_before_store (op 0 3 ∷ op 0 2 ∷ []) 1 (op 0 2) (op 0 3)
  pub forwarded : Passes Rvwmo store_before_load (op 0 3 ∷ op 0 2 ∷ [])
  pub before_amo : IsIllegal Rvwmo load_before_amo (op 0 4 ∷ op 0 3 ∷ []) 1 (op 0 3) (op 0 4)
  pub before_sc : IsIllegal Rvwmo load_before_sc (op 0 4 ∷ op 0 3 ∷ []) 1 (op 0 3) (op 0 4)

pub record SameWord : Type 0 where
  pub new_then_old : IsIllegal Rvwmo two_loads (op 1 4 ∷ op 0 3 ∷ op 1 3 ∷ []) 2 (op 1 3) (op 1 4)
  pub both_from_image : Passes Rvwmo two_loads_of_image (op 1 4 ∷ op 1 3 ∷ op 0 3 ∷ [])
  pub equal_values : IsIllegal Rvwmo two_loads_of_equal_values (op 1 4 ∷ op 0 3 ∷ op 1 3 ∷ []) 2 (op 1 3) (op 1 4)
  pub store_between : Passes Rvwmo own_store_between (op 1 5 ∷ op 0 3 ∷ op 1 3 ∷ op 1 4 ∷ [])
  pub other_byte_between : IsIllegal Rvwmo own_store_to_another_byte (op 1 5 ∷ op 0 3 ∷ op 1 3 ∷ op 1 4 ∷ []) 2 (op 1 3) (op 1 5)
  pub lr_first : IsIllegal Rvwmo lr_then_load (op 1 4 ∷ op 0 3 ∷ op 1 3 ∷ []) 2 (op 1 3) (op 1 4)
  pub lr_last : IsIllegal Rvwmo load_then_lr (op 1 4 ∷ op 0 3 ∷ op 1 3 ∷ []) 2 (op 1 3) (op 1 4)
  pub sc_between : IsIllegal Rvwmo sc_between (op 0 6 ∷ op 0 3 ∷ op 0 4 ∷ op 0 5 ∷ []) 3 (op 0 5) (op 0 6)
  pub amo_between : IsIllegal Rvwmo amo_between (op 0 5 ∷ op 0 3 ∷ op 0 4 ∷ []) 2 (op 0 4) (op 0 5)

pub record AtomicSource : Type 0 where
  pub of_conditional : IsIllegal Rvwmo load_of_sc (op 0 4 ∷ op 0 3 ∷ []) 3 (op 0 3) (op 0 4)
  pub beside_sc : Passes Rvwmo load_beside_sc (op 0 4 ∷ op 0 3 ∷ [])
  pub of_amo : IsIllegal Rvwmo load_of_amo (op 0 4 ∷ op 0 3 ∷ []) 2 (op 0 3) (op 0 4)
  pub by_lr : IsIllegal Rvwmo lr_of_sc (op 0 3 ∷ op 0 5 ∷ op 0 4 ∷ []) 3 (op 0 4) (op 0 5)
  pub of_some_bytes : IsIllegal Rvwmo load_of_sc_and_byte (op 0 3 ∷ op 0 6 ∷ op 0 4 ∷ op 0 5 ∷ []) 3 (op 0 4) (op 0 6)

pub record Fence : Type 0 where
  pub w_w : IsIllegal Rvwmo stores_fence_w_w (op 0 4 ∷ op 0 2 ∷ []) 4 (op 0 2) (op 0 4)
  pub r_w : Passes Rvwmo stores_fence_r_w (op 0 4 ∷ op 0 2 ∷ [])
  pub w_r : Passes Rvwmo stores_fence_w_r (op 0 4 ∷ op 0 2 ∷ [])
  pub io : Passes Rvwmo stores_fence_io (op 0 4 ∷ op 0 2 ∷ [])
  pub tso_stores : IsIllegal Rvwmo stores_fence_tso (op 0 4 ∷ op 0 2 ∷ []) 4 (op 0 2) (op 0 4)
  pub tso_store_load : Passes Rvwmo store_fence_tso_load (op 0 4 ∷ op 0 2 ∷ [])
  pub tso_loads : IsIllegal Rvwmo loads_fence_tso (op 0 4 ∷ op 0 2 ∷ []) 4 (op 0 2) (op 0 4)
  pub rw_store_load : IsIllegal Rvwmo store_fence_rw_load (op 0 4 ∷ op 0 2 ∷ []) 4 (op 0 2) (op 0 4)
  pub mode_8_loads : Passes Rvwmo loads_fence_rw_w (op 0 4 ∷ op 0 2 ∷ [])
  pub mode_8_devices : IsIllegal Rvwmo store_fence_iorw_load (op 0 4 ∷ op 0 2 ∷ []) 4 (op 0 2) (op 0 4)
  pub amo_as_load : IsIllegal Rvwmo amo_fence_tso_load (op 0 5 ∷ op 0 3 ∷ []) 4 (op 0 3) (op 0 5)
  pub amo_as_store : IsIllegal Rvwmo store_fence_tso_amo (op 0 5 ∷ op 0 3 ∷ []) 4 (op 0 3) (op 0 5)
  pub amo_in_w : IsIllegal Rvwmo amo_fence_w_w_store (op 0 5 ∷ op 0 3 ∷ []) 4 (op 0 3) (op 0 5)
  pub amo_in_r : IsIllegal Rvwmo amo_fence_r_w_store (op 0 5 ∷ op 0 3 ∷ []) 4 (op 0 3) (op 0 5)
  pub load_in_r : IsIllegal Rvwmo load_fence_r_w (op 0 4 ∷ op 0 2 ∷ []) 4 (op 0 2) (op 0 4)
  pub lr_in_r : IsIllegal Rvwmo lr_fence_r_w (op 0 5 ∷ op 0 3 ∷ []) 4 (op 0 3) (op 0 5)
  pub sc_in_w : IsIllegal Rvwmo sc_fence_w_w (op 0 3 ∷ op 0 6 ∷ op 0 4 ∷ []) 4 (op 0 4) (op 0 6)
  pub lr_behind : IsIllegal Rvwmo load_fence_r_r_lr (op 0 5 ∷ op 0 3 ∷ []) 4 (op 0 3) (op 0 5)
  pub sc_behind : IsIllegal Rvwmo store_fence_w_w_sc (op 0 3 ∷ op 0 6 ∷ op 0 4 ∷ []) 4 (op 0 4) (op 0 6)
  pub amo_behind_in_r : IsIllegal Rvwmo store_fence_w_r_amo (op 0 5 ∷ op 0 3 ∷ []) 4 (op 0 3) (op 0 5)
  pub amo_behind_in_w : IsIllegal Rvwmo store_fence_w_w_amo (op 0 5 ∷ op 0 3 ∷ []) 4 (op 0 3) (op 0 5)
  pub tso_lr : IsIllegal Rvwmo lr_fence_tso_load (op 0 5 ∷ op 0 3 ∷ []) 4 (op 0 3) (op 0 5)
  pub tso_sc : IsIllegal Rvwmo sc_fence_tso_store (op 0 3 ∷ op 0 6 ∷ op 0 4 ∷ []) 4 (op 0 4) (op 0 6)
  pub tso_sc_behind : IsIllegal Rvwmo store_fence_tso_sc (op 0 3 ∷ op 0 6 ∷ op 0 4 ∷ []) 4 (op 0 4) (op 0 6)

pub record Acquire : Type 0 where
  pub amo_aq : IsIllegal Rvwmo amo_aq_load (op 0 4 ∷ op 0 3 ∷ []) 5 (op 0 3) (op 0 4)
  pub amo_rl : Passes Rvwmo amo_rl_load (op 0 4 ∷ op 0 3 ∷ [])
  pub lr_aq : IsIllegal Rvwmo lr_aq_load (op 0 4 ∷ op 0 3 ∷ []) 5 (op 0 3) (op 0 4)
  pub sc_aq : IsIllegal Rvwmo sc_aq_load (op 0 4 ∷ op 0 3 ∷ []) 5 (op 0 3) (op 0 4)
  pub lr_plain : Passes Rvwmo lr_load (op 0 4 ∷ op 0 3 ∷ [])
  pub lr_ztso : IsIllegal Ztso lr_load (op 0 4 ∷ op 0 3 ∷ []) 5 (op 0 3) (op 0 4)
  pub plain : Passes Rvwmo loads_of_two_words (op 0 3 ∷ op 0 2 ∷ [])
  pub plain_ztso : IsIllegal Ztso loads_of_two_words (op 0 3 ∷ op 0 2 ∷ []) 5 (op 0 2) (op 0 3)

pub record Release : Type 0 where
  pub amo_rl : IsIllegal Rvwmo store_amo_rl (op 0 4 ∷ op 0 3 ∷ []) 6 (op 0 3) (op 0 4)
  pub amo_aq : Passes Rvwmo store_amo_aq (op 0 4 ∷ op 0 3 ∷ [])
  pub amo_aq_ztso : IsIllegal Ztso store_amo_aq (op 0 4 ∷ op 0 3 ∷ []) 6 (op 0 3) (op 0 4)
  pub sc_rl : IsIllegal Rvwmo load_sc_rl (op 0 4 ∷ op 0 3 ∷ []) 6 (op 0 3) (op 0 4)
  pub lr_rl : IsIllegal Rvwmo load_lr_rl (op 0 4 ∷ op 0 3 ∷ []) 6 (op 0 3) (op 0 4)
  pub sc_plain : Passes Rvwmo store_sc (op 0 4 ∷ op 0 3 ∷ [])
  pub sc_ztso : IsIllegal Ztso store_sc (op 0 4 ∷ op 0 3 ∷ []) 6 (op 0 3) (op 0 4)

pub record Both : Type 0 where
  pub annotated : IsIllegal Rvwmo sc_rl_lr_aq (op 0 5 ∷ op 0 4 ∷ []) 7 (op 0 4) (op 0 5)
  pub store_lr : Passes Rvwmo store_lr_aq (op 0 4 ∷ op 0 3 ∷ [])
  pub plain : Passes Rvwmo sc_lr (op 0 5 ∷ op 0 4 ∷ [])
  pub plain_ztso : Passes Ztso sc_lr (op 0 5 ∷ op 0 4 ∷ [])
  pub amo_acquires_ztso : IsIllegal Ztso store_amo_load (op 0 3 ∷ op 0 5 ∷ op 0 4 ∷ []) 5 (op 0 4) (op 0 5)
  pub amo_acquires_not : Passes Rvwmo store_amo_load (op 0 3 ∷ op 0 5 ∷ op 0 4 ∷ [])
  pub lr_rcpc_ztso : Passes Ztso sc_rl_lr (op 0 5 ∷ op 0 4 ∷ [])

pub record Pair : Type 0 where
  pub paired : IsIllegal Rvwmo pair_of_two_words (op 0 5 ∷ op 0 4 ∷ []) 8 (op 0 4) (op 0 5)
  pub failed_between : Passes Rvwmo failed_sc_between (op 0 6 ∷ op 0 4 ∷ [])
  pub other_lr : Passes Rvwmo another_lr_between (op 0 5 ∷ op 0 6 ∷ op 0 4 ∷ [])

pub record Address : Type 0 where
  pub dependent : IsIllegal Rvwmo address_from_load (op 0 4 ∷ op 0 2 ∷ []) 9 (op 0 2) (op 0 4)
  pub overwritten : Passes Rvwmo address_overwritten (op 0 5 ∷ op 0 2 ∷ [])
  pub through_x0 : Passes Rvwmo address_through_x0 (op 0 4 ∷ op 0 2 ∷ [])
  pub through_failed_sc : IsIllegal Rvwmo address_through_failed_sc (op 0 6 ∷ op 0 3 ∷ []) 9 (op 0 3) (op 0 6)
  pub past_fence : IsIllegal Rvwmo address_past_fence (op 0 5 ∷ op 0 2 ∷ []) 9 (op 0 2) (op 0 5)
  pub through_jalr : IsIllegal Rvwmo address_through_jalr (op 0 4 ∷ op 0 2 ∷ []) 9 (op 0 2) (op 0 4)
  pub to_store : IsIllegal Rvwmo store_to_loaded_address (op 0 5 ∷ op 0 3 ∷ []) 9 (op 0 3) (op 0 5)
  pub to_lr : IsIllegal Rvwmo lr_of_loaded_address (op 0 5 ∷ op 0 3 ∷ []) 9 (op 0 3) (op 0 5)
  pub to_sc : IsIllegal Rvwmo sc_to_loaded_address (op 0 3 ∷ op 0 6 ∷ op 0 4 ∷ []) 9 (op 0 4) (op 0 6)
  pub to_amo : IsIllegal Rvwmo amo_of_loaded_address (op 0 5 ∷ op 0 3 ∷ []) 9 (op 0 3) (op 0 5)
  pub through_load : IsIllegal Rvwmo address_through_load (op 0 7 ∷ op 0 3 ∷ op 0 5 ∷ []) 9 (op 0 3) (op 0 7)
  pub through_lr : IsIllegal Rvwmo address_through_lr (op 0 7 ∷ op 0 3 ∷ op 0 5 ∷ []) 9 (op 0 3) (op 0 7)
  pub through_amo_address : IsIllegal Rvwmo address_through_amo_address (op 0 7 ∷ op 0 3 ∷ op 0 5 ∷ []) 9 (op 0 3) (op 0 7)
  pub through_amo_operand : IsIllegal Rvwmo address_through_amo_operand (op 0 6 ∷ op 0 3 ∷ op 0 4 ∷ []) 9 (op 0 3) (op 0 6)

pub record Stored : Type 0 where
  pub dependent : IsIllegal Rvwmo data_from_load (op 0 3 ∷ op 0 2 ∷ []) 10 (op 0 2) (op 0 3)
  pub independent : Passes Rvwmo data_of_another (op 0 3 ∷ op 0 2 ∷ [])
  pub amo_operand : IsIllegal Rvwmo amo_data_from_load (op 0 4 ∷ op 0 3 ∷ []) 10 (op 0 3) (op 0 4)
  pub to_sc : IsIllegal Rvwmo sc_data_from_load (op 0 3 ∷ op 0 5 ∷ op 0 4 ∷ []) 10 (op 0 4) (op 0 5)

pub record Control : Type 0 where
  pub dependent : IsIllegal Rvwmo branch_on_load (op 0 4 ∷ op 0 2 ∷ []) 11 (op 0 2) (op 0 4)
  pub then_load : Passes Rvwmo branch_on_load_then_load (op 0 4 ∷ op 0 2 ∷ [])
  pub independent : Passes Rvwmo branch_on_another (op 0 4 ∷ op 0 2 ∷ [])
  pub jump : IsIllegal Rvwmo jalr_on_load (op 0 4 ∷ op 0 2 ∷ []) 11 (op 0 2) (op 0 4)
  pub to_sc : IsIllegal Rvwmo sc_behind_branch (op 0 3 ∷ op 0 6 ∷ op 0 4 ∷ []) 11 (op 0 4) (op 0 6)
  pub to_amo : IsIllegal Rvwmo amo_behind_branch (op 0 5 ∷ op 0 3 ∷ []) 11 (op 0 3) (op 0 5)
  pub second_register : IsIllegal Rvwmo branch_by_second_register (op 0 5 ∷ op 0 3 ∷ []) 11 (op 0 3) (op 0 5)

pub record ThroughStore : Type 0 where
  pub of_dependent : IsIllegal Rvwmo load_of_dependent_store (op 0 4 ∷ op 0 2 ∷ op 0 3 ∷ []) 12 (op 0 2) (op 0 4)
  pub of_addressed : IsIllegal Rvwmo load_of_addressed_store (op 0 5 ∷ op 0 2 ∷ op 0 4 ∷ []) 12 (op 0 2) (op 0 5)
  pub of_independent : Passes Rvwmo load_of_independent_store (op 0 4 ∷ op 0 2 ∷ op 0 3 ∷ [])
  pub of_later : Passes Rvwmo load_of_later_store (op 0 5 ∷ op 0 2 ∷ op 0 3 ∷ op 0 4 ∷ [])
  pub to_lr : IsIllegal Rvwmo lr_of_dependent_store (op 0 5 ∷ op 0 3 ∷ op 0 4 ∷ []) 12 (op 0 3) (op 0 5)
  pub of_some_bytes : IsIllegal Rvwmo load_of_dependent_store_and_byte (op 0 5 ∷ op 0 2 ∷ op 0 3 ∷ op 0 4 ∷ []) 12 (op 0 2) (op 0 5)

pub record BehindAddress : Type 0 where
  pub store : IsIllegal Rvwmo store_behind_address (op 0 5 ∷ op 0 2 ∷ op 0 4 ∷ []) 13 (op 0 2) (op 0 5)
  pub load : Passes Rvwmo load_behind_address (op 0 5 ∷ op 0 2 ∷ op 0 4 ∷ [])
  pub free : Passes Rvwmo store_behind_free_address (op 0 5 ∷ op 0 2 ∷ op 0 4 ∷ [])
  pub failed_sc : IsIllegal Rvwmo store_behind_failed_sc (op 0 5 ∷ op 0 2 ∷ []) 13 (op 0 2) (op 0 5)
  pub past_store : IsIllegal Rvwmo store_behind_store_address (op 0 6 ∷ op 0 3 ∷ op 0 5 ∷ []) 13 (op 0 3) (op 0 6)
  pub past_lr : IsIllegal Rvwmo store_behind_lr_address (op 0 6 ∷ op 0 3 ∷ op 0 5 ∷ []) 13 (op 0 3) (op 0 6)
  pub past_sc : IsIllegal Rvwmo store_behind_sc_address (op 0 3 ∷ op 0 7 ∷ op 0 4 ∷ op 0 6 ∷ []) 13 (op 0 4) (op 0 7)
  pub past_amo : IsIllegal Rvwmo store_behind_amo_address (op 0 6 ∷ op 0 3 ∷ op 0 5 ∷ []) 13 (op 0 3) (op 0 6)
  pub to_sc : IsIllegal Rvwmo sc_behind_address (op 0 3 ∷ op 0 7 ∷ op 0 4 ∷ op 0 6 ∷ []) 13 (op 0 4) (op 0 7)
  pub to_amo : IsIllegal Rvwmo amo_behind_address (op 0 6 ∷ op 0 3 ∷ op 0 5 ∷ []) 13 (op 0 3) (op 0 6)

pub record Values : Type 0 where
  pub behind_store : IsIllegal Rvwmo load_of_old_value (op 0 3 ∷ op 1 3 ∷ []) 14 (op 1 3) (op 1 3)
  pub before_store : Passes Rvwmo load_of_old_value (op 1 3 ∷ op 0 3 ∷ [])
  pub own_value : IsIllegal Rvwmo amo_of_own_value (op 0 3 ∷ []) 14 (op 0 3) (op 0 3)
  pub old_value : Passes Rvwmo amo_of_old_value (op 0 3 ∷ [])

pub record Atomicity : Type 0 where
  pub store_between : IsIllegal Rvwmo pair_and_store (op 0 4 ∷ op 1 3 ∷ op 0 5 ∷ []) 15 (op 0 4) (op 0 5)
  pub store_behind : Passes Rvwmo pair_and_store (op 0 4 ∷ op 0 5 ∷ op 1 3 ∷ [])
  pub own_store : Passes Rvwmo pair_and_own_store (op 0 3 ∷ op 0 4 ∷ op 0 5 ∷ [])
  pub first_word : IsIllegal Rvwmo pair_of_two_words_and_store (op 0 5 ∷ op 1 3 ∷ op 0 6 ∷ []) 15 (op 0 5) (op 0 6)
  pub second_word : Passes Rvwmo pair_of_two_words_and_other_store (op 0 5 ∷ op 1 3 ∷ op 0 6 ∷ [])
  pub source_behind : IsIllegal Rvwmo pair_of_own_store (op 0 5 ∷ op 0 6 ∷ op 0 4 ∷ []) 15 (op 0 5) (op 0 6)
  pub source_between : Passes Rvwmo pair_of_own_store (op 0 5 ∷ op 0 4 ∷ op 0 6 ∷ [])
  pub foreign_source : Passes Rvwmo pair_of_foreign_store (op 1 3 ∷ op 0 4 ∷ op 0 5 ∷ [])

-- all of them
pub record Shapes : Type 0 where
  pub overlap : Overlap
  pub same_word : SameWord
  pub atomic_source : AtomicSource
  pub fence : Fence
  pub acquire : Acquire
  pub release : Release
  pub both : Both
  pub pair : Pair
  pub address : Address
  pub stored : Stored
  pub control : Control
  pub through_store : ThroughStore
  pub behind_address : BehindAddress
  pub values : Values
  pub atomicity : Atomicity
