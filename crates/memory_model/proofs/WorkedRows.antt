-- The worked rows compute.
use Rattle.std.proofs.Common.{refl}
use Rattle.memory_model.specs.WorkedRows.{Row1, Row2, Row4, Row5, Row6, Row7, Row8, Row9, Row18, OneByte, Rows}

row_1 : Row1
row_1 = record {
  run = refl;
  other_code = refl;
  still_running = refl;
  past_the_exit = refl;
  modulo_256 = refl;
  legal = record { run = refl; whole = refl; legal = refl; no_fault = refl };
}

row_2 : Row2
row_2 = record {
  legal = record { run = refl; whole = refl; legal = refl; no_fault = refl };
}

row_4 : Row4
row_4 = record {
  order = refl;
  legal = record { run = refl; whole = refl; legal = refl; no_fault = refl };
  legal_ztso = record { run = refl; whole = refl; legal = refl; no_fault = refl };
}

row_5 : Row5
row_5 = record {
  order = refl;
  legal = record { run = refl; whole = refl; legal = refl; no_fault = refl };
  fault_ztso = record { run = refl; whole = refl; illegal = refl; fault = refl };
}

row_6 : Row6
row_6 = record {
  legal = record { run = refl; whole = refl; legal = refl; no_fault = refl };
  second_store_first = record { run = refl; whole = refl; illegal = refl; fault = refl };
}

row_7 : Row7
row_7 = record {
  legal = record { run = refl; whole = refl; legal = refl; no_fault = refl };
  exchanged = record { run = refl; whole = refl; illegal = refl; fault = refl };
  other_value = record { run = refl; whole = refl; illegal = refl; fault = refl };
  other_pc = refl;
}

row_8 : Row8
row_8 = record {
  order = refl;
  legal = record { run = refl; whole = refl; legal = refl; no_fault = refl };
  second_byte_wrong = record { run = refl; whole = refl; illegal = refl; fault = refl };
}

row_9 : Row9
row_9 = record {
  legal = record { run = refl; whole = refl; legal = refl; no_fault = refl };
  succeeds_in_vain = record { run = refl; whole = refl; illegal = refl; fault = refl };
}

row_18 : Row18
row_18 = record {
  legal = record { run = refl; whole = refl; legal = refl; no_fault = refl };
  unperformed = record { run = refl; whole = refl; legal = refl; no_fault = refl };
  twice = refl;
  no_operation = refl;
  no_order = refl;
  missing = refl;
  stops_with_2 = refl;
  not_with_3 = refl;
  no_value = refl;
  an_answer = refl;
}

one_byte : OneByte
one_byte = record { byte = refl; wide = refl }

pub rows : Rows
rows = record { row_1 = row_1; row_2 = row_2; row_4 = row_4; row_5 = row_5; row_6 = row_6; row_7 = row_7; row_8 = row_8; row_9 = row_9; row_18 = row_18; one_byte = one_byte }
