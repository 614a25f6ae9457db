-- Whole runs of small programs: which lists and statuses are runs, what the completed order is, and how it is judged. x is the word at 0x80000100, y that at 0x80000200.
use Rattle.std.specs.Prelude.{ℕ, ◌≡◌, Bool, true, false, List, [], ◌∷◌}
use Rattle.hart.specs.Image.{Initial}
use Rattle.hart.specs.declared.status.Status.TheVariants.{Running, Stopped, Exited}
use Rattle.trace_recorder.specs.History.{History}
use Rattle.trace_recorder.specs.declared.operation.OpId.{OpId}
use Rattle.hart.specs.TheVariants.{Rvwmo, Ztso}
use Rattle.memory_model.specs.Traces.{are_runs, completed, has_each_operation_once}
use Rattle.memory_model.specs.Examples.{image_with, with_word, did, loaded, tried, op, trace, Passes, IsIllegal}

-- ---- row 1: a program that exits with 5

abbrev pub exit_image : Initial
exit_image = image_with (0x00500513 ∷ 0x00000073 ∷ [])

abbrev pub exit_5 : History
exit_5 = record (trace exit_image ((did 0x80000000 0x00500513 ∷ did 0x80000004 0x00000073 ∷ []) ∷ []) []) { statuses = Exited 5 ∷ [] }

pub record Row1 : Type 0 where
  pub run : are_runs exit_5 ≡ true
  pub other_code : are_runs (record exit_5 { statuses = Exited 6 ∷ [] }) ≡ false
  pub still_running : are_runs (record exit_5 { statuses = Running ∷ [] }) ≡ false
  pub past_the_exit : are_runs (record exit_5 { entries = (did 0x80000000 0x00500513 ∷ did 0x80000004 0x00000073 ∷ did 0x80000008 0x00000000 ∷ []) ∷ []; statuses = Running ∷ [] }) ≡ false
  pub modulo_256 : are_runs (record (trace (image_with (0x10500513 ∷ 0x00000073 ∷ [])) ((did 0x80000000 0x10500513 ∷ did 0x80000004 0x00000073 ∷ []) ∷ []) []) { statuses = Exited 5 ∷ [] }) ≡ true
  pub legal : Passes Rvwmo exit_5 (completed exit_5)

-- ---- row 2: nothing has happened

abbrev pub untouched : History
untouched = trace exit_image ([] ∷ []) []

pub record Row2 : Type 0 where
  pub legal : Passes Rvwmo untouched (completed untouched)

-- ---- row 4, store buffering: each hart stores to one word and loads the other, and both load 0

abbrev pub store_buffering : History
store_buffering =
    trace (image_with (0x80000637 ∷ 0x00100693 ∷ 0x00051863 ∷ 0x10d62023 ∷ 0x20062703 ∷ 0x00000073 ∷ 0x20d62023 ∷ 0x10062703 ∷ 0x00000073 ∷ []))
    ((did 0x80000000 0x80000637 ∷ did 0x80000004 0x00100693 ∷ did 0x80000008 0x00051863 ∷ did 0x8000000c 0x10d62023 ∷ loaded 0x80000010 0x20062703 0 ∷ [])
    ∷ (did 0x80000000 0x80000637 ∷ did 0x80000004 0x00100693 ∷ did 0x80000008 0x00051863 ∷ did 0x80000018 0x20d62023 ∷ loaded 0x8000001c 0x10062703 0 ∷ [])
    ∷ [])
    (op 0 4 ∷ op 1 4 ∷ [])

pub record Row4 : Type 0 where
  pub order : completed store_buffering ≡ op 0 4 ∷ op 1 4 ∷ op 0 3 ∷ op 1 3 ∷ []
  pub legal : Passes Rvwmo store_buffering (completed store_buffering)
  pub legal_ztso : Passes Ztso store_buffering (completed store_buffering)

-- ---- rows 5 and 49, message passing: hart 0 stores to x and then to y, and hart 1 loads the new y and the old x

abbrev pub message_passing : History
message_passing =
    trace (image_with (0x80000637 ∷ 0x00100693 ∷ 0x00051863 ∷ 0x10d62023 ∷ 0x00000013 ∷ 0x20d62023 ∷ 0x20062703 ∷ 0x10062783 ∷ []))
    ((did 0x80000000 0x80000637 ∷ did 0x80000004 0x00100693 ∷ did 0x80000008 0x00051863 ∷ did 0x8000000c 0x10d62023 ∷ did 0x80000010 0x00000013 ∷ did 0x80000014 0x20d62023 ∷ [])
    ∷ (did 0x80000000 0x80000637 ∷ did 0x80000004 0x00100693 ∷ did 0x80000008 0x00051863 ∷ loaded 0x80000018 0x20062703 1 ∷ loaded 0x8000001c 0x10062783 0 ∷ [])
    ∷ [])
    (op 0 5 ∷ op 1 3 ∷ op 1 4 ∷ [])

pub record Row5 : Type 0 where
  pub order : completed message_passing ≡ op 0 5 ∷ op 1 3 ∷ op 1 4 ∷ op 0 3 ∷ []
  pub legal : Passes Rvwmo message_passing (completed message_passing)
  pub fault_ztso : IsIllegal Ztso message_passing (completed message_passing) 6 (op 0 3) (op 0 5)

-- ---- rows 6 and 37: with a FENCE w,w between the stores

abbrev pub fenced : List OpId → History
fenced performed =
    trace (image_with (0x80000637 ∷ 0x00100693 ∷ 0x00051863 ∷ 0x10d62023 ∷ 0x0110000f ∷ 0x20d62023 ∷ 0x20062703 ∷ 0x10062783 ∷ []))
    ((did 0x80000000 0x80000637 ∷ did 0x80000004 0x00100693 ∷ did 0x80000008 0x00051863 ∷ did 0x8000000c 0x10d62023 ∷ did 0x80000010 0x0110000f ∷ did 0x80000014 0x20d62023 ∷ [])
    ∷ (did 0x80000000 0x80000637 ∷ did 0x80000004 0x00100693 ∷ did 0x80000008 0x00051863 ∷ [])
    ∷ [])
    performed

pub record Row6 : Type 0 where
  pub legal : Passes Rvwmo (fenced []) (completed (fenced []))
  pub second_store_first : IsIllegal Rvwmo (fenced (op 0 5 ∷ [])) (completed (fenced (op 0 5 ∷ []))) 4 (op 0 3) (op 0 5)

-- ---- rows 7 and 17: two stores to x round a FENCE w,w, and a load of x before both are performed

abbrev pub two_stores_at : ℕ → ℕ → List OpId → History
two_stores_at pc value performed =
    trace (image_with (0x80000637 ∷ 0x00100693 ∷ 0x10d62023 ∷ 0x0110000f ∷ 0x00200693 ∷ 0x10d62023 ∷ 0x10062703 ∷ []))
    ((did pc 0x80000637 ∷ did 0x80000004 0x00100693 ∷ did 0x80000008 0x10d62023 ∷ did 0x8000000c 0x0110000f ∷ did 0x80000010 0x00200693 ∷ did 0x80000014 0x10d62023 ∷ loaded 0x80000018 0x10062703 value ∷ []) ∷ [])
    performed

abbrev pub two_stores : ℕ → List OpId → History
two_stores value performed = two_stores_at 0x80000000 value performed

pub record Row7 : Type 0 where
  pub legal : Passes Rvwmo (two_stores 2 (op 0 6 ∷ op 0 2 ∷ op 0 5 ∷ [])) (op 0 6 ∷ op 0 2 ∷ op 0 5 ∷ [])
  pub exchanged : IsIllegal Rvwmo (two_stores 2 (op 0 6 ∷ op 0 5 ∷ op 0 2 ∷ [])) (op 0 6 ∷ op 0 5 ∷ op 0 2 ∷ []) 1 (op 0 2) (op 0 5)
  pub other_value : IsIllegal Rvwmo (two_stores 1 (op 0 6 ∷ op 0 2 ∷ op 0 5 ∷ [])) (op 0 6 ∷ op 0 2 ∷ op 0 5 ∷ []) 14 (op 0 6) (op 0 6)
  pub other_pc : are_runs (two_stores_at 0x80000004 2 (op 0 6 ∷ op 0 2 ∷ op 0 5 ∷ [])) ≡ false

-- ---- row 8: a load of a word of which one byte waits in the buffer

abbrev pub mixed_bytes : ℕ → History
mixed_bytes value =
    trace (with_word 0x80000100 0x44332211 (image_with (0x80000637 ∷ 0x05500693 ∷ 0x10d600a3 ∷ 0x10062703 ∷ [])))
    ((did 0x80000000 0x80000637 ∷ did 0x80000004 0x05500693 ∷ did 0x80000008 0x10d600a3 ∷ loaded 0x8000000c 0x10062703 value ∷ []) ∷ [])
    (op 0 3 ∷ [])

pub record Row8 : Type 0 where
  pub order : completed (mixed_bytes 0x44335511) ≡ op 0 3 ∷ op 0 2 ∷ []
  pub legal : Passes Rvwmo (mixed_bytes 0x44335511) (completed (mixed_bytes 0x44335511))
  pub second_byte_wrong : IsIllegal Rvwmo (mixed_bytes 0x44332211) (completed (mixed_bytes 0x44332211)) 14 (op 0 3) (op 0 3)

-- ---- rows 9 and 37: an AMO of another hart between an LR and its SC

abbrev pub contended : Bool → History
contended ok =
    trace (image_with (0x800005b7 ∷ 0x10058593 ∷ 0x00051663 ∷ 0x1005a52f ∷ 0x18a5a62f ∷ 0x00100613 ∷ 0x00c5a52f ∷ []))
    ((did 0x80000000 0x800005b7 ∷ did 0x80000004 0x10058593 ∷ did 0x80000008 0x00051663 ∷ loaded 0x8000000c 0x1005a52f 0 ∷ tried 0x80000010 0x18a5a62f ok ∷ [])
    ∷ (did 0x80000000 0x800005b7 ∷ did 0x80000004 0x10058593 ∷ did 0x80000008 0x00051663 ∷ did 0x80000014 0x00100613 ∷ loaded 0x80000018 0x00c5a52f 0 ∷ [])
    ∷ [])
    (op 0 3 ∷ op 1 4 ∷ [])

pub record Row9 : Type 0 where
  pub legal : Passes Rvwmo (contended false) (completed (contended false))
  pub succeeds_in_vain : IsIllegal Rvwmo (contended true) (completed (contended true)) 15 (op 0 3) (op 0 4)

-- ---- rows 18, 38 and 43: one load, of its own program

abbrev pub one_load : History
one_load =
    trace (image_with (0x80000637 ∷ 0x00062703 ∷ []))
    ((did 0x80000000 0x80000637 ∷ loaded 0x80000004 0x00062703 0x80000637 ∷ []) ∷ [])
    (op 0 1 ∷ [])

pub record Row18 : Type 0 where
  pub legal : Passes Rvwmo one_load (completed one_load)
  pub unperformed : Passes Rvwmo (record one_load { performed = [] }) (op 0 1 ∷ [])
  pub twice : has_each_operation_once one_load (op 0 1 ∷ op 0 1 ∷ []) ≡ false
  pub no_operation : completed (record one_load { performed = op 0 0 ∷ [] }) ≡ op 0 0 ∷ op 0 1 ∷ []
  pub no_order : has_each_operation_once one_load (op 0 0 ∷ op 0 1 ∷ []) ≡ false
  pub missing : has_each_operation_once one_load [] ≡ false
  pub stops_with_2 : are_runs (record one_load { statuses = Stopped 2 ∷ [] }) ≡ true
  pub not_with_3 : are_runs (record one_load { statuses = Stopped 3 ∷ [] }) ≡ false
  pub no_value : are_runs (record one_load { entries = (did 0x80000000 0x80000637 ∷ did 0x80000004 0x00062703 ∷ []) ∷ [] }) ≡ false
  pub an_answer : are_runs (record one_load { entries = (did 0x80000000 0x80000637 ∷ tried 0x80000004 0x00062703 true ∷ []) ∷ [] }) ≡ false

-- ---- a load of one byte: what it read fits a byte

abbrev pub byte_load : ℕ → History
byte_load value =
    trace (image_with (0x80000637 ∷ 0x00064703 ∷ [])) ((did 0x80000000 0x80000637 ∷ loaded 0x80000004 0x00064703 value ∷ []) ∷ []) (op 0 1 ∷ [])

pub record OneByte : Type 0 where
  pub byte : are_runs (byte_load 0x37) ≡ true
  pub wide : are_runs (byte_load 0x100) ≡ false

-- all of them
pub record Rows : Type 0 where
  pub row_1 : Row1
  pub row_2 : Row2
  pub row_4 : Row4
  pub row_5 : Row5
  pub row_6 : Row6
  pub row_7 : Row7
  pub row_8 : Row8
  pub row_9 : Row9
  pub row_18 : Row18
  pub one_byte : OneByte
