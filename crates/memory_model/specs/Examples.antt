-- Small runs, to be judged: traces of an image of bare words in 4 KiB of memory.
use Rattle.std.specs.Prelude.{ℕ, ◌≡◌, ◌+◌, ◌-◌, ◌*◌, ◌/◌, ◌%◌, ◌^◌, Bool, true, false, List, [], ◌∷◌, ◌++◌, Some, None, length, drop, map, replicate, take}
use Rattle.hart.specs.Image.{Initial}
use Rattle.hart.specs.Size.{base}
use Rattle.hart.specs.declared.retired.Retired.{Retired}
use Rattle.hart.specs.declared.status.Status.{Status}
use Rattle.hart.specs.declared.status.Status.TheVariants.{Running}
use Rattle.trace_recorder.specs.TheVariants.{Bytes16}
use Rattle.trace_recorder.specs.History.{History}
use Rattle.trace_recorder.specs.declared.operation.OpId.{OpId}
use Rattle.hart.specs.MemoryModel.{MemoryModel}
use Rattle.memory_model.specs.Traces.{are_runs, has_each_operation_once, judged_legal}
use Rattle.memory_model.specs.Verdict.{fault_in}

-- ---- images

-- the four bytes of a word, the lowest first
abbrev pub bytes_of_word : ℕ → List ℕ
bytes_of_word word = word % 256 ∷ (word / 256 % 256) ∷ (word / 256 ^ 2 % 256) ∷ (word / 256 ^ 3 % 256) ∷ []

abbrev pub bytes_of_words : List ℕ → List ℕ
bytes_of_words [] = []
bytes_of_words (word ∷ rest) = bytes_of_word word ++ bytes_of_words rest

-- these words from 0x80000000 on, zeros behind them
abbrev pub image_with : List ℕ → Initial
image_with words = record { bytes = bytes_of_words words ++ replicate (4096 - 4 * length words) 0; entry = base }

-- and with this word at an address
abbrev pub with_word : ℕ → ℕ → Initial → Initial
with_word address word image = record image { bytes = take (address - base) image.bytes ++ bytes_of_word word ++ drop (address - base + 4) image.bytes }

-- ---- entries: instructions that read nothing, loads, and store conditionals

abbrev pub did : ℕ → ℕ → Retired
did pc word = record { pc = pc; word = word; loaded = None; sc_ok = None }

abbrev pub loaded : ℕ → ℕ → ℕ → Retired
loaded pc word value = record { pc = pc; word = word; loaded = Some value; sc_ok = None }

abbrev pub tried : ℕ → ℕ → Bool → Retired
tried pc word ok = record { pc = pc; word = word; loaded = None; sc_ok = Some ok }

abbrev pub op : ℕ → ℕ → OpId
op hart place = record { hart = hart; place = place }

-- the trace of harts that all still run, with an empty log
abbrev pub trace : Initial → List (List Retired) → List OpId → History
trace image entries performed = record { image = image; line = Bytes16; entries = entries; statuses = map {B = Status} (λ (es : List Retired). Running) entries; performed = performed; log = [] }

-- the order is legal: the lists are runs, it has each operation once, and no code has a fault
pub record Passes (model : MemoryModel) (t : History) (order : List OpId) : Type 0 where
  pub run : are_runs t ≡ true
  pub whole : has_each_operation_once t order ≡ true
  pub legal : judged_legal model t order ≡ true
  pub no_fault : fault_in model t order ≡ None

-- it isn't: the fault has this code and this pair
pub record IsIllegal (model : MemoryModel) (t : History) (order : List OpId) (code : ℕ) (a b : OpId) : Type 0 where
  pub run : are_runs t ≡ true
  pub whole : has_each_operation_once t order ≡ true
  pub illegal : judged_legal model t order ≡ false
  pub fault : fault_in model t order ≡ Some (record { code = code; a = a; b = b })
