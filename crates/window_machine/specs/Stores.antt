-- What operations store.
use Rattle.std.specs.Prelude.{ℕ, ◌≡◌, ◌≤◌, ◌%◌, true}
use Rattle.elf_loader.specs.Size.{base}
use Rattle.memory_model.specs.Operations.{byte_of_number}
use Rattle.window_machine.specs.declared.memory.Store.{Store}
use Rattle.window_machine.specs.Lanes.{AreWhole, is_in_lanes}
use Rattle.window_model.specs.Waiting.{Waiting, stores_to, written_at}

-- w stores to these lanes of a word, and to no other byte
pub record StoresIn (word lanes : ℕ) (w : Waiting) : Type 0 where
  pub aligned : word % 4 ≡ 0
  pub whole : AreWhole lanes
  pub bytes : (x : ℕ) → stores_to x w ≡ is_in_lanes word lanes x

-- what w stores
pub record IsStoreOf (s : Store) (w : Waiting) : Type 0 where
  pub lanes : StoresIn s.word s.lanes w
  pub inside : base ≤ s.word
  pub values : (x : ℕ) → stores_to x w ≡ true → written_at w x ≡ byte_of_number s.word s.value x
