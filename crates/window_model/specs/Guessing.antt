-- What a load may read when it is fetched, before it is known when it will be placed: the bytes of a memory that was seen, under some of its hart's stores that wait.
use Rattle.std.specs.Prelude.{ℕ, ◌≡◌, ◌⊎◌, Bool, true, List, [], ◌∷◌, Some, slice_get, take}
use Rattle.hart.specs.declared.retired.Retired.{Retired}
use Rattle.machine_types.specs.declared.model.MemoryModel.{MemoryModel}
use Rattle.memory_model.specs.declared.operation.Operation.{Operation}
use Rattle.memory_model.specs.Operations as operation
use Rattle.memory_model.specs.Operations.{reads}
use Rattle.window_model.specs.Fetching.{fetched, operation_of}
use Rattle.window_model.specs.Nodes.{Node}
use Rattle.window_model.specs.Placing.{byte_seen}
use Rattle.window_model.specs.Systems.{System}
use Rattle.window_model.specs.Waiting.{Waiting, read_at, touches}

-- some elements of a list, in its order
abbrev pub AreSome : {X : Type 0} → List X → List X → Type 0
AreSome [] ys = Unit {0}
AreSome (x ∷ xs) [] = ⊥
AreSome (x ∷ xs) (y ∷ ys) = ((x ≡ y) × AreSome xs ys) ⊎ AreSome (x ∷ xs) ys

-- b reads so, where these wait before it
pub record IsGuess (seen : (ℕ → ℕ) → Bool) (window : List Waiting) (b : Operation) : Type 0 where
  pub memory : ℕ → ℕ
  pub was_seen : seen memory ≡ true
  pub waiting : List Waiting
  pub some : AreSome waiting window
  pub value : (x : ℕ) → operation.touches x b ≡ true → operation.read_at b x ≡ byte_seen memory waiting x

-- where the next instruction reads, it does
abbrev pub GuessesAt : (seen : (ℕ → ℕ) → Bool) → Node → Retired → Type 0
GuessesAt seen n entry = (b : Operation) → operation_of n.hart entry ≡ Some b → reads b.kind ≡ true → IsGuess seen n.window b

-- each instruction of a list does
abbrev pub GuessEach : MemoryModel → (seen : (ℕ → ℕ) → Bool) → Node → List Retired → Type 0
GuessEach model seen n [] = Unit {0}
GuessEach model seen n (entry ∷ rest) = GuessesAt seen n entry × GuessEach model seen (fetched model n entry) rest

-- each load that waits would read what it has guessed, if it were placed now, whatever it waits for
pub record IsFulfilled (memory : ℕ → ℕ) (n : Node) : Type 0 where
  pub value : (k : ℕ) (w : Waiting) → slice_get n.window k ≡ Some w → reads w.kind ≡ true → (x : ℕ) → touches x w ≡ true → read_at w x ≡ byte_seen memory (take k n.window) x

-- at each hart
abbrev pub AreFulfilled : System → Type 0
AreFulfilled s = (h : ℕ) (n : Node) → slice_get s.nodes h ≡ Some n → IsFulfilled s.memory n
