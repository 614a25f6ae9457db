-- Small plays of the flat machine: which reservations an access ends, when a store conditional fails, and what a waiting store shows.
use Rattle.std.specs.Prelude.{ℕ, ◌≡◌, refl, List, [], ◌∷◌, Option, Some, None, IsTrue, slice_index}
use Rattle.machine_model.specs.Image.{Initial}
use Rattle.machine_model.specs.Size.{base}
use Rattle.flat_model.specs.declared.event.FlatEvent.{FlatEvent}
use Rattle.flat_model.specs.declared.event.FlatEvent.TheVariants.{Step, Drain, Fail}
use Rattle.flat_model.specs.Events.{IsBad, Keeps, after_events, verdict}
use Rattle.flat_model.specs.Flat.{Flat, node_at, opening, word_in}
use Rattle.machine_types.specs.Config.{is_within_limits}
use Rattle.machine_types.specs.declared.config.Config.{Config}
use Rattle.machine_types.specs.declared.outcome.Outcome.TheVariants.{MustDrain, NoEntry}
use Rattle.machine_model.specs.Words.{number_of_bytes}
use Rattle.machine_model.specs.Examples.{bytes_of_words}
use Rattle.machine_types.specs.declared.model.MemoryModel.TheVariants.{Rvwmo}
use Rattle.tl_types.specs.declared.line.LineSize.TheVariants.{Bytes16}

-- ---- two harts that run one program, over lines of 16 bytes in one set

abbrev pub program : List ℕ → Initial
program words = record { bytes = bytes_of_words words; entry = base }

pub narrow_within : IsTrue (is_within_limits 2 1 1)
unfolding lib.Count.ones
narrow_within = refl

pub wide_within : IsTrue (is_within_limits 2 1 2)
unfolding lib.Count.ones
wide_within = refl

-- one line in the set
abbrev pub narrow : Config
narrow = record { harts = 2; sets = 1; ways = 1; line = Bytes16; model = Rvwmo; within = narrow_within }

-- two of them
abbrev pub wide : Config
wide = record { harts = 2; sets = 1; ways = 2; line = Bytes16; model = Rvwmo; within = wide_within }

abbrev pub played : Config → Initial → List FlatEvent → Flat
played config image events = after_events (opening image config) events

abbrev pub reserved : Flat → ℕ → Option ℕ
reserved f h = (node_at f h).reserved

abbrev pub register : Flat → (hart number : ℕ) → ℕ
register f h r = slice_index (node_at f h).hart.regs r

abbrev pub word_of_memory : Flat → ℕ → ℕ
word_of_memory f address = number_of_bytes (word_in f.memory address)

-- ---- a load takes its word from a store that waits, and memory has it when the store drains
-- auipc x5, 0; sw x5, 0(x5); lw x6, 0(x5)

abbrev pub buffering : Initial
buffering = program (0x00000297 ∷ 0x0052a023 ∷ 0x0002a303 ∷ [])

abbrev pub waiting : List FlatEvent
waiting = Step 0 ∷ Step 0 ∷ Step 0 ∷ []

pub record Buffering : Type 0 where
  pub forwarded : register (played wide buffering waiting) 0 6 ≡ 0x80000000
  pub unwritten : word_of_memory (played wide buffering waiting) base ≡ 0x00000297
  pub other_hart : register (played wide buffering (Step 0 ∷ Step 0 ∷ Step 1 ∷ Step 1 ∷ Step 1 ∷ Drain 1 base ∷ [])) 1 6 ≡ 0x80000000
  pub written : word_of_memory (played wide buffering (Step 0 ∷ Step 0 ∷ Drain 0 base ∷ [])) base ≡ 0x80000000
  pub no_entry : verdict (played wide buffering (Step 0 ∷ [])) (Drain 0 base) ≡ Keeps NoEntry
  pub no_failure : verdict (played wide buffering (Step 0 ∷ [])) (Fail 0) ≡ IsBad

-- ---- another hart's access of the line ends a reservation: of two SCs one succeeds, and one fails
-- auipc x5, 0; lr.w x6, (x5); sc.w x7, x0, (x5)

abbrev pub pairs : Initial
pairs = program (0x00000297 ∷ 0x1002a32f ∷ 0x1802a3af ∷ [])

abbrev pub both_reserve : List FlatEvent
both_reserve = Step 0 ∷ Step 0 ∷ Step 1 ∷ Step 1 ∷ []

-- auipc x5, 0; lw x6, 0(x5); lr.w x6, (x5)

abbrev pub loading : Initial
loading = program (0x00000297 ∷ 0x0002a303 ∷ 0x1002a32f ∷ [])

pub record Pairs : Type 0 where
  pub ended : reserved (played wide pairs both_reserve) 0 ≡ None
  pub kept : reserved (played wide pairs both_reserve) 1 ≡ Some base
  -- a load does that too
  pub by_load : reserved (played wide loading (Step 0 ∷ Step 0 ∷ Step 0 ∷ Step 1 ∷ Step 1 ∷ [])) 0 ≡ None
  pub fails : register (played wide pairs (Step 0 ∷ Step 0 ∷ Step 1 ∷ Step 1 ∷ Step 0 ∷ [])) 0 7 ≡ 1
  pub writes : word_of_memory (played wide pairs (Step 0 ∷ Step 0 ∷ Step 1 ∷ Step 1 ∷ Step 1 ∷ [])) base ≡ 0
  pub succeeds : register (played wide pairs (Step 0 ∷ Step 0 ∷ Step 0 ∷ [])) 0 7 ≡ 0
  -- a failure needs no cause
  pub gives_up : register (played wide pairs (Step 0 ∷ Step 0 ∷ Fail 0 ∷ [])) 0 7 ≡ 1
  pub leaves : word_of_memory (played wide pairs (Step 0 ∷ Step 0 ∷ Fail 0 ∷ [])) base ≡ 0x00000297

-- ---- a load of another line of the set ends the hart's own reservation where the set holds one line
-- auipc x5, 0; lr.w x6, (x5); lw x6, 16(x5)
-- auipc x5, 0; lw x6, 16(x5); lr.w x6, (x5)

abbrev pub rivals : Initial
rivals = program (0x00000297 ∷ 0x1002a32f ∷ 0x0102a303 ∷ 0 ∷ 0 ∷ [])

abbrev pub rival_first : Initial
rival_first = program (0x00000297 ∷ 0x0102a303 ∷ 0x1002a32f ∷ 0 ∷ 0 ∷ [])

pub record Rivals : Type 0 where
  pub one_way : reserved (played narrow rivals (Step 0 ∷ Step 0 ∷ Step 0 ∷ [])) 0 ≡ None
  pub two_ways : reserved (played wide rivals (Step 0 ∷ Step 0 ∷ Step 0 ∷ [])) 0 ≡ Some base
  -- another hart's load of that line ends nothing
  pub another : reserved (played narrow rival_first (Step 0 ∷ Step 0 ∷ Step 0 ∷ Step 1 ∷ Step 1 ∷ [])) 0 ≡ Some base

-- ---- a load wholly from the buffer ends nothing, and the drain does
-- auipc x5, 0; lr.w x6, (x5); sw x5, 0(x5); lw x6, 0(x5)

abbrev pub own_store : Initial
own_store = program (0x00000297 ∷ 0x1002a32f ∷ 0x0052a023 ∷ 0x0002a303 ∷ [])

abbrev pub loaded_over : List FlatEvent
loaded_over = Step 0 ∷ Step 0 ∷ Step 0 ∷ Step 1 ∷ Step 1 ∷ Step 0 ∷ []

pub record OwnStore : Type 0 where
  pub from_buffer : register (played wide own_store loaded_over) 0 6 ≡ 0x80000000
  pub stays : reserved (played wide own_store loaded_over) 1 ≡ Some base
  pub drain_ends : reserved (played wide own_store (Step 0 ∷ Step 0 ∷ Step 0 ∷ Step 1 ∷ Step 1 ∷ Drain 0 base ∷ [])) 1 ≡ None

-- ---- without its reservation an SC fails at once, though its own store waits; with it, it waits
-- auipc x5, 0; sw x5, 0(x5); sc.w x7, x0, (x5)
-- auipc x5, 0; lr.w x6, (x5); sw x5, 0(x5); sc.w x7, x0, (x5)

abbrev pub late : Initial
late = program (0x00000297 ∷ 0x0052a023 ∷ 0x1802a3af ∷ [])

abbrev pub held_up : Initial
held_up = program (0x00000297 ∷ 0x1002a32f ∷ 0x0052a023 ∷ 0x1802a3af ∷ [])

pub record HeldUp : Type 0 where
  pub at_once : register (played wide late (Step 0 ∷ Step 0 ∷ Step 0 ∷ [])) 0 7 ≡ 1
  pub waits : verdict (played wide held_up (Step 0 ∷ Step 0 ∷ Step 0 ∷ [])) (Step 0) ≡ Keeps MustDrain
  pub fails : register (played wide held_up (Step 0 ∷ Step 0 ∷ Step 0 ∷ Fail 0 ∷ [])) 0 7 ≡ 1

pub record Plays : Type 0 where
  pub buffering : Buffering
  pub pairs : Pairs
  pub rivals : Rivals
  pub own_store : OwnStore
  pub held_up : HeldUp
