-- A test's program.
use Rattle.std.specs.Prelude.{ℕ, ◌≡◌, ◌⊎◌, ◌<◌, ◌≤◌, false, Contains, List, Ok, length}
use Rattle.std.specs.Int.{to_le_bytes, w32}
use Rattle.std.specs.List.{flat_map}
use Rattle.elf_loader.specs.Raw.{raw_answer}
use Rattle.architecture_outcomes.specs.Words.{CanShow, CanShowEach}
use Rattle.elf_loader.specs.Image.{Initial}
use Rattle.litmus_answers.specs.declared.layout.Layout.{Layout}
use Rattle.litmus_command.specs.declared.fault.Halt.{Halt}
use Rattle.litmus_command.specs.declared.fault.Halt.TheVariants as halt
use Rattle.litmus_command.specs.declared.program.Program.{Program}
use Rattle.machine_types.specs.Config.{is_within_limits}
use Rattle.machine_types.specs.declared.config.Config.{Config}
use Rattle.machine_types.specs.declared.model.MemoryModel.{MemoryModel}
use Rattle.tl_types.specs.declared.line.LineSize.TheVariants.{Bytes16}

-- the words' bytes, of each the lowest first
abbrev pub bytes_of : List ℕ → List ℕ
bytes_of = flat_map (to_le_bytes w32)

-- the machine has so many harts, with caches of 4 sets of 2 lines of 16 bytes, and keeps this model
pub record IsMachine (harts : ℕ) (model : MemoryModel) (config : Config) : Type 0 where
  pub harts_are : config.harts ≡ harts
  pub sets : config.sets ≡ 4
  pub ways : config.ways ≡ 2
  pub line : config.line ≡ Bytes16
  pub model_is : config.model ≡ model

-- the image is the test's words in 64 KiB, its memory has the locations that are told, and the machine is of the test's harts and of this model
pub record IsProgram (harts : ℕ) (model : MemoryModel) (layout : Layout) (p : Program) : Type 0 where
  pub image : raw_answer (bytes_of layout.words.items) 65536 ≡ Ok p.image
  pub shows : CanShowEach p.image layout.addresses.items
  pub machine : IsMachine harts model p.config

-- ---- why there is none

-- the words don't fit into 64 KiB; or they do, and memory was refused
abbrev pub IsNoImage : (words : List ℕ) → Halt → Type 0
IsNoImage words halt.Unfit = 16384 < length words
IsNoImage words halt.NoMemory = length words ≤ 16384
IsNoImage words (halt.Stops hart cause) = ⊥

-- one of the addresses is none of an aligned word of the image's memory
pub record HidesOne (image : Initial) (addresses : List ℕ) : Type 0 where
  pub address : ℕ
  pub listed : Contains addresses address
  pub hidden : CanShow image address → ⊥

abbrev pub HasHidden : Layout → Type 0
HasHidden layout = (image : Initial) × (raw_answer (bytes_of layout.words.items) 65536 ≡ Ok image) × HidesOne image layout.addresses.items

-- no machine has so many harts, or the words don't fit, or they haven't all locations; or memory was refused, of harts and words that do fit
abbrev pub IsNoProgram : (harts : ℕ) → Layout → Halt → Type 0
IsNoProgram harts layout halt.Unfit = (is_within_limits harts 4 2 ≡ false) ⊎ (16384 < length layout.words.items) ⊎ HasHidden layout
IsNoProgram harts layout halt.NoMemory = length layout.words.items ≤ 16384
IsNoProgram harts layout (halt.Stops hart cause) = ⊥
