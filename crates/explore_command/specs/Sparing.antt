-- What a search reads, and doesn't write over.
use Rattle.std.specs.Prelude.{◌≢◌, ◌≤◌, ℕ, IfSome}
use Rattle.command_settings.specs.declared.wanted.Explore.{Explore}
use Rattle.explore_command.specs.Keeping.{FileName, failure_path, outcome_path, stuck_path}

-- the file isn't the program, by its name, nor the one with what is allowed
pub record IsOther (explore : Explore) (name : FileName) : Type 0 where
  pub program : name ≢ explore.image.now
  pub allowed : IfSome explore.allow (λ allow. name ≢ allow.now)

-- nor is a script of the first 1,000 outcomes and failures in this folder, nor that of what gets stuck
pub record AreOthers (explore : Explore) (folder : FileName) : Type 0 where
  pub outcomes : (number : ℕ) → 1 ≤ number → number ≤ 1000 → IsOther explore (outcome_path folder number)
  pub failures : (number : ℕ) → 1 ≤ number → number ≤ 1000 → IsOther explore (failure_path folder number)
  pub stuck : IsOther explore (stuck_path folder)
