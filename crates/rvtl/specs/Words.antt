-- When the program's words are told otherwise than they were given.
use Rattle.std.specs.Prelude.{◌≢◌, ℕ, List}
use Rattle.command_settings.specs.Refusals.{IsRefused}
use Rattle.command_settings.specs.declared.wanted.SettingsError.{SettingsError}
use Rattle.command_settings.specs.declared.wanted.SettingsError.TheVariants.{NoMemory}

-- the usage refuses the words, or their settings don't go together
abbrev pub AreRefused : List (List ℕ) → Type 0
AreRefused words = (error : SettingsError) × (error ≢ NoMemory) × IsRefused words error
