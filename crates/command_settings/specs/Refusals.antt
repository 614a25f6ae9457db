-- When the program's words are refused, as the kit lists the kinds of error that the words may give.
use Rattle.std.specs.Prelude.{◌≡◌, ◌≢◌, ◌⊎◌, [], List}
use Rattle.clap.specs.Words.{App, IsAmong, Kinds, Text, fault_of, kind_of}
use Rattle.clap.specs.declared.error.Error.{Error}
use Rattle.clap.specs.declared.error.kind.ErrorKind.{ErrorKind}
use Rattle.clap.specs.declared.error.kind.ErrorKind.TheVariants.{ArgumentConflict, DisplayHelp, DisplayVersion, OutOfMemory}
use Rattle.command_settings.specs.Settings.{AreConflicting, IsNamed}
use Rattle.command_settings.specs.Usage.{IsUsage}
use Rattle.command_settings.specs.declared.wanted.Settings.{Settings}
use Rattle.command_settings.specs.declared.wanted.SettingsError.{SettingsError}
use Rattle.command_settings.specs.declared.wanted.SettingsError.TheVariants.{NoMemory, Usage}

-- want of memory is told as that, and each other error as it is
abbrev pub TellsError : Error → SettingsError → Type 0
TellsError error NoMemory = kind_of error ≡ OutOfMemory
TellsError error (Usage told) = (kind_of error ≢ OutOfMemory) × (told ≡ error)

-- P holds of the kinds of error that the words, the first of which is the program's name, may give by the usage: none where they fit
abbrev pub HasKinds : List Text → (Kinds → Type 0) → Type 0
HasKinds words P = (app : App) × IsUsage app × P (fault_of app words)

abbrev pub IsFitting : List Text → Type 0
IsFitting words = HasKinds words (λ kinds. kinds ≡ [])

-- the words fit the usage, and the settings that they name don't go together
abbrev pub HasConflicting : List Text → Type 0
HasConflicting words = (wanted : Settings) × IsNamed words wanted × IsFitting words × AreConflicting wanted

-- memory ran out, or the error is of a kind that the words may give, or tells that their settings don't go together
abbrev pub IsRefused : List Text → SettingsError → Type 0
IsRefused words NoMemory = Unit {0}
IsRefused words (Usage error) = HasKinds words (IsAmong (kind_of error)) ⊎ ((kind_of error ≡ ArgumentConflict) × HasConflicting words)

-- memory ran out, or the error tells that the settings don't go together
abbrev pub TellsConflict : Settings → SettingsError → Type 0
TellsConflict wanted NoMemory = Unit {0}
TellsConflict wanted (Usage error) = (kind_of error ≡ ArgumentConflict) × AreConflicting wanted

abbrev pub IsHelp : ErrorKind → Type 0
IsHelp kind = (kind ≡ DisplayHelp) ⊎ (kind ≡ DisplayVersion)

-- the words ask for a text about the program
abbrev pub IsForHelp : List Text → Type 0
IsForHelp words = HasKinds words (λ kinds. (kind : ErrorKind) × IsAmong kind kinds × IsHelp kind)

-- the words may be refused by the usage: another kind than help is listed (after the word `help` both are)
abbrev pub IsUnfit : List Text → Type 0
IsUnfit words = HasKinds words (λ kinds. (kind : ErrorKind) × IsAmong kind kinds × (¬ IsHelp kind))
