-- A log that is read from standard input as it comes.
use Rattle.std.specs.Prelude.{ℕ, ◌≡◌, ◌++◌, ◌==◌, Bool, false, List, length}
use Rattle.std.specs.List.{list_any}
use Rattle.check_command.specs.Logs.{IsText}
use Rattle.check_command.specs.Messages.{HoldsLog, IsUnlawful, text_meant}
use Rattle.check_command.specs.declared.messages.ReadLog.{ReadLog}
use Rattle.check_command.specs.declared.messages.MessageCheck.{MessageCheck}
use Rattle.check_command.specs.declared.piped.Piped.{Piped}
use Rattle.check_command.specs.declared.piped.Piped.TheVariants.{Broken, Whole}
use Rattle.command_files.specs.Contents.{Contents, HoldsBytes}
use Rattle.log_text.specs.Meant.{meant}

-- the log was read of this text, which stands for it
abbrev pub IsLogOf : (skip : Bool) → List ℕ → ReadLog → Type 0
IsLogOf skip source read = (read.bytes.items ≡ source) × (read.meant.items ≡ meant skip source) × IsText (text_meant skip source) read.log

-- they begin with these
abbrev pub IsBeginning : (bytes first : List ℕ) → Type 0
IsBeginning bytes first = (rest : List ℕ) × (bytes ≡ first ++ rest)

-- the bytes begin with such a text, and a message of the log breaks a rule
abbrev pub IsBrokenBy : List ℕ → MessageCheck → ReadLog → Type 0
IsBrokenBy bytes check log = (read : List ℕ) × IsBeginning bytes read × IsLogOf check.skip read log × IsUnlawful check.profile log.log

-- no line ends in the first 65536 of these bytes
abbrev pub IsLongFirstOf : List ℕ → Type 0
IsLongFirstOf bytes = (first : List ℕ) × IsBeginning bytes first × (length first ≡ 65536) × (list_any (λ byte. byte == 10) first ≡ false)

-- the log was read of the file
abbrev pub IsLogRead : Contents → (name : List ℕ) → MessageCheck → ReadLog → Type 0
IsLogRead held name check read = HoldsLog held name check read.log read.bytes.items × (read.meant.items ≡ meant check.skip read.bytes.items)

-- all of the file was read, or as much as has a message that breaks a rule
abbrev pub HasPiped : Contents → (name : List ℕ) → MessageCheck → Piped → Type 0
HasPiped held name check (Whole bytes) = HoldsBytes held name bytes.items
HasPiped held name check (Broken read) = IsLogRead held name check read
