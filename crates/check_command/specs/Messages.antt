-- What a check of messages has done.
use Rattle.std.specs.Io.KnownBytes.{Appends}
use Rattle.std.specs.Prelude.{◌≡◌, ◌⊎◌, ◌++◌, [], ℕ, Bool, true, false, IfSome, IsTrue, List, None, Option, Some, if◌then◌else◌}
use Rattle.command_files.specs.Faults.{IsLongFirst, Name}
use Rattle.check_command.specs.Breaches.{BeginsLines, IsBreachLine, breaches_told}
use Rattle.check_command.specs.Checking.{GoOnBehindATrace}
use Rattle.check_command.specs.Logs.{AreBreachesIn, IsNoText, IsText, IsVerdictOn, unwritten_in}
use Rattle.check_command.specs.declared.log.Log.{Log}
use Rattle.check_command.specs.declared.messages.MessageCheck.{MessageCheck}
use Rattle.command_files.specs.Contents.{Contents, is_input}
use Rattle.command_files.specs.declared.fault.Fault.TheVariants.{BytesAfterTrace, CannotRead, CannotWrite, OutOfMemory, Text}
use Rattle.command_files.specs.declared.fault.Fault.{Fault}
use Rattle.command_files.specs.Messages.{is_plain}
use Rattle.log_text.specs.Ending as ending
use Rattle.log_text.specs.Meant.{meant, source_line}
use Rattle.log_text.specs.Names.{without_names}
use Rattle.log_text.specs.Verdicts.{told_text}
use Rattle.log_text.specs.FoundBreaches.{Breaches}
use Rattle.log_text.specs.MessageBreach.{MessageBreach}
use Rattle.log_text.specs.MessageBreach.TheVariants.{Unanswered, Unwritten}
use Rattle.log_text.specs.MessageVerdict.{MessageVerdict}
use Rattle.log_text.specs.MessageVerdict.TheVariants.{Lawful, Unlawful}
use Rattle.log_text.specs.Profile.{Profile}
use Rattle.log_text.specs.declared.place.LogText.{LogText}
use Rattle.text_fields.specs.Writing.{Begins}
use Rattle.trace_text.specs.declared.fault.TextError.{TextError}
use Rattle.written_lines.specs.declared.checking.Unwritten.{Unwritten as FoundByte}

-- the log's text that a file stands for: the messages by which harts came to hold what S lines say, no message that is to be skipped, each without its name, and the lines that say how its harts ended, which may be left out, where all still run
abbrev pub text_meant : (skip : Bool) → List ℕ → List ℕ
text_meant skip bytes = ending.ended (without_names (meant skip bytes))

-- a message of the log breaks a rule of the profile
abbrev pub IsUnlawful : Profile → Log → Type 0
IsUnlawful profile log = (breach : MessageBreach) × (index : ℕ) × IsVerdictOn false profile log (Unlawful breach index)

-- nothing stands behind what was read, or it was read of standard input as it came, until a message broke a rule, and not all that do were asked for
abbrev pub IsReadFar : (name : List ℕ) → MessageCheck → Log → (rest : List ℕ) → Type 0
IsReadFar name check log rest = (rest ≡ []) ⊎ ((is_input name ≡ true) × (check.all ≡ false) × IsUnlawful check.profile log)

-- a file of these bytes begins with what was read, and no more of it has to be read
abbrev pub BeginsWithLog : (name : List ℕ) → MessageCheck → Log → (read known : List ℕ) → Type 0
BeginsWithLog name check log read known = (rest : List ℕ) × (known ≡ read ++ rest) × IsReadFar name check log rest

-- what was read of the file is the text of this log, but for names, for what is held at the start, and for what is skipped, and nothing else of it has to be read
pub record HoldsLog (held : Contents) (name : List ℕ) (check : MessageCheck) (log : Log) (read : List ℕ) : Type 0 where
  pub text : IsText (text_meant check.skip read) log
  pub bytes : IfSome (held name) (BeginsWithLog name check log read)

abbrev pub is_unanswered : MessageBreach → Bool
is_unanswered Unanswered = true
is_unanswered _ = false

-- no message breaks a rule of messages, by a verdict on them: at most an answer is missing
abbrev pub are_lawful_by : MessageVerdict → Bool
are_lawful_by Lawful = true
are_lawful_by (Unlawful breach index) = is_unanswered breach

-- then a byte that a hart sends, and neither was granted nor wrote, is told first
abbrev pub with_unwritten : Option FoundByte → MessageVerdict → MessageVerdict
with_unwritten None verdict = verdict
with_unwritten (Some found) verdict = if are_lawful_by verdict then Unlawful (Unwritten found.address) found.index else verdict

-- the verdict on a log whose messages have ended or may go on
pub record IsLogVerdict (ended : Bool) (profile : Profile) (log : Log) (verdict : MessageVerdict) : Type 0 where
  pub by_messages : MessageVerdict
  pub judged : IsVerdictOn ended profile log by_messages
  pub told : verdict ≡ with_unwritten (unwritten_in log) by_messages

-- the breaches of the log, where they are asked for
abbrev pub AreListed : (all : Bool) → Profile → Log → Option Breaches → Type 0
AreListed true profile log (Some breaches) = AreBreachesIn profile log breaches
AreListed true profile log None = ⊥
AreListed false profile log breaches = breaches ≡ None

-- what was appended is the verdict on the log in the file by the profile's rules, or all breaches of its messages
pub record IsLogJudged (held : Contents) (name : List ℕ) (check : MessageCheck) (verdict : MessageVerdict) (old new : Option (List ℕ)) : Type 0 where
  pub log : Log
  pub read : List ℕ
  pub breaches : Option Breaches
  pub file : HoldsLog held name check log read
  pub judged : IsLogVerdict check.ended check.profile log verdict
  pub listed : AreListed check.all check.profile log breaches
  pub printed : Appends old new (told_text verdict breaches)

-- the output took no more than a beginning of that
pub record IsLogCutOff (held : Contents) (name : List ℕ) (check : MessageCheck) (old new : Option (List ℕ)) : Type 0 where
  pub log : Log
  pub read : List ℕ
  pub verdict : MessageVerdict
  pub breaches : Option Breaches
  pub file : HoldsLog held name check log read
  pub judged : IsLogVerdict check.ended check.profile log verdict
  pub listed : AreListed check.all check.profile log breaches
  pub begun : Begins old new (told_text verdict breaches)

-- the text is what was read, with what that stands for
pub record IsTextOf (skip : Bool) (read : List ℕ) (text : LogText) : Type 0 where
  pub source : text.source.now ≡ read
  pub skipped : text.skip ≡ skip
  pub meant : text.meant.now ≡ meant skip read

-- standard error has the line of each message of the file that is told to break a rule, or, where it takes no more, a beginning of these lines
pub record AreObjected (held : Contents) (name : List ℕ) (check : MessageCheck) (verdict : MessageVerdict) (before after : Option (List ℕ)) : Type 0 where
  pub log : Log
  pub read : List ℕ
  pub text : LogText
  pub breaches : Option Breaches
  pub file : HoldsLog held name check log read
  pub judged : IsLogVerdict check.ended check.profile log verdict
  pub listed : AreListed check.all check.profile log breaches
  pub of_file : IsTextOf check.skip read text
  pub told : IsTrue (is_plain name) → BeginsLines (IsBreachLine check.profile log text name) (breaches_told verdict breaches) before after

-- a refusal of what is meant, at the line of the file that stands for it
abbrev pub at_source : (skip : Bool) → List ℕ → TextError → TextError
at_source skip source error = record { line = source_line skip source error.line; code = error.code; cause = error.cause }

abbrev pub sourced : (skip : Bool) → List ℕ → Fault → Fault
sourced skip source (Text file error) = Text file (at_source skip source error)
sourced skip source fault = fault

-- the bytes of a file stand for no log's text: what they mean is none, or goes on behind a trace; or memory ran out
abbrev pub IsMeantFault : (skip : Bool) → List ℕ → Name → Fault → Type 0
IsMeantFault skip source name fault =
    ((error : TextError) × (fault ≡ Text name (at_source skip source error)) × IsNoText (text_meant skip source) error)
    ⊎ ((fault ≡ BytesAfterTrace name) × GoOnBehindATrace (text_meant skip source)) ⊎ (fault ≡ OutOfMemory)

-- what the file means is no log's text, or already its first line is longer than that of any text
abbrev pub IsNoLog : Contents → (skip : Bool) → List ℕ → TextError → Type 0
IsNoLog held skip name error = IsLongFirst held name error ⊎ IfSome (held name) (λ known. (there : TextError) × (error ≡ at_source skip known there) × IsNoText (text_meant skip known) there)

-- the file can't be read, what it means is no log, or goes on behind the trace: a log is lawful or not, and isn't refused
abbrev pub IsLogFault : Contents → (skip : Bool) → Name → Fault → Type 0
IsLogFault held skip name (CannotRead file) = file ≡ name
IsLogFault held skip name (Text file error) = (file ≡ name) × IsNoLog held skip name.now error
IsLogFault held skip name (BytesAfterTrace file) = (file ≡ name) × IfSome (held name.now) (λ known. GoOnBehindATrace (text_meant skip known))
IsLogFault held skip name CannotWrite = Unit {0}
IsLogFault held skip name OutOfMemory = Unit {0}
IsLogFault held skip name _ = ⊥
