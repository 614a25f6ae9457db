-- What was read of standard input as it came.
use Rattle.std.proofs.Common.{ℕ, ◌≡◌, ◌++◌, ◌∙◌, [], Bool, Err, IfOk, IfSome, List, None, Ok, Option, Result, Some, ap, append_assoc, drop, false, length, refl, subst, sym, take}
use Rattle.std.specs.Prelude.{◌==◌}
use Rattle.std.specs.List.{list_any}
use Rattle.std.proofs.lemmas.List.{append-nil, take-append-drop}
use Rattle.std.specs.Io.KnownBytes.{Consumes, IsAtEnd}
use Rattle.check_command.specs.Messages.{IsMeantFault, IsUnlawful}
use Rattle.check_command.specs.Piped.{IsBeginning, IsBrokenBy, IsLogOf, IsLongFirstOf}
use Rattle.check_command.specs.declared.messages.MessageCheck.{MessageCheck}
use Rattle.check_command.specs.declared.messages.ReadLog.{ReadLog}
use Rattle.command_files.specs.Contents.{Contents, HasLongFirstLine, IsUnread}
use Rattle.command_files.specs.Faults.{IsReadFault, IsTextFault, Name}
use Rattle.command_files.specs.declared.fault.Fault.{Fault}
use Rattle.command_files.specs.declared.fault.Fault.TheVariants.{BadAddress, BadEvent, BytesAfterTrace, CannotMake, CannotRead, CannotShow, CannotWrite, Check, Configuration, Event, Image, Mismatch, NoThread, NothingHappens, OtherImage, OutOfMemory, Text, TooManyRows}

-- nothing yet
pub none_read : (known left : Option (List ℕ)) → IsUnread known left → Consumes known left []
none_read None left unread = tt
none_read (Some bytes) left unread = subst (λ (o : Option (List ℕ)). Consumes (Some bytes) o []) (sym unread) refl

-- all that there is
pub all_come : (known left : Option (List ℕ)) (bytes : List ℕ) → Consumes known left bytes → IsAtEnd left → IfSome known (λ of_file. of_file ≡ bytes)
all_come None left bytes taken ends = tt
all_come (Some of_file) None bytes taken ends = absurd taken
all_come (Some of_file) (Some left) bytes taken ends = taken ∙ ap (λ l. bytes ++ l) ends ∙ append-nil bytes

-- a first line that is too long for a text
pub long_first : (held : Contents) (name : List ℕ) (left : Option (List ℕ)) (bytes : List ℕ) → Consumes (held name) left bytes → IsLongFirstOf bytes → HasLongFirstLine held name
long_first held name left bytes taken (first, begins, size, ends) = go (held name) left taken
  where
    go : (known left : Option (List ℕ)) → Consumes known left bytes → IfSome known (λ of_file. (start : List ℕ) × (rest : List ℕ) × (of_file ≡ start ++ rest) × (length start ≡ 65536) × (list_any (λ byte. byte == 10) start ≡ false))
    go None left taken = tt
    go (Some of_file) None taken = absurd taken
    go (Some of_file) (Some left) taken = (first, begins.0 ++ left, taken ∙ ap (λ l. l ++ left) begins.1 ∙ append_assoc first begins.0 left, size, ends)

pub first_of : (n : ℕ) (bytes : List ℕ) → IsBeginning bytes (take n bytes)
first_of n bytes = (drop n bytes, sym (take-append-drop n bytes))

-- what is wrong with bytes that were handed on is wrong with those that were read
pub meant_of : (skip : Bool) (bytes source : List ℕ) (name : Name) (fault : Fault) → source ≡ bytes → IsMeantFault skip source name fault → IsMeantFault skip bytes name fault
meant_of skip bytes source name fault same told = subst (λ (b : List ℕ). IsMeantFault skip b name fault) same told

-- what was read is handed on by files that hold the same
pub handed_on : (held now : Contents) (name : List ℕ) (left : Option (List ℕ)) (bytes slice : List ℕ) → now ≡ held → slice ≡ bytes → Consumes (held name) left bytes → Consumes (now name) left slice
handed_on held now name left bytes slice spared same taken = subst (λ (h : Contents). Consumes (h name) left slice) (sym spared) (subst (λ (b : List ℕ). Consumes (held name) left b) (sym same) taken)

pub broken_found : (bytes slice : List ℕ) (check : MessageCheck) (found : Option ReadLog) (log : ReadLog) → slice ≡ bytes → found ≡ Some log → IfSome found (IsBrokenBy slice check) → IsBrokenBy bytes check log
broken_found bytes slice check found log same is broken =
    subst (λ (b : List ℕ). IsBrokenBy b check log) same (subst (λ (o : Option ReadLog). IfSome o (IsBrokenBy slice check)) is broken)

-- the lines that are whole are a beginning of the bytes
pub broken_in : {E : Type 0} (bytes lines : List ℕ) (check : MessageCheck) (r : Result (Option ReadLog) E) → IsBeginning bytes lines
    → IfOk r (λ found. IfSome found (λ log. IsLogOf check.skip lines log × IsUnlawful check.profile log.log)) → IfOk r (λ found. IfSome found (IsBrokenBy bytes check))
broken_in bytes lines check (Ok (Some log)) begins (is, unlawful) = (lines, begins, is, unlawful)
broken_in bytes lines check (Ok None) begins found = tt
broken_in bytes lines check (Err error) begins found = tt

-- a file that can't be read is no text
pub read_is_text : (held : Contents) (name : Name) (fault : Fault) → IsReadFault name fault → IsTextFault held name fault
read_is_text held name (CannotRead file) is = is
read_is_text held name OutOfMemory is = tt
read_is_text held name (Image file error) is = absurd is
read_is_text held name (Text file error) is = absurd is
read_is_text held name (CannotMake file) is = absurd is
read_is_text held name CannotWrite is = absurd is
read_is_text held name (Event file line error) is = absurd is
read_is_text held name (BytesAfterTrace file) is = absurd is
read_is_text held name (NothingHappens file line outcome) is = absurd is
read_is_text held name (Check file error) is = absurd is
read_is_text held name (OtherImage file address) is = absurd is
read_is_text held name (TooManyRows file) is = absurd is
read_is_text held name (BadAddress word) is = absurd is
read_is_text held name (CannotShow word cause) is = absurd is
read_is_text held name NoThread is = absurd is
read_is_text held name Mismatch is = absurd is
read_is_text held name BadEvent is = absurd is
read_is_text held name Configuration is = absurd is
