-- What a file that is read as a log holds, and what is said of the log.
use Rattle.std.proofs.Common.{ℕ, ◌≡◌, ◌∙◌, ◌++◌, ◌⊎◌, ◌↔◌, [], Bool, Err, IfSome, List, None, Ok, Option, Some, ap, append_assoc, false, inl, inr, refl, subst, sym, true}
use Rattle.std.proofs.lemmas.List.{append-nil}
use Rattle.std.specs.Io.KnownBytes.{Consumes}
use Rattle.std.specs.Prelude.{IfErr, IfOk, Result}
use Rattle.std.specs.declared.alloc.AllocError.{AllocError}
use Rattle.check_command.proofs.Unread.{log_told, meant_is_not_write}
use Rattle.check_command.specs.Logs.{IsNoTextBy, IsTextFaultOf, IsVerdictOn, is_wide, memory_told}
use Rattle.check_command.specs.Messages.{BeginsWithLog, HoldsLog, IsLogFault, IsMeantFault, IsUnlawful, are_lawful_by, text_meant}
use Rattle.check_command.specs.declared.log.Log.{Log}
use Rattle.check_command.specs.Checking.{IsTraceFault}
use Rattle.check_command.specs.Piped.{IsBeginning, IsBrokenBy, IsLogOf, IsLogRead}
use Rattle.check_command.specs.declared.messages.MessageCheck.{MessageCheck}
use Rattle.check_command.specs.declared.messages.ReadLog.{ReadLog}
use Rattle.command_files.specs.Contents.{Contents, HoldsBytes, is_input}
use Rattle.command_files.specs.Faults.{Name}
use Rattle.command_files.specs.declared.fault.Fault.{Fault}
use Rattle.command_files.specs.declared.fault.Fault.TheVariants.{CannotWrite, OutOfMemory, Text}
use Rattle.elf_loader.specs.Image.{Initial}
use Rattle.log_text.specs.Ending.{ended}
use Rattle.log_text.specs.Laws.{IsVerdict}
use Rattle.log_text.specs.Meant.{meant}
use Rattle.log_text.specs.Names.{without_names}
use Rattle.log_text.specs.MessageVerdict.{MessageVerdict}
use Rattle.log_text.specs.MessageVerdict.TheVariants.{Lawful, Unlawful}
use Rattle.log_text.specs.Profile.{Profile}
use Rattle.trace_recorder.specs.History.{History}
use Rattle.trace_recorder.specs.declared.logged.Logged.{Logged}
use Rattle.trace_text.specs.declared.fault.TextCode.TheVariants.{NoMemory}
use Rattle.trace_text.specs.declared.fault.TextError.{TextError}
use Rattle.wide_logs.specs.Logs.{IsLogRefusal}

-- a log that was read of a file that begins with its text
read_of : (held : Contents) (name : List ℕ) (check : MessageCheck) (bytes : List ℕ) (read : ReadLog) → IsLogOf check.skip bytes read → IfSome (held name) (BeginsWithLog name check read.log bytes) → IsLogRead held name check read
read_of held name check bytes read (same, is_meant, is_text) begins = subst (λ (b : List ℕ). HoldsLog held name check read.log b × (read.meant.items ≡ meant check.skip b)) (sym same)
    (record { text = is_text; bytes = begins }, is_meant)

-- all that a file has was read
all_read : (name : List ℕ) (check : MessageCheck) (log : Log) (known : Option (List ℕ)) (bytes : List ℕ) → IfSome known (λ of_file. of_file ≡ bytes) → IfSome known (BeginsWithLog name check log bytes)
all_read name check log None bytes same = tt
all_read name check log (Some of_file) bytes same = ([], same ∙ sym (append-nil bytes), inl refl)

-- it is the text of the log that was read
pub log_held : (held : Contents) (name : List ℕ) (check : MessageCheck) (bytes : List ℕ) (r : Result ReadLog Fault) → HoldsBytes held name bytes → IfOk r (IsLogOf check.skip bytes) → IfOk r (IsLogRead held name check)
log_held held name check bytes (Ok read) same found = read_of held name check bytes read found (all_read name check read.log (held name) bytes same)
log_held held name check bytes (Err fault) same found = tt

pub logs_told : (held : Contents) (name : Name) (bytes : List ℕ) (skip : Bool) (r : Result ReadLog Fault) → HoldsBytes held name.now bytes → IfErr r (IsMeantFault skip bytes name) → IfErr r (IsLogFault held skip name)
logs_told held name bytes skip (Ok log) holds told = tt
logs_told held name bytes skip (Err fault) holds told = log_told held name bytes holds skip bytes fault refl told

pub logs_not_write : (name : Name) (bytes : List ℕ) (skip : Bool) (r : Result ReadLog Fault) → IfErr r (IsMeantFault skip bytes name) → IfErr r (λ fault. fault ≡ CannotWrite → ⊥)
logs_not_write name bytes skip (Ok log) told = tt
logs_not_write name bytes skip (Err fault) told = meant_is_not_write skip bytes name fault told

-- a beginning of standard input was read, in which a message breaks a rule
begun_by : (name : List ℕ) (check : MessageCheck) (log : Log) (known left : Option (List ℕ)) (bytes read : List ℕ) → is_input name ≡ true → check.all ≡ false → Consumes known left bytes
    → IsBeginning bytes read → IsUnlawful check.profile log → IfSome known (BeginsWithLog name check log read)
begun_by name check log None left bytes read input first taken begins unlawful = tt
begun_by name check log (Some of_file) None bytes read input first taken begins unlawful = absurd taken
begun_by name check log (Some of_file) (Some left) bytes read input first taken begins unlawful =
    (begins.0 ++ left, taken ∙ ap (λ l. l ++ left) begins.1 ∙ append_assoc read begins.0 left, inr (input, first, unlawful))

pub broken_held : (held : Contents) (name : List ℕ) (check : MessageCheck) (left : Option (List ℕ)) (bytes : List ℕ) (log : ReadLog) → is_input name ≡ true → check.all ≡ false → Consumes (held name) left bytes
    → IsBrokenBy bytes check log → IsLogRead held name check log
broken_held held name check left bytes log input first taken (read, begins, found, unlawful) =
    read_of held name check read log found (begun_by name check log.log (held name) left bytes read input first taken begins unlawful)

-- what is said of the memory and the log that are handed on is said of the trace
pub verdict_on : (ended : Bool) (profile : Profile) (t : History) (memory : Option Initial) (log : List Logged) (r : Result MessageVerdict AllocError) → memory ≡ memory_told t.image → log ≡ t.log → IfOk r (IsVerdict ended profile memory log) → IfOk r (IsVerdict ended profile (memory_told t.image) t.log)
verdict_on ended profile t memory log r of_memory of_log told = subst (λ (l : List Logged). IfOk r (IsVerdict ended profile (memory_told t.image) l)) of_log (subst (λ (m : Option Initial). IfOk r (IsVerdict ended profile m log)) of_memory told)

-- what is meant is what was read, where names were left out and the ends of harts told
pub text_read : (skip : Bool) (source of_source told read : List ℕ) → of_source ≡ meant skip source → told ≡ ended (without_names of_source) → read ≡ told → read ≡ text_meant skip source
text_read skip source of_source told read is_meant is_told is_read = is_read ∙ is_told ∙ ap (λ m. ended (without_names m)) is_meant

-- what is wrong with the text of a trace is wrong with a log's
pub trace_fault : (bytes : List ℕ) (name : Name) (fault : Fault) → is_wide bytes ≡ false → IsTraceFault bytes name fault → IsTextFaultOf bytes name fault
trace_fault bytes name fault narrow (inl (error, at, none)) = inl (error, at, subst (λ w. IsNoTextBy w bytes error) (sym narrow) none)
trace_fault bytes name fault narrow (inr rest) = inr rest

-- so is what is wrong with one that isn't a trace's
pub wide_fault : (bytes : List ℕ) (name : Name) (error : TextError) (fault : Fault) → is_wide bytes ≡ true → (fault ≡ Text name error) ⊎ (fault ≡ OutOfMemory) → (fault ≡ OutOfMemory) ↔ (error.code ≡ NoMemory)
    → IsLogRefusal bytes error → IsTextFaultOf bytes name fault
wide_fault bytes name error fault wide told memory (inl wanting) = inr (inr (memory.1 wanting))
wide_fault bytes name error fault wide (inl at) memory (inr refused) = inl (error, at, subst (λ w. IsNoTextBy w bytes error) (sym wide) refused)
wide_fault bytes name error fault wide (inr at) memory (inr refused) = inr (inr at)

-- a log that was found is one of the text
pub log_there : (skip : Bool) (lines : List ℕ) (found : Option ReadLog) (read : ReadLog) → found ≡ Some read → IfSome found (IsLogOf skip lines) → IsLogOf skip lines read
log_there skip lines found read is there = subst (λ (o : Option ReadLog). IfSome o (IsLogOf skip lines)) is there

-- by a verdict that isn't lawful a message breaks a rule
pub unlawful_by : (profile : Profile) (log : Log) (v : MessageVerdict) → IsVerdictOn false profile log v → are_lawful_by v ≡ false → IsUnlawful profile log
unlawful_by profile log Lawful judged other = absurd cc
unlawful_by profile log (Unlawful breach index) judged other = (breach, index, judged)
