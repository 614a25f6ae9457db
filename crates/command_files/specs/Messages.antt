-- The program's message for a fault, byte for byte.
use Rattle.std.specs.Prelude.{◌≡◌, ◌⊎◌, ℕ, ◌&&◌, ◌==◌, Bool, List, [], ◌++◌, IsTrue, Option, codes, decimal, nat_le, nat_lt, not}
use Rattle.std.specs.List.{list_all}
use Rattle.elf_loader.specs.Error.{load_error_number}
use Rattle.elf_loader.specs.declared.error.LoadError.{LoadError}
use Rattle.elf_loader.specs.declared.error.LoadError.TheVariants as loading
use Rattle.event_stream.specs.ApplyError.{ApplyError}
use Rattle.event_stream.specs.ApplyErrorVariants as applying
use Rattle.event_stream.specs.Applying.{apply_error_number}
use Rattle.event_stream.specs.Outcomes as outcomes
use Rattle.rvwmo_order.specs.Codes.{error_number}
use Rattle.rvwmo_order.specs.declared.error.CheckError.{CheckError}
use Rattle.rvwmo_order.specs.declared.error.CheckError.TheVariants as checking
use Rattle.text_fields.specs.Fields.{word}
use Rattle.text_fields.specs.Writing.{Begins}
use Rattle.trace_text.specs.Faults.{text_code_number}
use Rattle.trace_text.specs.declared.fault.TextCode.{TextCode}
use Rattle.trace_text.specs.declared.fault.TextCode.TheVariants as code
use Rattle.command_files.specs.Status.{status_of}
use Rattle.command_files.specs.declared.fault.Fault.{Fault}
use Rattle.command_files.specs.declared.fault.Fault.TheVariants.{BadAddress, BadEvent, BytesAfterTrace, CannotMake, CannotRead, CannotShow, CannotWrite, Check, Configuration, Event, Image, Mismatch, NoThread, NothingHappens, OtherImage, OutOfMemory, Text, TooManyRows}
use Rattle.command_files.specs.declared.fault.Unshown.{Unshown}
use Rattle.command_files.specs.declared.fault.Unshown.TheVariants.{Elsewhere, NoSymbol, NoWord}

-- ---- names of causes

abbrev pub load_error_name : LoadError → List ℕ
load_error_name loading.Short = codes "Short"
load_error_name loading.Magic = codes "Magic"
load_error_name loading.Class = codes "Class"
load_error_name loading.FileType = codes "FileType"
load_error_name loading.Machine = codes "Machine"
load_error_name loading.Flags = codes "Flags"
load_error_name loading.HeaderTable = codes "HeaderTable"
load_error_name loading.SegmentOutside = codes "SegmentOutside"
load_error_name loading.SegmentOverlap = codes "SegmentOverlap"
load_error_name loading.Entry = codes "Entry"
load_error_name loading.NoMemory = codes "NoMemory"

abbrev pub text_code_name : TextCode → List ℕ
text_code_name code.Header = codes "Header"
text_code_name code.Word = codes "Word"
text_code_name code.Fields = codes "Fields"
text_code_name code.Order = codes "Order"
text_code_name code.End = codes "End"
text_code_name code.NoMemory = codes "NoMemory"

abbrev pub apply_error_name : ApplyError → List ℕ
apply_error_name applying.BadEvent = codes "BadEvent"
apply_error_name applying.Limit = codes "Limit"
apply_error_name applying.NoMemory = codes "NoMemory"

abbrev pub check_error_name : CheckError → List ℕ
check_error_name checking.NotAnOrder = codes "NotAnOrder"
check_error_name checking.NotARun = codes "NotARun"
check_error_name checking.TooLong = codes "TooLong"
check_error_name checking.NoMemory = codes "NoMemory"

abbrev pub unshown_text : Unshown → List ℕ
unshown_text Elsewhere = codes "not with --sample: leave out one of them"
unshown_text NoSymbol = codes "no such symbol in IMAGE, and no number below 2^32: name another (nm lists them, none where -s linked it) or give an address"
unshown_text NoWord = codes "no aligned word of memory: choose a multiple of 4 from 0x80000000 to the end of --memory (hexadecimal stands behind 0x)"

-- ---- names of files

-- printable ASCII, but a backslash
abbrev pub is_plain_byte : ℕ → Bool
is_plain_byte byte = nat_le 32 byte && (nat_lt byte 127 && not (byte == 92))

-- a message has the name as it is
abbrev pub is_plain : List ℕ → Bool
is_plain name = list_all is_plain_byte name

-- what a message is about: a file, or a word of the command line
abbrev pub name_told : Fault → List ℕ
name_told (CannotRead file) = file.now
name_told (CannotMake file) = file.now
name_told (Image file error) = file.now
name_told (Text file error) = file.now
name_told (Event file line error) = file.now
name_told (NothingHappens file line outcome) = file.now
name_told (BytesAfterTrace file) = file.now
name_told (Check file error) = file.now
name_told (OtherImage file address) = file.now
name_told (TooManyRows file) = file.now
name_told (BadAddress name) = name.now
name_told (CannotShow name cause) = name.now
name_told _ = []

abbrev pub HasPlainName : Fault → Type 0
HasPlainName fault = IsTrue (is_plain (name_told fault))

-- ---- messages

-- a cause by its number and its name
abbrev pub numbered_cause : ℕ → List ℕ → List ℕ
numbered_cause number name = decimal number ++ (codes " " ++ name)

-- of a line, counted from 1
abbrev pub line_text : ℕ → List ℕ → List ℕ
line_text line text = codes ": line " ++ (decimal line ++ text)

abbrev pub fault_text : Fault → List ℕ
fault_text (CannotRead file) = codes "rvtl: " ++ (file.now ++ codes ": cannot read")
fault_text (CannotMake file) = codes "rvtl: " ++ (file.now ++ codes ": cannot write")
fault_text CannotWrite = codes "rvtl: cannot write"
fault_text (Image file error) = codes "rvtl: " ++ (file.now ++ (codes ": image fault " ++ numbered_cause (load_error_number error) (load_error_name error)))
fault_text (Text file error) = codes "rvtl: " ++ (file.now ++ line_text error.line (codes ": text fault " ++ numbered_cause (text_code_number error.code) (text_code_name error.code)))
fault_text (Event file line error) = codes "rvtl: " ++ (file.now ++ line_text line (codes ": event fault " ++ numbered_cause (apply_error_number error) (apply_error_name error)))
fault_text (NothingHappens file line outcome) = codes "rvtl: " ++ (file.now ++ line_text line (codes ": nothing happens: " ++ outcomes.name outcome))
fault_text (BytesAfterTrace file) = codes "rvtl: " ++ (file.now ++ codes ": bytes after the trace")
fault_text (Check file error) = codes "rvtl: " ++ (file.now ++ (codes ": check fault " ++ numbered_cause (error_number error) (check_error_name error)))
fault_text (OtherImage file address) = codes "rvtl: " ++ (file.now ++ (codes ": the trace of another image: the word at " ++ (word address ++ codes " differs")))
fault_text (TooManyRows file) = codes "rvtl: " ++ (file.now ++ codes ": too much to draw (400 rows, or 65535 lines of text, at most): choose less by --line, or by a shorter script")
fault_text (BadAddress name) = codes "rvtl: --line " ++ (name.now ++ codes ": no address: give one in decimal, or in hexadecimal behind 0x")
fault_text (CannotShow name cause) = codes "rvtl: --show " ++ (name.now ++ (codes ": " ++ unshown_text cause))
fault_text NoThread = codes "rvtl: cannot start a thread"
fault_text Mismatch = codes "rvtl: fabric mismatch"
fault_text BadEvent = codes "rvtl: bad event"
fault_text Configuration = codes "rvtl: bad configuration"
fault_text OutOfMemory = codes "rvtl: out of memory"

abbrev pub fault_line : Fault → List ℕ
fault_line fault = fault_text fault ++ codes "\n"

-- standard error took no more than a beginning of the message; of a name with other bytes no more is known than that it is escaped
abbrev pub IsToldOf : Fault → (before after : Option (List ℕ)) → Type 0
IsToldOf fault before after = HasPlainName fault → Begins before after (fault_line fault)

-- standard output took no more, which has this status, and that was told
pub record IsLost (before after : Option (List ℕ)) (status : ℕ) : Type 0 where
  pub fault : Fault
  pub lost : (fault ≡ CannotWrite) ⊎ (fault ≡ OutOfMemory)
  pub told : IsToldOf fault before after
  pub of_status : status ≡ status_of fault
