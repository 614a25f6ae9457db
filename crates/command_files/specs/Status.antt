-- With which status the program ends where something went wrong, and which fault a stream's error is.
use Rattle.std.specs.Prelude.{◌≡◌, ◌⊎◌, ◌↔◌, ℕ, List}
use Rattle.std.specs.Borrow.{Bor}
use Rattle.std.specs.IoError.{error_kind}
use Rattle.std.specs.declared.io.ErrorKind.TheVariants as io
use Rattle.command_files.specs.declared.fault.Fault.{Fault}
use Rattle.command_files.specs.declared.fault.Fault.TheVariants as fault
use Rattle.command_files.specs.declared.fault.Fault.TheVariants.{BadAddress, BytesAfterTrace, CannotMake, CannotRead, CannotShow, CannotWrite, Check, Configuration, Event, Image, NoThread, NothingHappens, OtherImage, OutOfMemory, Text, TooManyRows}
use Rattle.command_files.specs.declared.fault.Unshown.{Unshown}
use Rattle.command_files.specs.declared.fault.Unshown.TheVariants.{Elsewhere, NoSymbol, NoWord}
use Rattle.event_stream.specs.ReplayError.{ReplayError}
use Rattle.event_stream.specs.TheVariants as replay
use Rattle.event_stream.specs.ApplyErrorVariants as applying
use Rattle.event_stream.specs.Lines.{script_line_of}
use Rattle.event_stream.specs.declared.errors.StreamError.{StreamError}
use Rattle.event_stream.specs.declared.errors.StreamError.TheVariants as stream

-- 1 for what an image hasn't, 2 for settings under which nothing is shown
abbrev pub status_unshown : Unshown → ℕ
status_unshown Elsewhere = 2
status_unshown NoSymbol = 1
status_unshown NoWord = 1

-- 1 for files, streams, threads and what files hold, 2 for a configuration that no machine has, for a word that is no address and for words of memory that are to be shown where none can, 4 for want of memory
abbrev pub status_of : Fault → ℕ
status_of (CannotRead file) = 1
status_of (CannotMake file) = 1
status_of CannotWrite = 1
status_of (Image file error) = 1
status_of (Text file error) = 1
status_of (Event file line error) = 1
status_of (NothingHappens file line outcome) = 1
status_of (BytesAfterTrace file) = 1
status_of (Check file error) = 1
status_of (OtherImage file address) = 1
status_of (TooManyRows file) = 1
status_of NoThread = 1
status_of fault.Mismatch = 1
status_of fault.BadEvent = 1
status_of (CannotShow word cause) = status_unshown cause
status_of (BadAddress word) = 2
status_of Configuration = 2
status_of OutOfMemory = 4

-- which fault tells why a stream of this script is not whole
abbrev pub IsStreamFault : Bor (List ℕ) → StreamError → Fault → Type 0
IsStreamFault script stream.NoMemory told = told ≡ OutOfMemory
IsStreamFault script (stream.Refused index applying.NoMemory) told = told ≡ OutOfMemory
IsStreamFault script (stream.Refused index applying.BadEvent) told = told ≡ Event script (script_line_of index) applying.BadEvent
IsStreamFault script (stream.Refused index applying.Limit) told = told ≡ Event script (script_line_of index) applying.Limit
IsStreamFault script (stream.Idle index outcome) told = told ≡ NothingHappens script (script_line_of index) outcome
IsStreamFault script (stream.Writing error) told = ((told ≡ CannotWrite) ⊎ (told ≡ OutOfMemory)) × ((told ≡ OutOfMemory) ↔ (error_kind error ≡ io.OutOfMemory))

-- no memory for the machine, or for what an event adds
abbrev pub IsOutOfMemory : ReplayError → Type 0
IsOutOfMemory replay.NoMemory = Unit {0}
IsOutOfMemory (replay.Event index error) = error ≡ applying.NoMemory
