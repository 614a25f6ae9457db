-- Which faults a run hands up.
use Rattle.command_files.specs.Contents.{Contents}
use Rattle.command_files.specs.Faults.{IsImageFault}
use Rattle.run_command.specs.Running.{IsRunFault}
use Rattle.command_files.specs.declared.fault.Fault.{Fault}
use Rattle.command_files.specs.declared.fault.Fault.TheVariants.{BadAddress, BadEvent, BytesAfterTrace, CannotMake, CannotRead, CannotShow, CannotWrite, Check, Configuration, Event, Image, Mismatch, NoThread, NothingHappens, OtherImage, OutOfMemory, Text, TooManyRows}
use Rattle.command_settings.specs.declared.wanted.Run.{Run}

pub of_run_image : (held : Contents) (run : Run) (fault : Fault) → IsImageFault held run.raw run.image run.machine.memory fault → IsRunFault held run fault
of_run_image held run (CannotRead file) is = is
of_run_image held run (Image file error) is = is
of_run_image held run OutOfMemory is = tt
of_run_image held run (Text file error) is = absurd is
of_run_image held run (CannotMake file) is = absurd is
of_run_image held run CannotWrite is = absurd is
of_run_image held run (Event file line error) is = absurd is
of_run_image held run (BytesAfterTrace file) is = absurd is
of_run_image held run (NothingHappens file line outcome) is = absurd is
of_run_image held run (Check file error) is = absurd is
of_run_image held run (OtherImage file address) is = absurd is
of_run_image held run (TooManyRows file) is = absurd is
of_run_image held run (BadAddress word) is = absurd is
of_run_image held run (CannotShow word cause) is = absurd is
of_run_image held run NoThread is = absurd is
of_run_image held run Mismatch is = absurd is
of_run_image held run BadEvent is = absurd is
of_run_image held run Configuration is = absurd is
