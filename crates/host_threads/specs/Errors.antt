-- A run's errors by their numbers, and which of them a thread's fault comes to.
use Rattle.std.specs.Prelude.{ℕ}
use Rattle.host_threads.specs.declared.report.Fault.{Fault}
use Rattle.host_threads.specs.declared.report.Fault.TheVariants as fault
use Rattle.host_threads.specs.declared.report.RunError.{RunError}
use Rattle.host_threads.specs.declared.report.RunError.TheVariants.{Config, NoMemory, Thread, Mismatch, BadEvent}

abbrev pub run_error_number : RunError → ℕ
run_error_number Config = 1
run_error_number NoMemory = 2
run_error_number Thread = 3
run_error_number Mismatch = 4
run_error_number BadEvent = 5

abbrev pub of_fault : Fault → RunError
of_fault fault.NoMemory = NoMemory
of_fault fault.BadEvent = BadEvent
