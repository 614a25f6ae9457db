-- What is left to read of a file, or of standard input.
use Rattle.std.specs.Prelude.{ℕ, List, Option}
use Rattle.command_files.specs.declared.input.Source.{Source}
use Rattle.command_files.specs.declared.input.Source.TheVariants.{File, Input}

-- the bytes of whichever it is, where they are known
abbrev pub source_remaining : {F I : Type 0} → (F → Option (List ℕ)) → (I → Option (List ℕ)) → Source F I → Option (List ℕ)
source_remaining file input (File reader) = file reader
source_remaining file input (Input reader) = input reader
