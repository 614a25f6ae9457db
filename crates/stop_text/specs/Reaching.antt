-- What an instruction that stops its hart reached for.
use Rattle.std.specs.Prelude.{ℕ, Option, Some, None}
use Rattle.rv32_exec.specs.Meaning.{Access}
use Rattle.rv32_exec.specs.Meaning.Access.{Loads, Stores, DoesLr, DoesSc, DoesAmo}

-- the first byte, and how many
abbrev pub bytes_of : Access → Option (ℕ × ℕ)
bytes_of (Loads address bytes) = Some (address, bytes)
bytes_of (Stores address bytes value) = Some (address, bytes)
bytes_of (DoesLr address) = Some (address, 4)
bytes_of (DoesSc address value) = Some (address, 4)
bytes_of (DoesAmo address op operand) = Some (address, 4)
bytes_of _ = None
