-- What a disassembly keeps of instructions that were spelled.
use Rattle.std.specs.Prelude.{ℕ, ◌≡◌, List, Option, Some, All, IfSome, take}
use Rattle.elf_symbols.specs.Named.{Named}
use Rattle.event_stream.specs.declared.disassembly.Disassembly.{Disassembly}
use Rattle.event_stream.specs.declared.disassembly.Kept.{Kept}
use Rattle.event_stream.specs.Comments.{commented}

-- what is kept of an instruction is its text, by these names
abbrev pub IsKept : List Named → Kept → Type 0
IsKept names kept = commented names kept.pc kept.word ≡ Some (take kept.len kept.bytes)

abbrev pub IfKept : List Named → Option Kept → Type 0
IfKept names kept = IfSome kept (IsKept names)

abbrev pub AreKept : List Named → Disassembly → Type 0
AreKept names d = All (IfKept names) d.kept

-- a text is that of this word at this address, by the names by which texts were kept
abbrev pub IsKeptText : Disassembly → ℕ → ℕ → List ℕ → Type 0
IsKeptText d pc word text = (names : List Named) → AreKept names d → commented names pc word ≡ Some text
