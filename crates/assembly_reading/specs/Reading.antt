-- What the text of an instruction says: a mnemonic, with the bits aq and rl behind it, and operands.
use Rattle.std.specs.Prelude.{ℕ, ◌||◌, List, Option, Some, None, Err, if◌then◌else◌}
use Rattle.rv32_decode.specs.declared.instruction.Annotations.{Annotations}
use Rattle.text_words.specs.Words.{skip, word, past_word}
use Rattle.assembly_reading.specs.Forms.{form_of}
use Rattle.assembly_reading.specs.Suffixes.{base, suffix, bits_of}
use Rattle.assembly_reading.specs.Operands.{operands_of}
use Rattle.assembly_reading.specs.Formats.{Answer, plain_statement, atomic_statement}
use Rattle.assembly_reading.specs.declared.statement.StatementError.TheVariants.{OtherArchitecture, NoInstruction}
use Rattle.assembly_reading.specs.declared.forms.Form.{Form}
use Rattle.assembly_reading.specs.declared.forms.Form.TheVariants.{Plain, Atomic, Other}
use Rattle.assembly_reading.specs.declared.operands.Operands.{Operands}

-- what there is to say of operands, if they are any
abbrev pub given : (Operands → Answer) → Option Operands → Answer
given answer (Some operands) = answer operands
given answer None = Err NoInstruction

abbrev pub of_form : Form → Annotations → List ℕ → Answer
of_form Other bits bytes = Err OtherArchitecture
of_form (Plain form) bits bytes = if bits.acquire || bits.release then Err OtherArchitecture else given (plain_statement form) (operands_of bytes)
of_form (Atomic form) bits bytes = given (atomic_statement form bits) (operands_of bytes)

abbrev pub of_mnemonic : Option Form → Option Annotations → List ℕ → Answer
of_mnemonic (Some form) (Some bits) bytes = of_form form bits bytes
of_mnemonic (Some form) None bytes = Err NoInstruction
of_mnemonic None bits bytes = Err NoInstruction

abbrev pub of_word : List ℕ → List ℕ → Answer
of_word mnemonic bytes = of_mnemonic (form_of (base mnemonic)) (bits_of (suffix mnemonic)) bytes

-- what a text says
abbrev pub statement_in : List ℕ → Answer
statement_in text = of_word (word (skip text)) (past_word (skip text))
