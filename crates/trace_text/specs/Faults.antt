-- The numbers by which faults of a text are printed.
use Rattle.std.specs.Prelude.{ℕ}
use Rattle.trace_text.specs.declared.fault.TextCode.{TextCode}
use Rattle.trace_text.specs.declared.fault.TextCode.TheVariants.{Header, Word, Fields, Order, End, NoMemory}

abbrev pub text_code_number : TextCode → ℕ
text_code_number Header = 1
text_code_number Word = 2
text_code_number Fields = 3
text_code_number Order = 4
text_code_number End = 5
text_code_number NoMemory = 6
