-- The numbers of the checker's codes and errors.
use Rattle.std.specs.Prelude.{ℕ}
use Rattle.rvwmo_order.specs.Rules.{rule_of}
use Rattle.rvwmo_order.specs.declared.error.CheckError.{CheckError}
use Rattle.rvwmo_order.specs.declared.error.CheckError.TheVariants.{NotAnOrder, NotARun, TooLong, NoMemory}
use Rattle.rvwmo_order.specs.declared.verdict.Code.{Code}
use Rattle.rvwmo_order.specs.declared.verdict.Code.TheVariants.{Order, LoadValue, Atomicity}

-- 1 to 13 the rules, 14 the load value axiom, 15 the atomicity axiom
abbrev pub code_number : Code → ℕ
code_number (Order r) = (rule_of r).number
code_number LoadValue = 14
code_number Atomicity = 15

abbrev pub error_number : CheckError → ℕ
error_number NotAnOrder = 1
error_number NotARun = 2
error_number TooLong = 3
error_number NoMemory = 4
