-- What the checker says of a trace and an order.
use Rattle.std.specs.Prelude.{◌≡◌, nat_lt, if◌then◌else◌, List, length, Option, Some, None, Result, Ok, Err, ⊤}
use Rattle.machine_types.specs.declared.model.MemoryModel.{MemoryModel}
use Rattle.memory_model.specs.declared.operation.Operation.{Operation}
use Rattle.memory_model.specs.Traces.{are_runs, image_of, instructions, has_each_operation_once, names_in, operations_at}
use Rattle.memory_model.specs.Verdict as verdict
use Rattle.memory_model.specs.Verdict.{Breaks, name_of}
use Rattle.memory_model.specs.History.{History}
use Rattle.memory_model.specs.OpId.{OpId}
use Rattle.rvwmo_order.specs.Codes.{code_number}
use Rattle.rvwmo_order.specs.declared.error.CheckError.{CheckError}
use Rattle.rvwmo_order.specs.declared.error.CheckError.TheVariants.{NotAnOrder, NotARun, TooLong}
use Rattle.rvwmo_order.specs.declared.verdict.Code.{Code}
use Rattle.rvwmo_order.specs.declared.verdict.Verdict.{Verdict}
use Rattle.rvwmo_order.specs.declared.verdict.Verdict.TheVariants.{Legal, Fault}

-- why an order isn't judged: a list or a status isn't a run's, else the trace has more than 4,096 operations, else the order doesn't have each of them once
abbrev pub refusal : History → List OpId → Option CheckError
refusal t order =
    if are_runs t
    then (if nat_lt 4096 (length (names_in t)) then Some TooLong else (if has_each_operation_once t order then None else Some NotAnOrder))
    else Some NotARun

abbrev pub refusal_of : Result Verdict CheckError → Option CheckError
refusal_of (Ok verdict) = None
refusal_of (Err error) = Some error

-- the operations of these names break the code's rule under the order
pub record IsBroken (model : MemoryModel) (t : History) (order : List OpId) (code : Code) (a b : OpId) : Type 0 where
  pub first : Operation
  pub second : Operation
  pub first_name : name_of first ≡ a
  pub second_name : name_of second ≡ b
  pub breaks : Breaks model (image_of t) (instructions t) (operations_at (instructions t) order) (code_number code) first second

-- a fault's operations do
abbrev pub IsSoundVerdict : MemoryModel → History → List OpId → Verdict → Type 0
IsSoundVerdict model t order Legal = ⊤
IsSoundVerdict model t order (Fault code a b) = IsBroken model t order code a b

-- the fault that a verdict tells
abbrev pub fault_told : Verdict → Option verdict.Fault
fault_told Legal = None
fault_told (Fault code a b) = Some (record { code = code_number code; a = a; b = b })
