-- What stops a reader, and what a reader answers.
use Rattle.std.specs.Prelude.{◌≡◌, ◌==◌, ℕ, ◌+◌, ◌-◌, List, ◌++◌, length, take, Option, Some, None, Result, Ok, Err}
use Rattle.text_words.specs.Words.{skip}
use Rattle.std.specs.List.{count_by}
use Rattle.litmus_parts.specs.declared.stop.Fault.{Fault}
use Rattle.litmus_parts.specs.declared.stop.Fault.TheVariants as faults
use Rattle.litmus_parts.specs.declared.stop.Section.{Section}
use Rattle.litmus_parts.specs.declared.stop.Section.TheVariants as sections
use Rattle.litmus_parts.specs.declared.stop.Cause.{Cause}
use Rattle.litmus_parts.specs.declared.stop.Cause.TheVariants as causes
use Rattle.litmus_parts.specs.declared.stop.Stop.{Stop}
use Rattle.litmus_parts.specs.declared.stop.Stop.TheVariants.{Memory, At}

abbrev pub fault_in : Section → Fault
fault_in sections.Initial = faults.Initial
fault_in sections.Condition = faults.Condition

-- what a cause is a fault of; a test with something of another machine is skipped
abbrev pub fault_of : Cause → Option Fault
fault_of causes.Comment = Some faults.Header
fault_of causes.Architecture = Some faults.Header
fault_of causes.Name = Some faults.Header
fault_of causes.Quotation = Some faults.Header
fault_of causes.Entry = Some faults.Header
fault_of (causes.Place section) = Some (fault_in section)
fault_of (causes.Hart section) = Some (fault_in section)
fault_of (causes.Colon section) = Some (fault_in section)
fault_of (causes.Register section) = Some (fault_in section)
fault_of causes.SetRegister = Some faults.Initial
fault_of (causes.Bracket section) = Some (fault_in section)
fault_of (causes.Value section) = Some (fault_in section)
fault_of causes.InitialEnd = Some faults.Initial
fault_of causes.OtherPlace = Some faults.Initial
fault_of causes.Head = Some faults.Rows
fault_of causes.HeadEnd = Some faults.Rows
fault_of causes.Cell = Some faults.Rows
fault_of causes.Question = Some faults.Condition
fault_of causes.Locations = Some faults.Condition
fault_of causes.LocationsEnd = Some faults.Condition
fault_of causes.Relation = Some faults.Condition
fault_of causes.Close = Some faults.Condition
fault_of causes.Nothing = Some faults.Condition
fault_of causes.FewEntries = Some faults.Limit
fault_of causes.FewValues = Some faults.Limit
fault_of causes.FewHarts = Some faults.Limit
fault_of causes.FewRows = Some faults.Limit
fault_of causes.FewLabels = Some faults.Limit
fault_of causes.FewPlaces = Some faults.Limit
fault_of causes.Shallow = Some faults.Limit
fault_of causes.FewOperands = Some faults.Limit
fault_of causes.Instruction = Some faults.Instruction
fault_of causes.Immediate = Some faults.Instruction
fault_of causes.Label = Some faults.Label
fault_of causes.OtherLabel = Some faults.Label
fault_of causes.Near = Some faults.Limit
fault_of causes.FewInstructions = Some faults.Limit
fault_of causes.FewLocations = Some faults.Limit
fault_of causes.FewRegisters = Some faults.Limit
fault_of causes.FewBytes = Some faults.Limit
fault_of causes.OtherArchitecture = None
fault_of causes.WideNumber = None
fault_of causes.WideLocation = None
fault_of causes.OtherInstruction = None

-- stopped at what stands behind the blanks, or right here
abbrev pub at : Cause → List ℕ → Stop
at cause bytes = At cause (length (skip bytes))

abbrev pub here : Cause → List ℕ → Stop
here cause bytes = At cause (length bytes)

-- a value and what stands behind it, or what stops the reader
abbrev pub Read : Type 0 → Type 0
Read A = Result (A × List ℕ) Stop

infixl 10 ◌>>=◌
abbrev pub ◌>>=◌ : {A B : Type 0} → Result A Stop → (A → Result B Stop) → Result B Stop
(Ok x) >>= f = f x
(Err stop) >>= f = Err stop

-- an optional part: what follows where it stands, and what where it doesn't
abbrev pub either : {A B : Type 0} → Option A → (A → B) → B → B
either (Some x) f other = f x
either None f other = other

-- what a function returned, seen by view
abbrev pub seen : {X Y : Type 0} → (X → Y) → Result X Stop → Result Y Stop
seen view (Ok x) = Ok (view x)
seen view (Err stop) = Err stop

-- it stopped there, unless memory ran out
abbrev pub Refuses : {Y : Type 0} → Stop → Result Y Stop → Type 0
Refuses Memory read = Unit {0}
Refuses (At cause left) read = read ≡ Err (At cause left)

-- what a function returned, seen by view, is what is read, unless memory ran out
abbrev pub Gives : {X Y : Type 0} → (X → Y) → Result X Stop → Result Y Stop → Type 0
Gives view (Ok x) read = read ≡ Ok (view x)
Gives view (Err stop) read = Refuses stop read

-- elements read behind those that are there
abbrev pub onto : {A : Type 0} → List A → Read (List A) → Read (List A)
onto front (Ok x) = Ok (front ++ x.0, x.1)
onto front (Err stop) = Err stop

-- what a function added to a list, and where it stopped, is what is read, unless memory ran out
abbrev pub Adds : {A X : Type 0} → (X → List ℕ) → List A → List A → Result X Stop → Read (List A) → Type 0
Adds view old new (Ok rest) read = onto old read ≡ Ok (new, view rest)
Adds view old new (Err stop) read = Refuses stop read

-- the number of the line where so many bytes are left
abbrev pub line_of : List ℕ → ℕ → ℕ
line_of text left = 1 + count_by (λ b. b == 10) (take (length text - left) text)
