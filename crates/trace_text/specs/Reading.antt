-- What a reader answers.
use Rattle.std.specs.Prelude.{◌≡◌, ℕ, List, [], ◌∷◌, Option, Some, None, Result, Ok, Err, ◌⊎◌}
use Rattle.text_fields.specs.Reading.{◌>>=◌, after}
use Rattle.trace_text.specs.declared.fault.TextError.{TextError}
use Rattle.trace_text.specs.declared.fault.TextCode.TheVariants.{NoMemory}
use Rattle.trace_text.specs.declared.fault.Stop.{Stop}
use Rattle.trace_text.specs.declared.fault.Stop.TheVariants as stops

-- memory was refused
abbrev pub IsNoMemory : {X : Type 0} → Result X TextError → Type 0
IsNoMemory (Ok x) = ⊥
IsNoMemory (Err e) = e.code ≡ NoMemory

-- nothing is read, unless memory ran out
abbrev pub Fails : {Y : Type 0} → Stop → Option Y → Type 0
Fails (stops.Memory left) read = Unit {0}
Fails (stops.Bytes left) read = read ≡ None

-- What a function returned, seen by view, is what reading gives, unless memory ran out.
abbrev pub Gives : {X Y : Type 0} → (X → Y) → Result X Stop → Option Y → Type 0
Gives view (Ok x) read = read ≡ Some (view x)
Gives view (Err stop) read = Fails stop read

-- memory is named where it ran out
abbrev pub IsFaultOf : Stop → TextError → Type 0
IsFaultOf (stops.Memory left) e = e.code ≡ NoMemory
IsFaultOf (stops.Bytes left) e = Unit {0}

-- the same as Gives, of a fault in the words of the table
abbrev pub IsReadOrRefused : {X Y : Type 0} → (X → Y) → Result X TextError → Option Y → Type 0
IsReadOrRefused view (Ok x) read = read ≡ Some (view x)
IsReadOrRefused view (Err e) read = (e.code ≡ NoMemory) ⊎ (read ≡ None)

-- what was read, where this byte ends it
abbrev pub ended : {A : Type 0} → ℕ → Option (A × List ℕ) → Option (A × List ℕ)
ended end found = found >>= λ x. after (end ∷ []) x.1 >>= λ rest. Some (x.0, rest)
