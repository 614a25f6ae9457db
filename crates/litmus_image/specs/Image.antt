-- A test's whole program: what leads each hart to its part, the parts, and the locations.
use Rattle.std.specs.Prelude.{◌≡◌, ℕ, ◌+◌, ◌-◌, ◌*◌, ◌^◌, ◌==◌, ◌||◌, nat_lt, List, [], ◌∷◌, ◌++◌, length, map, replicate, Option, Some, None, Result, Ok, Err, if◌then◌else◌}
use Rattle.std.specs.List.{flat_map}
use Rattle.rv32_decode.specs.Encoding.{encoded}
use Rattle.rv32_decode.specs.declared.instruction.Instr.{Instr}
use Rattle.rv32_decode.specs.declared.instruction.BranchOp.TheVariants.{Beq}
use Rattle.litmus_image.specs.Instructions.{add}
use Rattle.litmus_image.specs.Beginnings.{beginnings}
use Rattle.litmus_image.specs.Code.{branch, code_from, then_code}
use Rattle.litmus_image.specs.Tail.{spare, tail}
use Rattle.litmus_image.specs.declared.code.CodeError.{CodeError}
use Rattle.litmus_image.specs.declared.code.CodeError.TheVariants as code_error
use Rattle.litmus_image.specs.declared.part.Part.{Part}
use Rattle.litmus_image.specs.declared.part.Cause.{Cause}
use Rattle.litmus_image.specs.declared.part.Cause.TheVariants.{AllAsked, TooLong, TooMany}
use Rattle.litmus_image.specs.declared.part.ImageError.{ImageError}
use Rattle.litmus_image.specs.declared.part.ImageError.TheVariants.{Fault, NoMemory}

-- code, and then instructions
abbrev pub and_then : Result (List Instr) (ℕ × Cause) → List Instr → Result (List Instr) (ℕ × Cause)
and_then (Ok code) behind = Ok (code ++ behind)
and_then (Err fault) behind = Err fault

abbrev pub part_with : Part → Option ℕ → Result (List Instr) (ℕ × Cause)
part_with part None = Err (length part.lines.items, AllAsked)
part_with part (Some spare) = then_code (beginnings part.begins) (and_then (code_from part.lines.items 0 0 part.lines.items) (tail part.asked spare))

-- a hart's part: what sets its registers, its code, and what puts its registers out
abbrev pub part_code : Part → Result (List Instr) (ℕ × Cause)
part_code part = if nat_lt (2 ^ 20) (length part.lines.items) then Err (length part.lines.items, TooLong) else part_with part (spare part.asked)

abbrev pub entry_by : ℕ → Result Instr Cause → Result (List Instr) (ℕ × Cause)
entry_by hart (Ok i) = Ok (add 31 0 hart ∷ i ∷ [])
entry_by hart (Err cause) = Err (0, TooLong)

-- what leads a hart to its part, which begins behind `place` instructions: nothing for the first hart, which falls through to it
abbrev pub entry : ℕ → ℕ → Result (List Instr) (ℕ × Cause)
entry hart place =
    if nat_lt 1024 place then Err (0, TooLong)
    else if hart == 0 then Ok []
    else entry_by hart (branch Beq 10 31 (2 * hart - 1) place)

-- a fault at a line of a hart's column
abbrev pub Place : Type 0
Place = ℕ × (ℕ × Cause)

abbrev pub Both : Type 0
Both = List Instr × List Instr

-- entry and part of a hart before those of the harts behind it
abbrev pub in_front : List Instr → List Instr → Result Both Place → Result Both Place
in_front front behind (Ok rest) = Ok (front ++ rest.0, behind ++ rest.1)
in_front front behind (Err fault) = Err fault

abbrev pub laid_with : ℕ → Result (List Instr) (ℕ × Cause) → Result (List Instr) (ℕ × Cause) → (ℕ → Result Both Place) → Result Both Place
laid_with hart (Err fault) code rest = Err (hart, fault)
laid_with hart (Ok front) (Err fault) rest = Err (hart, fault)
laid_with hart (Ok front) (Ok code) rest = in_front front code (rest (length code))

-- the entries and the parts of the harts from this one on, whose part begins behind `place` instructions
abbrev pub laid : ℕ → ℕ → List Part → Result Both Place
laid hart place [] = Ok ([], [])
laid hart place (part ∷ parts) = laid_with hart (entry hart place) (part_code part) (λ n. laid (hart + 1) (place + n) parts)

-- a location's word, and zeros up to the next one
abbrev pub location : ℕ → List ℕ
location n = n ∷ replicate 15 0

-- the words of a program, zeros up to the locations, and these
abbrev pub all_words : List Instr → List Instr → List ℕ → List ℕ
all_words front code locations =
    let program = map encoded front ++ map encoded code in
    program ++ (replicate (1024 - length program) 0 ++ flat_map location locations)

abbrev pub words_with : List ℕ → Result Both Place → Result (List ℕ) Place
words_with locations (Err fault) = Err fault
words_with locations (Ok both) = if nat_lt 1024 (length both.0 + length both.1) then Err (0, (0, TooLong)) else Ok (all_words both.0 both.1 locations)

-- main memory's words for a test's harts and its locations' numbers
abbrev pub words_of : List Part → List ℕ → Result (List ℕ) Place
words_of parts locations =
    if nat_lt 8 (length parts) || nat_lt 64 (length locations) then Err (0, (0, TooMany))
    else words_with locations (laid 0 (2 * (length parts - 1)) parts)

-- What a function returned, seen by view, is what is said here, unless memory ran out.
abbrev pub Gives : {X : Type 0} → (X → List ℕ) → Result X ImageError → Result (List ℕ) Place → Type 0
Gives view (Ok x) said = said ≡ Ok (view x)
Gives view (Err (Fault hart line cause)) said = said ≡ Err (hart, (line, cause))
Gives view (Err NoMemory) said = Unit {0}

-- what an error says of harts one of which has a fault
abbrev pub StopsAt : ImageError → Result Both Place → Type 0
StopsAt (Fault hart line cause) said = said ≡ Err (hart, (line, cause))
StopsAt NoMemory said = Unit {0}

abbrev pub PutsBoth : {T : Type 0} → List Instr → List Instr → List Instr → List Instr → Result T ImageError → Result Both Place → Type 0
PutsBoth front code front' code' (Ok x) said = in_front front code said ≡ Ok (front', code')
PutsBoth front code front' code' (Err error) said = StopsAt error said

-- the error of a hart's part
abbrev pub of_hart : ℕ → CodeError → ImageError
of_hart hart (code_error.Fault line cause) = Fault hart line cause
of_hart hart code_error.NoMemory = NoMemory
