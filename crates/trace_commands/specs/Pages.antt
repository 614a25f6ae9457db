-- What a page has shown, and what a fault leaves of one.
use Rattle.std.specs.Io.KnownBytes.{Appends}
use Rattle.std.specs.Prelude.{◌≡◌, ◌⊎◌, ℕ, List, Option, true}
use Rattle.command_files.specs.Contents.{Contents}
use Rattle.command_files.specs.declared.fault.Fault.{Fault}
use Rattle.command_files.specs.declared.fault.Fault.TheVariants.{CannotWrite, OutOfMemory}
use Rattle.command_settings.specs.declared.wanted.Replay.{Replay}
use Rattle.command_files.specs.TheVariants.{Lenient}
use Rattle.script_commands.specs.Explaining.{LeavesOfStream}
use Rattle.text_fields.specs.Writing.{Begins}
use Rattle.trace_commands.specs.Kinds.{IsHalfTold, IsTellingFault, IsTold}
use Rattle.trace_commands.specs.declared.document.TheConstants.{PAGE}

-- the page was appended, and from there on P holds
pub record IsBehindPage (old : Option (List ℕ)) (P : Option (List ℕ) → Type 0) : Type 0 where
  pub between : Option (List ℕ)
  pub page : Appends old between PAGE.now
  pub behind : P between

-- the page was appended, and behind it what is told of the order of the trace that the file holds, or of each event of its script and what the machine holds at the end
abbrev pub IsPaged : Contents → Replay → Option (List ℕ) → Option (List ℕ) → Type 0
IsPaged held replay old new = IsBehindPage old (λ between. IsTold held replay Lenient true between new)

-- what a fault leaves on the output: a beginning of the page, or the page and behind it what the fault leaves of what is told
abbrev pub LeavesOfPage : Contents → Replay → Option (List ℕ) → Option (List ℕ) → Fault → Type 0
LeavesOfPage held replay old new fault = Begins old new PAGE.now ⊎ IsBehindPage old (λ between. LeavesOfStream fault between new (IsHalfTold held replay Lenient true between new))

-- the same, whichever fault it was: a beginning of the page, or the page and behind it nothing or a part of what is told
abbrev pub IsHalfPaged : Contents → Replay → Option (List ℕ) → Option (List ℕ) → Type 0
IsHalfPaged held replay old new = Begins old new PAGE.now ⊎ IsBehindPage old (λ between. (new ≡ between) ⊎ IsHalfTold held replay Lenient true between new)

-- the output took no more of the page, or the fault is one of telling
abbrev pub IsPageFault : Contents → Replay → Option (List ℕ) → Option (List ℕ) → Fault → Type 0
IsPageFault held replay old new fault = ((fault ≡ CannotWrite) ⊎ (fault ≡ OutOfMemory)) ⊎ IsBehindPage old (λ between. IsTellingFault held replay Lenient between new fault)
