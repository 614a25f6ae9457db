-- What is told of a file that is a trace or a script.
use Rattle.std.specs.Prelude.{◌⊎◌, ℕ, Bool, true, false, List, Option, codes, nat_eq}
use Rattle.std.specs.List.{starts_with}
use Rattle.command_files.specs.Contents.{Contents, HoldsBytes}
use Rattle.command_files.specs.Faults.{IsTextFault}
use Rattle.command_files.specs.declared.fault.Fault.{Fault}
use Rattle.command_settings.specs.declared.wanted.Replay.{Replay}
use Rattle.command_files.specs.Strictness.{Strictness}
use Rattle.script_commands.specs.Explaining.{IsExplained, IsExplainFault, IsStreamCutOff}
use Rattle.trace_commands.specs.Orders.{IsOrderCutOff, IsOrderFault, IsOrderTold}

-- the text's first line is a trace's, whatever its version
abbrev pub begins_as_trace : List ℕ → Bool
begins_as_trace bytes = starts_with nat_eq bytes (codes "rvtl-trace ")

-- the one of a text that begins as a trace, the other of any other
abbrev pub Either : Bool → (of_trace of_script : Type 0) → Type 0
Either true of_trace of_script = of_trace
Either false of_trace of_script = of_script

-- and so of the text that a file holds
pub record ByKind (held : Contents) (name : List ℕ) (of_trace of_script : Type 0) : Type 0 where
  pub bytes : List ℕ
  pub file : HoldsBytes held name bytes
  pub so : Either (begins_as_trace bytes) of_trace of_script

-- what was appended is what is told of the order of the trace that the file holds, or of the events of its script
abbrev pub IsTold : Contents → Replay → Strictness → Bool → Option (List ℕ) → Option (List ℕ) → Type 0
IsTold held replay strictness with_state old new = ByKind held replay.script.now (IsOrderTold held replay old new) (IsExplained held replay strictness with_state old new)

-- a part of it
abbrev pub IsHalfTold : Contents → Replay → Strictness → Bool → Option (List ℕ) → Option (List ℕ) → Type 0
IsHalfTold held replay strictness with_state old new = ByKind held replay.script.now (IsOrderCutOff held replay old new) (IsStreamCutOff held replay strictness with_state old new)

-- the file holds no text, or the fault is one of its kind
abbrev pub IsTellingFault : Contents → Replay → Strictness → Option (List ℕ) → Option (List ℕ) → Fault → Type 0
IsTellingFault held replay strictness old new fault =
    IsTextFault held replay.script fault ⊎ ByKind held replay.script.now (IsOrderFault held replay fault) (IsExplainFault held replay strictness old new fault)
