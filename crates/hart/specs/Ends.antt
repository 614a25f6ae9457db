-- What a run's status tells of its last entry.
use Rattle.std.specs.Prelude.{ℕ, ◌≡◌, ◌%◌, List, [], ◌∷◌, ◌++◌, Option, Some, None, IsTrue}
use Rattle.rv32_exec.specs.Image.{Initial}
use Rattle.rv32_decode.specs.Rows.{decoded}
use Rattle.rv32_decode.specs.declared.instruction.Instr.{Instr}
use Rattle.rv32_exec.specs.Meaning.{Access, Private, Calls, access_of}
use Rattle.hart.specs.declared.retired.Retired.{Retired}
use Rattle.hart.specs.declared.state.Hart.{Hart}
use Rattle.hart.specs.declared.status.Status.{Status}
use Rattle.hart.specs.declared.status.Status.TheVariants.{Exited}
use Rattle.hart.specs.Run.{at_reset, is_run, reached}

abbrev pub access_at : Hart → Option Instr → Access
access_at hart None = Private
access_at hart (Some i) = access_of i hart.regs

-- the entry is an environment call by which the hart exits with this code
pub record IsExit (code : ℕ) (hart : Hart) (entry : Retired) : Type 0 where
  pub argument : ℕ
  pub calls : access_at hart (decoded entry.word) ≡ Calls 0 argument
  pub code_is : argument % 256 ≡ code

-- the last entry is such an exit, of the hart that those before it lead to
pub record EndsInExit (code : ℕ) (start : Hart) (entries : List Retired) : Type 0 where
  pub before : List Retired
  pub last : Retired
  pub whole : entries ≡ before ++ last ∷ []
  pub exit : IsExit code (reached start before) last

-- a run has the status of an exit exactly where its last entry is that exit, and nothing follows an exit
pub record EndsAsItsList (image : Initial) (id harts : ℕ) (entries : List Retired) (status : Status) : Type 0 where
  pub exited : (code : ℕ) → status ≡ Exited code → EndsInExit code (at_reset image id harts) entries
  pub exits : (code : ℕ) → EndsInExit code (at_reset image id harts) entries → status ≡ Exited code
  pub nothing_follows : (code : ℕ) (before rest : List Retired) (entry : Retired) → entries ≡ before ++ entry ∷ rest → IsExit code (reached (at_reset image id harts) before) entry → rest ≡ []

abbrev pub RunsEndAsTheirLists : Type 0
RunsEndAsTheirLists = (image : Initial) (id harts : ℕ) (entries : List Retired) (status : Status) → IsTrue (is_run image id harts entries status) → EndsAsItsList image id harts entries status
