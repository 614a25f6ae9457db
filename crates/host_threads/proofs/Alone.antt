-- Which instruction a hart does alone, by what is planned of it.
use Rattle.std.proofs.Common.{◌≡◌, ◌∙◌, ℕ, List, Bool, true, false, Option, Some, None, refl, sym, ap, ◌&&◌, length}
use Rattle.std.specs.Prelude.{is_none, if◌then◌else◌}
use Rattle.hart.proofs.Rows.{stop_of-private}
use Rattle.hart.specs.Local.{can_go_alone, is_done_alone, is_private as is_private_access}
use Rattle.hart.specs.Next.{action_at, next_action}
use Rattle.hart.specs.Run.{can_fetch, is_running}
use Rattle.hart.specs.declared.state.Hart.{Hart}
use Rattle.host_threads.specs.Picking.{is_private}
use Rattle.rv32_decode.specs.Rows.{decoded}
use Rattle.rv32_decode.specs.declared.instruction.Instr.{Instr}
use Rattle.rv32_exec.specs.Actions.{action_of_access, stop_or}
use Rattle.rv32_exec.specs.Image.{Initial, word_at}
use Rattle.rv32_exec.specs.Meaning.{Access, Private, Loads, Stores, DoesLr, DoesSc, DoesAmo, Fences, Calls, access_of, stop_of}
use Rattle.rv32_exec.specs.declared.actions.Action.TheVariants as action

none_goes_on : (s : Option ℕ) → is_private (Some (stop_or s action.Private)) ≡ is_none s
none_goes_on None = refl
none_goes_on (Some code) = refl

-- a private access goes on unless it stops, whatever memory's size; no other is private
by_access : (a : Access) (s t : Option ℕ) → (a ≡ Private → s ≡ t) → is_private (Some (stop_or s (action_of_access a))) ≡ is_private_access a && is_none t
by_access Private s t same = none_goes_on s ∙ ap is_none (same refl)
by_access (Loads address bytes) None t same = refl
by_access (Loads address bytes) (Some code) t same = refl
by_access (Stores address bytes value) None t same = refl
by_access (Stores address bytes value) (Some code) t same = refl
by_access (DoesLr address) None t same = refl
by_access (DoesLr address) (Some code) t same = refl
by_access (DoesSc address value) None t same = refl
by_access (DoesSc address value) (Some code) t same = refl
by_access (DoesAmo address op operand) None t same = refl
by_access (DoesAmo address op operand) (Some code) t same = refl
by_access Fences None t same = refl
by_access Fences (Some code) t same = refl
by_access (Calls number argument) None t same = refl
by_access (Calls number argument) (Some code) t same = refl

by_instr : (image : Initial) (hart : Hart) (o : Option Instr) → is_private (action_at image hart o) ≡ is_done_alone hart o
by_instr image hart None = refl
by_instr image hart (Some i) =
    by_access (access_of i hart.regs) (stop_of i hart.pc hart.regs (length image.bytes)) (stop_of i hart.pc hart.regs 0)
    (λ private. stop_of-private i hart.pc hart.regs (length image.bytes) 0 private)

-- a running hart goes alone where its next instruction is planned as private
pub goes_alone_where : (image : Initial) (hart : Hart) → is_running hart.status ≡ true → is_private (next_action image hart) ≡ can_go_alone image hart
goes_alone_where image hart running = go (is_running hart.status) (can_fetch image hart.pc) (decoded (word_at image hart.pc)) running
  where
    go : (r f : Bool) (o : Option Instr) → r ≡ true → is_private (action_at image hart (if f then o else None)) ≡ (r && f && is_done_alone hart o)
    go false f o is = cc (is)
    go true false o is = refl
    go true true o is = by_instr image hart o
