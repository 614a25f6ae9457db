use Rattle.std.proofs.Common.{◌≡◌, ◌≤◌, ℕ, arith, Bool, true, false, cond, Option, Some, None, refl, sym, ap, ◌∙◌, subst, length}
use Rattle.elf_loader.specs.Image.{Initial, word_at}
use Rattle.hart.specs.declared.retired.Retired.{Retired}
use Rattle.hart.specs.declared.state.Hart.{Hart}
use Rattle.hart.specs.Run.{can_fetch, stop_with}
use Rattle.rv32_decode.specs.Rows.{decoded}
use Rattle.rv32_decode.specs.declared.instruction.Instr.{Instr}
use Rattle.rv32_exec.specs.Actions.{action_of_access, stop_or}
use Rattle.rv32_exec.specs.Meaning.{Access, Private, Loads, Stores, DoesLr, DoesSc, DoesAmo, Fences, Calls, access_of, stop_of}
use Rattle.rv32_exec.specs.declared.actions.Action.{Action}
use Rattle.rv32_exec.specs.declared.actions.Action.TheVariants as action
use Rattle.window_machine.specs.Acting.{is_placed}
use Rattle.window_machine.proofs.Acting.{is_placed_so}
use Rattle.window_machine.proofs.access.next_of.Goals as goal

no_stop : (o : Option ℕ) (a p : Action) → p ≡ stop_or o a → ((code : ℕ) → p ≡ action.Stop code → ⊥) → (o ≡ None) × (p ≡ a)
no_stop None a p is none = (refl, is)
no_stop (Some code) a p is none = absurd (none code is)

next_by : (image : Initial) (hart : Hart) (b : Bool) (o : Option Instr) (i : Instr) → b ≡ true → o ≡ Some i → stop_of i hart.pc hart.regs (length image.bytes) ≡ None → cond b (stop_with (length image.bytes) hart o) (Some 1) ≡ None
next_by image hart true o i t e s = ap (stop_with (length image.bytes) hart) e ∙ s
next_by image hart false o i t e s = cc

never_stop : (a : Access) (code : ℕ) → action.Stop code ≡ action_of_access a → ⊥
never_stop Private code e = cc
never_stop (Loads address bytes) code e = cc
never_stop (Stores address bytes value) code e = cc
never_stop (DoesLr address) code e = cc
never_stop (DoesSc address value) code e = cc
never_stop (DoesAmo address op operand) code e = cc
never_stop Fences code e = cc
never_stop (Calls number argument) code e = cc

stopped : (o : Option ℕ) (a : Access) (code : ℕ) → action.Stop code ≡ stop_or o (action_of_access a) → o ≡ Some code
stopped None a code e = absurd (never_stop a code e)
stopped (Some c) a code e = cc

stops_by : (image : Initial) (hart : Hart) (b : Bool) (o : Option Instr) (i : Instr) (code : ℕ) → b ≡ true → o ≡ Some i → stop_of i hart.pc hart.regs (length image.bytes) ≡ Some code → cond b (stop_with (length image.bytes) hart o) (Some 1) ≡ Some code
stops_by image hart true o i code t e s = ap (stop_with (length image.bytes) hart) e ∙ s
stops_by image hart false o i code t e s = cc

abbrev entry_of : ℕ → ℕ → Retired
entry_of pc word = record { pc = pc; word = word; loaded = None; sc_ok = None }

pub invariant_of-result : goal.invariant_of-result
invariant_of-result c =
    let hart = c.args.hart.now in
    let i = c.in-Some.instr in
    let planned = no_stop (stop_of i hart.pc hart.regs c.size.result) (action_of_access (access_of i hart.regs)) c.plan-plan.result c.plan-plan.ensures.value c.in_default-plan.not-Stop in
    let most : c.size.result ≤ 1048576 = omega (arith, c.size.ensures.exact, c.size.ensures.image.legal_size.at_most) in
    record { placed = ap (is_placed i) planned.1 ∙ is_placed_so i hart.pc hart.regs c.size.result planned.0 most }

pub returns : goal.returns
returns c =
    let image = c.args.image.now in
    let hart = c.args.hart.now in
    let i = c.in-Some.instr in
    let fetched : decoded (word_at image hart.pc) ≡ Some i = sym (ap decoded c.word-word.ensures) ∙ (sym c.decode.ensures ∙ c.in-Some.is) in
    let planned = no_stop (stop_of i hart.pc hart.regs c.size.result) (action_of_access (access_of i hart.regs)) c.plan-plan.result c.plan-plan.ensures.value c.in_default-plan.not-Stop in
    record {
      instr = fetched;
      goes_on = next_by image hart (can_fetch image hart.pc) (decoded (word_at image hart.pc)) i (sym c.can_fetch.ensures.exact ∙ c.if-not-can_fetch.false) fetched (subst (λ (size : ℕ). stop_of i hart.pc hart.regs size ≡ None) c.size.ensures.exact planned.0);
      stops = tt;
      plan = planned.1;
      entry = ap (entry_of hart.pc) c.word-word.ensures;
    }

pub returns-in-Stop-clause-stops : goal.returns-in-Stop-clause-stops
returns-in-Stop-clause-stops c =
    let image = c.args.image.now in
    let hart = c.args.hart.now in
    let i = c.in-Some.instr in
    let fetched : decoded (word_at image hart.pc) ≡ Some i = sym (ap decoded c.word-word.ensures) ∙ (sym c.decode.ensures ∙ c.in-Some.is) in
    let stop : stop_of i hart.pc hart.regs c.size.result ≡ Some c.in-Stop.code = stopped (stop_of i hart.pc hart.regs c.size.result) (access_of i hart.regs) c.in-Stop.code (sym c.in-Stop.is ∙ c.plan-plan.ensures.value) in
    stops_by image hart (can_fetch image hart.pc) (decoded (word_at image hart.pc)) i c.in-Stop.code (sym c.can_fetch.ensures.exact ∙ c.if-not-can_fetch.false) fetched (subst (λ (size : ℕ). stop_of i hart.pc hart.regs size ≡ Some c.in-Stop.code) c.size.ensures.exact stop)
