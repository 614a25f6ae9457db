-- A row of private instructions is a list of steps, and leaves its hart running.
use Rattle.std.proofs.Common.{◌≡◌, ℕ, zero, suc, List, [], ◌∷◌, Bool, true, false, Option, Some, None, refl, cond, sym, ap, ◌∙◌, subst, ◌&&◌}
use Rattle.std.specs.Prelude.{nat_eq, is_none, length}
use Rattle.std.proofs.lemmas.Bool.{false≢true, and_parts, and_from, eq-eqb}
use Rattle.rv32_exec.specs.Image.{Initial, word_at}
use Rattle.rv32_decode.specs.Rows.{decoded}
use Rattle.rv32_decode.specs.declared.instruction.Instr.{Instr}
use Rattle.rv32_exec.specs.Meaning.{Access, Private, Loads, Stores, DoesLr, DoesSc, DoesAmo, Fences, Calls, access_of, stop_of}
use Rattle.hart.specs.declared.retired.Retired.{Retired}
use Rattle.hart.specs.declared.state.Hart.{Hart}
use Rattle.hart.specs.Local.{is_private, is_done_alone, can_go_alone, next_entry, private_row}
use Rattle.hart.specs.Run.{after, after_instr, are_steps, can_fetch, can_do, has_answers, is_running, is_step, reached, status_after}
use Rattle.hart.proofs.Rows.{stop_of-private, private_runs_on}

pub private_is : (a : Access) → is_private a ≡ true → a ≡ Private
private_is Private e = refl
private_is (Loads address bytes) e = absurd (false≢true e)
private_is (Stores address bytes value) e = absurd (false≢true e)
private_is (DoesLr address) e = absurd (false≢true e)
private_is (DoesSc address value) e = absurd (false≢true e)
private_is (DoesAmo address op operand) e = absurd (false≢true e)
private_is Fences e = absurd (false≢true e)
private_is (Calls number argument) e = absurd (false≢true e)

-- what an instruction that is done alone does, whatever memory's size
does-alone : (size : ℕ) (image : Initial) (hart : Hart) (o : Option Instr) → is_done_alone hart o ≡ true → can_do size hart (next_entry image hart) o ≡ true
does-alone size image hart None e = e
does-alone size image hart (Some i) e =
    let p = and_parts (is_private (access_of i hart.regs)) (is_none (stop_of i hart.pc hart.regs 0)) e in
    let a = private_is (access_of i hart.regs) p.0 in
    and_from _ _ (ap is_none (stop_of-private i hart.pc hart.regs size 0 a) ∙ p.1) (ap (λ (x : Access). has_answers x (next_entry image hart)) a)

running-alone : (image : Initial) (hart : Hart) (o : Option Instr) → is_done_alone hart o ≡ true → is_running hart.status ≡ true → is_running (after_instr hart (next_entry image hart) o).status ≡ true
running-alone image hart None e r = r
running-alone image hart (Some i) e r = ap is_running (private_runs_on (access_of i hart.regs) (and_parts (is_private (access_of i hart.regs)) _ e).0)

pub record Alone (image : Initial) (hart : Hart) : Type 0 where
  pub running : is_running hart.status ≡ true
  pub fetched : can_fetch image hart.pc ≡ true
  pub done : is_done_alone hart (decoded (word_at image hart.pc)) ≡ true

pub alone : (image : Initial) (hart : Hart) → can_go_alone image hart ≡ true → Alone image hart
alone image hart e =
    let p = and_parts (is_running hart.status && can_fetch image hart.pc) (is_done_alone hart (decoded (word_at image hart.pc))) e in
    let q = and_parts (is_running hart.status) (can_fetch image hart.pc) p.0 in
    record { running = q.0; fetched = q.1; done = p.1 }

pub step-alone : (image : Initial) (hart : Hart) → can_go_alone image hart ≡ true → is_step image hart (next_entry image hart) ≡ true
step-alone image hart e =
    let a = alone image hart e in
    and_from _ _ (and_from _ _ (and_from _ _ (and_from _ _ a.running (eq-eqb hart.pc hart.pc refl)) a.fetched) (eq-eqb (word_at image hart.pc) (word_at image hart.pc) refl)) (does-alone (length image.bytes) image hart (decoded (word_at image hart.pc)) a.done)

pub after-running : (image : Initial) (hart : Hart) → can_go_alone image hart ≡ true → is_running (after hart (next_entry image hart)).status ≡ true
after-running image hart e =
    let a = alone image hart e in
    running-alone image hart (decoded (word_at image hart.pc)) a.done a.running

-- ---- a row

row_by : (b : Bool) (image : Initial) (hart : Hart) (rest : List Retired) → can_go_alone image hart ≡ b → are_steps image (after hart (next_entry image hart)) rest ≡ true → are_steps image hart (cond b (next_entry image hart ∷ rest) []) ≡ true
row_by true image hart rest e s = and_from _ _ (step-alone image hart e) s
row_by false image hart rest e s = refl

pub row-steps : (image : Initial) (hart : Hart) (n : ℕ) → are_steps image hart (private_row image hart n) ≡ true
row-steps image hart zero = refl
row-steps image hart (suc n) = row_by (can_go_alone image hart) image hart _ refl (row-steps image (after hart (next_entry image hart)) n)

running_by : (b : Bool) (image : Initial) (hart : Hart) (rest : List Retired) → can_go_alone image hart ≡ b → is_running hart.status ≡ true → (is_running (after hart (next_entry image hart)).status ≡ true → is_running (reached (after hart (next_entry image hart)) rest).status ≡ true) → is_running (reached hart (cond b (next_entry image hart ∷ rest) [])).status ≡ true
running_by true image hart rest e r f = f (after-running image hart e)
running_by false image hart rest e r f = r

pub row-running : (image : Initial) (hart : Hart) (n : ℕ) → is_running hart.status ≡ true → is_running (reached hart (private_row image hart n)).status ≡ true
row-running image hart zero r = r
row-running image hart (suc n) r = running_by (can_go_alone image hart) image hart _ refl r (row-running image (after hart (next_entry image hart)) n)
