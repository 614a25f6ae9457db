-- A run ends with an exit exactly where its status says so.
use Rattle.std.proofs.Common.{◌≡◌, ℕ, ◌%◌, List, [], ◌∷◌, ◌++◌, Bool, true, false, Option, Some, None, refl, cond, sym, ap, ◌∙◌, subst, not, ◌&&◌}
use Rattle.std.specs.Prelude.{nat_eq, is_none, length, IsTrue}
use Rattle.std.proofs.lemmas.Bool.{false≢true, true≢false, and_parts, eqb-true, eq-eqb}
use Rattle.rv32_exec.specs.Image.{Initial, word_at}
use Rattle.rv32_decode.specs.Rows.{decoded}
use Rattle.rv32_decode.specs.declared.instruction.Instr.{Instr}
use Rattle.rv32_exec.specs.Meaning.{Access, Private, Loads, Stores, DoesLr, DoesSc, DoesAmo, Fences, Calls, access_of, effect_of, stop_of}
use Rattle.hart.specs.declared.retired.Retired.{Retired}
use Rattle.hart.specs.declared.state.Hart.{Hart}
use Rattle.hart.specs.declared.status.Status.{Status}
use Rattle.hart.specs.declared.status.Status.TheVariants.{Running, Stopped, Exited}
use Rattle.hart.specs.Run.{after, after_instr, are_steps, at_reset, can_fetch, can_do, has_answers, is_code, is_exit, is_run, is_running, is_step, next_stop, number_read, reached, status_after, status_fits}
use Rattle.hart.specs.Ends.{access_at, IsExit, EndsInExit, EndsAsItsList, RunsEndAsTheirLists}

-- ---- what a step says

runs_at : Initial → Hart → Retired → Bool
runs_at image hart entry = is_running hart.status

pub step_runs : (image : Initial) (hart : Hart) (entry : Retired) → is_step image hart entry ≡ true → is_running hart.status ≡ true
step_runs image hart entry e =
    (and_parts (is_running hart.status) (nat_eq entry.pc hart.pc) (and_parts (is_running hart.status && nat_eq entry.pc hart.pc) (can_fetch image hart.pc) (and_parts (is_running hart.status && nat_eq entry.pc hart.pc && can_fetch image hart.pc) (nat_eq entry.word (word_at image hart.pc)) (and_parts (is_running hart.status && nat_eq entry.pc hart.pc && can_fetch image hart.pc && nat_eq entry.word (word_at image hart.pc)) (can_do (length image.bytes) hart entry (decoded entry.word)) e).0).0).0).0

pub step_does : (image : Initial) (hart : Hart) (entry : Retired) → is_step image hart entry ≡ true → can_do (length image.bytes) hart entry (decoded entry.word) ≡ true
step_does image hart entry e =
    (and_parts (is_running hart.status && nat_eq entry.pc hart.pc && can_fetch image hart.pc && nat_eq entry.word (word_at image hart.pc)) (can_do (length image.bytes) hart entry (decoded entry.word)) e).1

-- ---- lists of steps

pub reached-append : (hart : Hart) (xs ys : List Retired) → reached hart (xs ++ ys) ≡ reached (reached hart xs) ys
reached-append hart [] ys = refl
reached-append hart (x ∷ xs) ys = reached-append (after hart x) xs ys

pub are_steps-append : (image : Initial) (hart : Hart) (xs ys : List Retired) → are_steps image hart (xs ++ ys) ≡ (are_steps image hart xs && are_steps image (reached hart xs) ys)
are_steps-append image hart [] ys = refl
are_steps-append image hart (x ∷ xs) ys = ap (λ (b : Bool). is_step image hart x && b) (are_steps-append image (after hart x) xs ys) ∙ and_grouped (is_step image hart x) (are_steps image (after hart x) xs) (are_steps image (reached (after hart x) xs) ys)
  where
    and_grouped : (a b c : Bool) → (a && (b && c)) ≡ ((a && b) && c)
    and_grouped true b c = refl
    and_grouped false b c = refl

-- ---- statuses

running_exits_not : (code : ℕ) (s : Status) → is_running s ≡ true → s ≡ Exited code → ⊥
running_exits_not code s r e = false≢true (sym (ap is_running e) ∙ r)

cond_exit : (b : Bool) (n code : ℕ) → cond b (Exited n) Running ≡ Exited code → (b ≡ true) × (n ≡ code)
cond_exit true n code e = let f : n ≡ code = cc in (refl, f)
cond_exit false n code e = cc

exit_access : (access : Access) (code : ℕ) → status_after access ≡ Exited code → (argument : ℕ) × (access ≡ Calls 0 argument) × (argument % 256 ≡ code)
exit_access (Calls number argument) code e = let f = cond_exit (nat_eq number 0) (argument % 256) code e in (argument, ap (λ n. Calls n argument) (eqb-true number 0 f.0), f.1)
exit_access Private code e = cc
exit_access (Loads address bytes) code e = cc
exit_access (Stores address bytes value) code e = cc
exit_access (DoesLr address) code e = cc
exit_access (DoesSc address value) code e = cc
exit_access (DoesAmo address op operand) code e = cc
exit_access Fences code e = cc

exit_instr : (size code : ℕ) (hart : Hart) (entry : Retired) (o : Option Instr) → can_do size hart entry o ≡ true → (after_instr hart entry o).status ≡ Exited code → (argument : ℕ) × (access_at hart o ≡ Calls 0 argument) × (argument % 256 ≡ code)
exit_instr size code hart entry None d e = absurd (false≢true d)
exit_instr size code hart entry (Some i) d e = exit_access (access_of i hart.regs) code e

is_exit_step : (image : Initial) (code : ℕ) (hart : Hart) (entry : Retired) → is_step image hart entry ≡ true → (after hart entry).status ≡ Exited code → IsExit code hart entry
is_exit_step image code hart entry s e = let f = exit_instr (length image.bytes) code hart entry (decoded entry.word) (step_does image hart entry s) e in record { argument = f.0; calls = f.1; code_is = f.2 }

after_exit_instr : (code argument : ℕ) (hart : Hart) (entry : Retired) (o : Option Instr) → access_at hart o ≡ Calls 0 argument → argument % 256 ≡ code → (after_instr hart entry o).status ≡ Exited code
after_exit_instr code argument hart entry None a e = cc
after_exit_instr code argument hart entry (Some i) a e = ap status_after a ∙ ap Exited e

pub after_exit : (code : ℕ) (hart : Hart) (entry : Retired) → IsExit code hart entry → (after hart entry).status ≡ Exited code
after_exit code hart entry x = after_exit_instr code x.argument hart entry (decoded entry.word) x.calls x.code_is

-- ---- the three parts

ends : (image : Initial) (code : ℕ) (hart : Hart) (entries : List Retired) → is_running hart.status ≡ true → are_steps image hart entries ≡ true → (reached hart entries).status ≡ Exited code → EndsInExit code hart entries
ends image code hart [] r s e = absurd (running_exits_not code hart.status r e)
ends image code hart (x ∷ []) r s e = record { before = []; last = x; whole = refl; exit = is_exit_step image code hart x (and_parts (is_step image hart x) true s).0 e }
ends image code hart (x ∷ (y ∷ rest)) r s e =
    let p = and_parts (is_step image hart x) (are_steps image (after hart x) (y ∷ rest)) s in
    let q = and_parts (is_step image (after hart x) y) (are_steps image (after (after hart x) y) rest) p.1 in
    let t = ends image code (after hart x) (y ∷ rest) (step_runs image (after hart x) y q.0) p.1 e in
    record { before = x ∷ t.before; last = t.last; whole = ap (λ ys. x ∷ ys) t.whole; exit = t.exit }

exited_status : (s : Status) (code : ℕ) → is_exit code s ≡ true → s ≡ Exited code
exited_status (Exited n) code e = ap Exited (eqb-true n code e)
exited_status Running code e = absurd (false≢true e)
exited_status (Stopped n) code e = absurd (false≢true e)

fitting_exit : (image : Initial) (hart : Hart) (status : Status) (code : ℕ) → hart.status ≡ Exited code → status_fits image hart status ≡ true → status ≡ Exited code
fitting_exit image hart Running code h f = absurd (running_exits_not code hart.status f h)
fitting_exit image hart (Stopped c) code h f = absurd (running_exits_not code hart.status (and_parts (is_running hart.status) (is_code c (next_stop image hart)) f).0 h)
fitting_exit image hart (Exited n) code h f = let g = exited_status hart.status n f in sym g ∙ h

no_step_behind : (image : Initial) (code : ℕ) (hart : Hart) (entry : Retired) (rest : List Retired) → IsExit code hart entry → are_steps image (after hart entry) rest ≡ true → rest ≡ []
no_step_behind image code hart entry [] x s = refl
no_step_behind image code hart entry (y ∷ rest) x s =
    absurd (running_exits_not code (after hart entry).status (step_runs image (after hart entry) y (and_parts (is_step image (after hart entry) y) (are_steps image (after (after hart entry) y) rest) s).0) (after_exit code hart entry x))

pub runs_end_as_their_lists : RunsEndAsTheirLists
runs_end_as_their_lists image id harts entries status run = record {
  exited = λ code e. ends image code start entries refl steps (exited_status (reached start entries).status code (subst (λ (s : Status). status_fits image (reached start entries) s ≡ true) e fits));
  exits = λ code x. fitting_exit image (reached start entries) status code (ap (λ (es : List Retired). (reached start es).status) x.whole ∙ (ap (λ (h : Hart). h.status) (reached-append start x.before (x.last ∷ [])) ∙ after_exit code (reached start x.before) x.last x.exit)) fits;
  nothing_follows = λ code before rest entry e x.
      let all : are_steps image start (before ++ entry ∷ rest) ≡ true = subst (λ (es : List Retired). are_steps image start es ≡ true) e steps in
      let back = (and_parts (are_steps image start before) (are_steps image (reached start before) (entry ∷ rest)) (sym (are_steps-append image start before (entry ∷ rest)) ∙ all)).1 in
      no_step_behind image code (reached start before) entry rest x (and_parts (is_step image (reached start before) entry) (are_steps image (after (reached start before) entry) rest) back).1;
}
  where
    start : Hart
    start = at_reset image id harts

    parts : (are_steps image (at_reset image id harts) entries ≡ true) × (status_fits image (reached (at_reset image id harts) entries) status ≡ true)
    parts = and_parts (are_steps image (at_reset image id harts) entries) (status_fits image (reached (at_reset image id harts) entries) status) run

    steps : are_steps image (at_reset image id harts) entries ≡ true
    steps = parts.0

    fits : status_fits image (reached (at_reset image id harts) entries) status ≡ true
    fits = parts.1
