-- The numbers of runs: entries of words, statuses of codes, and names of places.
use Rattle.std.proofs.Common.{ℕ, zero, suc, ◌+◌, ◌%◌, ◌^◌, ◌<◌, ◌≤◌, Bool, true, false, List, [], ◌∷◌, ◌≡◌, Option, Some, None, sym, ◌∙◌, subst, cond, length, slice_index_or}
use Rattle.std.specs.Prelude.{◌==◌, ◌&&◌, nat_lt, nat_le, nat_eq, is_none}
use Rattle.std.specs.List.{AllByRecursion, list_all}
use Rattle.std.proofs.lemmas.Bool.{false≢true, and_parts, eqb-true, leb-true, ltb-true, or_cases}
use Rattle.std.proofs.lemmas.List.Folds.{list_any-append}
use mathlib.Core.Logic.{◌⊎◌, inl, inr}
use native.Mathlib.Omega.{arith}
use Rattle.elf_loader.specs.Image.{Initial, IsImage, byte_at, end_of, word_at}
use Rattle.elf_loader.specs.Size.{base}
use Rattle.hart.specs.declared.retired.Retired.{Retired}
use Rattle.hart.specs.declared.state.Hart.{Hart}
use Rattle.hart.specs.declared.status.Status.{Status}
use Rattle.hart.specs.declared.status.Status.TheVariants.{Stopped, Exited}
use Rattle.hart.specs.Run.{after, are_steps, at_reset, can_fetch, can_do, has_answers, is_below, is_code, is_run, is_running, is_step, next_stop, reached, status_fits, stop_with}
use Rattle.hart.proofs.Endings.{runs_end_as_their_lists, step_does}
use Rattle.machine_model.specs.Ranges.{HasCode, HasWords, NamesPlace}
use Rattle.memory_model.specs.Items.{has_operation}
use Rattle.memory_model.specs.Traces.{are_runs_from, is_among, is_named, names_from, names_in, names_of_harts}
use Rattle.rv32_decode.specs.Rows.{decoded}
use Rattle.rv32_decode.specs.declared.instruction.Instr.{Instr}
use Rattle.rv32_decode.specs.declared.instruction.Instr.TheVariants as instr
use Rattle.rv32_decode.specs.declared.instruction.LoadOp.{LoadOp}
use Rattle.rv32_decode.specs.declared.instruction.LoadOp.TheVariants.{Lb, Lh, Lw, Lbu, Lhu}
use Rattle.rv32_decode.specs.declared.instruction.SystemOp.TheVariants.{Ecall, Ebreak}
use Rattle.rv32_exec.specs.Arithmetic.{bytes_loaded}
use Rattle.rv32_exec.specs.Meaning.{Access, Private, Loads, Stores, DoesLr, DoesSc, DoesAmo, Fences, Calls, access_of, access_stop, is_outside, stop_of, stop_of_access, stop_of_target, target_of}
use Rattle.trace_recorder.specs.History.{History, entries_of}
use Rattle.trace_recorder.specs.declared.operation.OpId.{OpId}

-- ---- entries

-- a load reads at most a word
abbrev HasFew : Access → Type 0
HasFew (Loads address bytes) = 256 ^ bytes ≤ 2 ^ 32
HasFew _ = Unit {0}

load_few : (op : LoadOp) → 256 ^ bytes_loaded op ≤ 2 ^ 32
load_few Lb = omega arith
load_few Lh = omega arith
load_few Lw = omega arith
load_few Lbu = omega arith
load_few Lhu = omega arith

access_few : (i : Instr) (regs : List ℕ) → HasFew (access_of i regs)
access_few (instr.Load op rd rs1 offset) regs = load_few op
access_few (instr.System Ecall) regs = tt
access_few (instr.System Ebreak) regs = tt
access_few _ regs = tt

below_bound : (bound n : ℕ) (loaded : Option ℕ) (b : Bool) → bound ≤ 2 ^ 32 → is_below bound loaded && b ≡ true → loaded ≡ Some n → n < 2 ^ 32
below_bound bound n loaded b few e is =
    let own : is_below bound (Some n) ≡ true = subst (λ o. is_below bound o ≡ true) is (and_parts (is_below bound loaded) b e).0 in
    omega (arith, ltb-true n bound own, few)

none_loaded : (n : ℕ) (loaded : Option ℕ) (b : Bool) → is_none loaded && b ≡ true → loaded ≡ Some n → n < 2 ^ 32
none_loaded n loaded b e is = absurd (false≢true (subst (λ o. is_none o ≡ true) is (and_parts (is_none loaded) b e).0))

loaded_few : (a : Access) (entry : Retired) (n : ℕ) → HasFew a → has_answers a entry ≡ true → entry.loaded ≡ Some n → n < 2 ^ 32
loaded_few (Loads address bytes) entry n few e is = below_bound (256 ^ bytes) n entry.loaded _ few e is
loaded_few (DoesLr address) entry n few e is = below_bound (256 ^ 4) n entry.loaded _ (omega arith) e is
loaded_few (DoesAmo address op operand) entry n few e is = below_bound (256 ^ 4) n entry.loaded _ (omega arith) e is
loaded_few (DoesSc address value) entry n few e is = none_loaded n entry.loaded _ e is
loaded_few Private entry n few e is = none_loaded n entry.loaded _ e is
loaded_few (Stores address bytes value) entry n few e is = none_loaded n entry.loaded _ e is
loaded_few Fences entry n few e is = none_loaded n entry.loaded _ e is
loaded_few (Calls number argument) entry n few e is = none_loaded n entry.loaded _ e is

does_few : (size : ℕ) (hart : Hart) (entry : Retired) (i : Option Instr) (n : ℕ) → can_do size hart entry i ≡ true → entry.loaded ≡ Some n → n < 2 ^ 32
does_few size hart entry None n e is = absurd (false≢true e)
does_few size hart entry (Some i) n e is = loaded_few (access_of i hart.regs) entry n (access_few i hart.regs) (and_parts (is_none (stop_of i hart.pc hart.regs size)) (has_answers (access_of i hart.regs) entry) e).1 is

word_below : (image : Initial) (address : ℕ) → IsImage image → word_at image address < 2 ^ 32
word_below image address is =
    let a : byte_at image address < 256 = is.bytes_fit _ in
    let b : byte_at image (address + 1) < 256 = is.bytes_fit _ in
    let c : byte_at image (address + 2) < 256 = is.bytes_fit _ in
    let d : byte_at image (address + 3) < 256 = is.bytes_fit _ in
    omega (arith, a, b, c, d)

step_words : (image : Initial) (hart : Hart) (entry : Retired) → IsImage image → is_step image hart entry ≡ true → HasWords entry
step_words image hart entry is e = record { pc = pc; word = subst (λ w. w < 2 ^ 32) (sym (eqb-true _ _ own.1)) (word_below image hart.pc is); loaded = λ n. does_few (length image.bytes) hart entry (decoded entry.word) n (step_does image hart entry e) }
  where
    own : ((is_running hart.status && nat_eq entry.pc hart.pc && can_fetch image hart.pc) ≡ true) × (nat_eq entry.word (word_at image hart.pc) ≡ true)
    own = and_parts _ _ (and_parts (is_running hart.status && nat_eq entry.pc hart.pc && can_fetch image hart.pc && nat_eq entry.word (word_at image hart.pc)) _ e).0

    fetched : ((is_running hart.status && nat_eq entry.pc hart.pc) ≡ true) × (can_fetch image hart.pc ≡ true)
    fetched = and_parts (is_running hart.status && nat_eq entry.pc hart.pc) (can_fetch image hart.pc) own.0

    pc : entry.pc < 2 ^ 32
    pc =
        let same : entry.pc ≡ hart.pc = eqb-true _ _ (and_parts (is_running hart.status) (nat_eq entry.pc hart.pc) fetched.0).1 in
        let inside : hart.pc + 4 ≤ end_of image = leb-true _ _ (and_parts (nat_le base hart.pc) (nat_le (hart.pc + 4) (end_of image)) fetched.1).1 in
        omega (arith, same, inside, is.legal_size.at_most)

steps_words : (image : Initial) (hart : Hart) (entries : List Retired) → IsImage image → are_steps image hart entries ≡ true → AllByRecursion HasWords entries
steps_words image hart [] is e = tt
steps_words image hart (x ∷ xs) is e =
    let p = and_parts (is_step image hart x) (are_steps image (after hart x) xs) e in
    (step_words image hart x is p.0, steps_words image (after hart x) xs is p.1)

-- ---- statuses

abbrev IsStop : Option ℕ → Type 0
IsStop None = Unit {0}
IsStop (Some code) = code ≤ 8

either_stop : (b : Bool) (x y : Option ℕ) → IsStop x → IsStop y → IsStop (cond b x y)
either_stop true x y p q = p
either_stop false x y p q = q

access_stops : (misaligned outside size address bytes : ℕ) → misaligned ≤ 8 → outside ≤ 8 → IsStop (access_stop misaligned outside size address bytes)
access_stops misaligned outside size address bytes m o = either_stop (address % bytes == 0) _ (Some misaligned) (either_stop (is_outside size address bytes) (Some outside) None o tt) m

access_ends : (a : Access) (size : ℕ) → IsStop (stop_of_access a size)
access_ends Private size = tt
access_ends (Loads address bytes) size = access_stops 4 5 size address bytes (omega arith) (omega arith)
access_ends (Stores address bytes value) size = access_stops 6 7 size address bytes (omega arith) (omega arith)
access_ends (DoesLr address) size = access_stops 6 7 size address 4 (omega arith) (omega arith)
access_ends (DoesSc address value) size = access_stops 6 7 size address 4 (omega arith) (omega arith)
access_ends (DoesAmo address op operand) size = access_stops 6 7 size address 4 (omega arith) (omega arith)
access_ends Fences size = tt
access_ends (Calls number argument) size = either_stop (nat_lt number 2) None (Some 8) tt (omega arith)

target_ends : (target : Option ℕ) → IsStop (stop_of_target target)
target_ends None = tt
target_ends (Some target) = either_stop (target % 4 == 0) None (Some 0) tt (omega arith)

instr_ends : (i : Instr) (pc : ℕ) (regs : List ℕ) (size : ℕ) → IsStop (stop_of i pc regs size)
instr_ends (instr.System Ebreak) pc regs size = omega arith
instr_ends (instr.System Ecall) pc regs size = access_ends (access_of (instr.System Ecall) regs) size
instr_ends (instr.Jal rd offset) pc regs size = target_ends (target_of (instr.Jal rd offset) pc regs)
instr_ends (instr.Jalr rd rs1 offset) pc regs size = target_ends (target_of (instr.Jalr rd rs1 offset) pc regs)
instr_ends (instr.Branch op rs1 rs2 offset) pc regs size = target_ends (target_of (instr.Branch op rs1 rs2 offset) pc regs)
instr_ends (instr.Load op rd rs1 offset) pc regs size = access_ends (access_of (instr.Load op rd rs1 offset) regs) size
instr_ends (instr.Store op rs1 rs2 offset) pc regs size = access_ends (access_of (instr.Store op rs1 rs2 offset) regs) size
instr_ends (instr.Lr rd rs1 bits) pc regs size = access_ends (access_of (instr.Lr rd rs1 bits) regs) size
instr_ends (instr.Sc rd rs1 rs2 bits) pc regs size = access_ends (access_of (instr.Sc rd rs1 rs2 bits) regs) size
instr_ends (instr.Amo op rd rs1 rs2 bits) pc regs size = access_ends (access_of (instr.Amo op rd rs1 rs2 bits) regs) size
instr_ends _ pc regs size = tt

next_ends : (image : Initial) (hart : Hart) → IsStop (next_stop image hart)
next_ends image hart = either_stop (can_fetch image hart.pc) _ (Some 1) (go (decoded (word_at image hart.pc))) (omega arith)
  where
    go : (i : Option Instr) → IsStop (stop_with (length image.bytes) hart i)
    go None = omega arith
    go (Some i) = instr_ends i hart.pc hart.regs (length image.bytes)

code_few : (code : ℕ) (stop : Option ℕ) → IsStop stop → is_code code stop ≡ true → code ≤ 8
code_few code None is e = absurd (false≢true e)
code_few code (Some n) is e = let same : n ≡ code = eqb-true n code e in omega (arith, same, is)

run_code : (image : Initial) (id harts : ℕ) (entries : List Retired) (status : Status) → is_run image id harts entries status ≡ true → HasCode status
run_code image id harts entries status run = record { stopped = stopped; exited = exited }
  where
    last : Hart
    last = reached (at_reset image id harts) entries

    stopped : (code : ℕ) → status ≡ Stopped code → code ≤ 8
    stopped code e =
        let fits : status_fits image last (Stopped code) ≡ true = subst (λ st. status_fits image last st ≡ true) e (and_parts (are_steps image (at_reset image id harts) entries) (status_fits image last status) run).1 in
        code_few code (next_stop image last) (next_ends image last) (and_parts (is_running last.status) (is_code code (next_stop image last)) fits).1

    exited : (code : ℕ) → status ≡ Exited code → code ≤ 255
    exited code e = let x = ((runs_end_as_their_lists image id harts entries status run).exited code e).exit in omega (arith, x.code_is)

-- ---- all harts

pub runs_in_range : (image : Initial) (harts id : ℕ) (lists : List (List Retired)) (statuses : List Status) → IsImage image → are_runs_from image harts id lists statuses ≡ true → AllByRecursion (AllByRecursion HasWords) lists × AllByRecursion HasCode statuses
runs_in_range image harts id [] [] is e = (tt, tt)
runs_in_range image harts id (entries ∷ lists) (status ∷ statuses) is e =
    let p = and_parts (is_run image id harts entries status) (are_runs_from image harts (id + 1) lists statuses) e in
    let rest = runs_in_range image harts (id + 1) lists statuses is p.1 in
    ((steps_words image (at_reset image id harts) entries is (and_parts (are_steps image (at_reset image id harts) entries) _ p.0).0, rest.0), (run_code image id harts entries status p.0, rest.1))
runs_in_range image harts id [] (status ∷ statuses) is e = absurd (false≢true e)
runs_in_range image harts id (entries ∷ lists) [] is e = absurd (false≢true e)

-- ---- names

in_list : (h place : ℕ) (entries : List Retired) (name : OpId) → is_among (names_from h place entries) name ≡ true → (name.hart ≡ h) × (name.place < place + length entries)
in_list h place [] name e = absurd (false≢true e)
in_list h place (x ∷ xs) name e = go (has_operation x) (λ f. let p = in_list h (place + 1) xs name f in (p.0, omega (arith, p.1))) e
  where
    here : is_named name (record { hart = h; place = place }) ≡ true → (name.hart ≡ h) × (name.place < place + suc (length xs))
    here f = let p = and_parts (nat_eq name.hart h) (nat_eq name.place place) f in let at : name.place ≡ place = eqb-true _ _ p.1 in (eqb-true _ _ p.0, omega (arith, at))

    go : (b : Bool) → (is_among (names_from h (place + 1) xs) name ≡ true → (name.hart ≡ h) × (name.place < place + suc (length xs)))
        → is_among (cond b (record { hart = h; place = place } ∷ names_from h (place + 1) xs) (names_from h (place + 1) xs)) name ≡ true → (name.hart ≡ h) × (name.place < place + suc (length xs))
    go true behind f = elim (or_cases (is_named name (record { hart = h; place = place })) (is_among (names_from h (place + 1) xs) name) f) [ inl g ↦ here g | inr g ↦ behind g ]
    go false behind f = behind f

-- the place of a name in a list of lists, of which the first is this hart's
abbrev IsAt : ℕ → List (List Retired) → OpId → Type 0
IsAt id lists name = (k : ℕ) × (name.hart ≡ id + k) × (k < length lists) × (name.place < length (slice_index_or lists k []))

in_lists : (id : ℕ) (lists : List (List Retired)) (name : OpId) → is_among (names_of_harts id lists) name ≡ true → IsAt id lists name
in_lists id [] name e = absurd (false≢true e)
in_lists id (entries ∷ lists) name e =
    go (in_lists (id + 1) lists name) (or_cases (is_among (names_from id 0 entries) name) (is_among (names_of_harts (id + 1) lists) name) (sym (list_any-append (is_named name) (names_from id 0 entries) (names_of_harts (id + 1) lists)) ∙ e))
  where
    go : (is_among (names_of_harts (id + 1) lists) name ≡ true → IsAt (id + 1) lists name) → (is_among (names_from id 0 entries) name ≡ true) ⊎ (is_among (names_of_harts (id + 1) lists) name ≡ true) → IsAt id (entries ∷ lists) name
    go behind (inl f) = let p = in_list id 0 entries name f in (zero, omega (arith, p.0), omega arith, omega (arith, p.1))
    go behind (inr f) = let p = behind f in (suc p.0, omega (arith, p.1), omega (arith, p.2), p.3)

pub named_in_range : (t : History) (names : List OpId) → list_all (is_among (names_in t)) names ≡ true → AllByRecursion (NamesPlace t) names
named_in_range t [] e = tt
named_in_range t (name ∷ names) e =
    let p = and_parts (is_among (names_in t) name) (list_all (is_among (names_in t)) names) e in
    let q = in_lists 0 t.entries name p.0 in
    let at : q.0 ≡ name.hart = omega (arith, q.1) in
    ((subst (λ k. k < length t.entries) at q.2, subst (λ k. name.place < length (entries_of t k)) at q.3), named_in_range t names p.1)
