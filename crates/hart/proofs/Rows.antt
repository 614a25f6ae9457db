-- Rows of private instructions: the longest one is a row, and how it goes on.
use Rattle.std.proofs.Common.{◌≡◌, ℕ, zero, suc, ◌+◌, ◌-◌, ◌<◌, ◌≤◌, List, [], ◌∷◌, ◌++◌, Bool, true, false, Option, Some, None, refl, cond, sym, ap, ◌∙◌, subst, ◌&&◌, length, arith, append_assoc}
use Rattle.std.proofs.lemmas.List.{append-nil}
use Rattle.std.specs.Prelude.{nat_le, ◌↔◌}
use Rattle.std.proofs.lemmas.Bool.{false≢true, and_parts, and_from, and_left, and_right, cond-false, cond-true, eq-eqb, le-leb, leb-true}
use Rattle.rv32_exec.specs.Image.{Initial, HasWord, word_at, end_of}
use Rattle.rv32_exec.specs.Size.{base}
use Rattle.machine_types.specs.declared.limits.TheConstants.{MAX_ROW}
use Rattle.rv32_decode.specs.Rows.{decoded}
use Rattle.rv32_decode.specs.declared.instruction.Instr.{Instr}
use Rattle.rv32_decode.specs.declared.instruction.Instr.TheVariants as instr
use Rattle.rv32_decode.specs.declared.instruction.SystemOp.TheVariants.{Ecall, Ebreak}
use Rattle.rv32_exec.specs.Meaning.{Access, Private, Loads, Stores, DoesLr, DoesSc, DoesAmo, Fences, Calls, access_of, stop_of}
use Rattle.hart.specs.declared.retired.Retired.{Retired}
use Rattle.hart.specs.declared.state.Hart.{Hart}
use Rattle.hart.specs.declared.status.Status.TheVariants.{Running}
use Rattle.hart.specs.Run.{after, can_fetch, is_running, reached, status_after}
use Rattle.hart.specs.Local.{is_done_alone, can_go_alone, next_entry, next_step, private_row, is_private_step, are_private_steps, IsPrivateRow, is_private, PrivateRow, private_row_from}

goes_alone : (image : Initial) (hart : Hart) → can_go_alone image hart ≡ true → is_private_step hart (next_entry image hart) ≡ true
goes_alone image hart e =
    let p = and_parts (is_running hart.status && can_fetch image hart.pc) (is_done_alone hart (decoded (word_at image hart.pc))) e in
    let q = and_parts (is_running hart.status) (can_fetch image hart.pc) p.0 in
    and_from _ _ (and_from _ _ (and_from _ _ (and_from _ _ q.0 (eq-eqb hart.pc hart.pc refl)) p.1) refl) refl

row_alone : (image : Initial) (hart : Hart) (n : ℕ) → are_private_steps hart (private_row image hart n) ≡ true
row_alone image hart zero = refl
row_alone image hart (suc n) = go (can_go_alone image hart) refl (row_alone image (after hart (next_entry image hart)) n)
  where
    go : (b : Bool) → can_go_alone image hart ≡ b → are_private_steps (after hart (next_entry image hart)) (private_row image (after hart (next_entry image hart)) n) ≡ true
        → are_private_steps hart (cond b (next_entry image hart ∷ private_row image (after hart (next_entry image hart)) n) []) ≡ true
    go true e ih = and_from _ _ (goes_alone image hart e) ih
    go false e ih = refl

row_few : (image : Initial) (hart : Hart) (n : ℕ) → length (private_row image hart n) ≤ n
row_few image hart zero = omega arith
row_few image hart (suc n) = go (can_go_alone image hart) (row_few image (after hart (next_entry image hart)) n)
  where
    go : (b : Bool) → length (private_row image (after hart (next_entry image hart)) n) ≤ n → length (cond b (next_entry image hart ∷ private_row image (after hart (next_entry image hart)) n) []) ≤ suc n
    go true h = omega arith
    go false h = omega arith

pub row_of-IsRow : (image : Initial) (hart : Hart) (n : ℕ) → n ≤ MAX_ROW → IsPrivateRow (private_row_from image hart n)
row_of-IsRow image hart n l = let f = row_few image hart n in record { few = omega arith; alone = row_alone image hart n; leads = refl }

-- what the row of a hart is while there is room
pub private_row-more : (image : Initial) (hart : Hart) (n : ℕ) → 0 < n → private_row image hart n ≡ cond (can_go_alone image hart) (next_entry image hart ∷ private_row image (after hart (next_entry image hart)) (n - 1)) []
private_row-more image hart zero l = absurd (omega (arith, l))
private_row-more image hart (suc n) l =
    ap (λ (m : ℕ). cond (can_go_alone image hart) (next_entry image hart ∷ private_row image (after hart (next_entry image hart)) m) []) (less n)
  where
    less : (n : ℕ) → n ≡ suc n - 1
    less n = omega arith

pub reached-push : (hart : Hart) (xs : List Retired) (entry : Retired) → reached hart (xs ++ entry ∷ []) ≡ after (reached hart xs) entry
reached-push hart [] entry = refl
reached-push hart (x ∷ xs) entry = reached-push (after hart x) xs entry

-- ---- one step

-- memory's size is of no matter to a private instruction
pub stop_of-private : (i : Instr) (pc : ℕ) (x : List ℕ) (m n : ℕ) → access_of i x ≡ Private → stop_of i pc x m ≡ stop_of i pc x n
stop_of-private (instr.Upper op rd imm) pc x m n e = refl
stop_of-private (instr.Jal rd offset) pc x m n e = refl
stop_of-private (instr.Jalr rd rs1 offset) pc x m n e = refl
stop_of-private (instr.Branch op rs1 rs2 offset) pc x m n e = refl
stop_of-private (instr.Load op rd rs1 offset) pc x m n e = cc
stop_of-private (instr.Store op rs1 rs2 offset) pc x m n e = cc
stop_of-private (instr.Immediate op rd rs1 imm) pc x m n e = refl
stop_of-private (instr.Shift op rd rs1 amount) pc x m n e = refl
stop_of-private (instr.Register op rd rs1 rs2) pc x m n e = refl
stop_of-private (instr.Fence sets) pc x m n e = refl
stop_of-private instr.FenceTso pc x m n e = refl
stop_of-private (instr.System Ecall) pc x m n e = refl
stop_of-private (instr.System Ebreak) pc x m n e = refl
stop_of-private (instr.Lr rd rs1 bits) pc x m n e = cc
stop_of-private (instr.Sc rd rs1 rs2 bits) pc x m n e = cc
stop_of-private (instr.Amo op rd rs1 rs2 bits) pc x m n e = cc

pub private_runs_on : (a : Access) → is_private a ≡ true → status_after a ≡ Running
private_runs_on Private e = refl
private_runs_on (Loads address bytes) e = absurd (false≢true e)
private_runs_on (Stores address bytes value) e = absurd (false≢true e)
private_runs_on (DoesLr address) e = absurd (false≢true e)
private_runs_on (DoesSc address value) e = absurd (false≢true e)
private_runs_on (DoesAmo address op operand) e = absurd (false≢true e)
private_runs_on Fences e = absurd (false≢true e)
private_runs_on (Calls number argument) e = absurd (false≢true e)

-- whether a hart can go on alone, by what is tested in turn
can_fetch-is : (image : Initial) (pc : ℕ) (b : Bool) → (b ≡ true) ↔ HasWord image pc → can_fetch image pc ≡ b
can_fetch-is image pc true h = let w = h.0 refl in and_from _ _ (le-leb base pc w.0) (le-leb (pc + 4) (end_of image) w.1)
can_fetch-is image pc false h = go (can_fetch image pc) refl
  where
    go : (c : Bool) → can_fetch image pc ≡ c → can_fetch image pc ≡ false
    go false e = e
    go true e = let p = and_parts (nat_le base pc) (nat_le (pc + 4) (end_of image)) e in absurd (false≢true (h.1 (leb-true base pc p.0, leb-true (pc + 4) (end_of image) p.1)))

pub alone-outside : (image : Initial) (hart : Hart) (b : Bool) → (b ≡ true) ↔ HasWord image hart.pc → b ≡ false → can_go_alone image hart ≡ false
alone-outside image hart b h e = and_left (is_running hart.status && can_fetch image hart.pc) (is_done_alone hart (decoded (word_at image hart.pc))) (and_right (is_running hart.status) (can_fetch image hart.pc) (can_fetch-is image hart.pc b h ∙ e))

abbrev pub pair : Retired → Hart → Retired × Hart
pair entry hart = (entry, hart)

-- ---- the longest row, step by step

abbrev pub row_with : Hart → Hart → List Retired → PrivateRow
row_with first last entries = record { first = first; last = last; entries = entries }

pub record Taken (image : Initial) (hart : Hart) (entry : Retired) (next : Hart) : Type 0 where
  pub goes : can_go_alone image hart ≡ true
  pub entry_is : entry ≡ next_entry image hart
  pub next_is : next ≡ after hart (next_entry image hart)

taken_by : (b : Bool) (e f : Retired) (h n : Hart) → cond b (Some (pair e h)) None ≡ Some (pair f n) → (b ≡ true) × (f ≡ e) × (n ≡ h)
taken_by true e f h n q = let p : pair e h ≡ pair f n = cc in (refl, sym (ap (λ (v : Retired × Hart). v.0) p), sym (ap (λ (v : Retired × Hart). v.1) p))
taken_by false e f h n q = cc

pub step_taken : (image : Initial) (hart : Hart) (o : Option (Retired × Hart)) (entry : Retired) (next : Hart)
    → o ≡ cond (can_go_alone image hart) (Some (next_step image hart)) None
    → o ≡ Some (pair entry next)
    → Taken image hart entry next
step_taken image hart o entry next e f = let t = taken_by (can_go_alone image hart) (next_entry image hart) entry (after hart (next_entry image hart)) next (sym e ∙ f) in record { goes = t.0; entry_is = t.1; next_is = t.2 }

some_by : (b : Bool) (e f : Retired) → Some f ≡ cond b (Some e) None → (b ≡ true) × (f ≡ e)
some_by true e f q = (refl, cc)
some_by false e f q = cc

-- a hart that retired an entry alone
pub gone : (image : Initial) (hart next : Hart) (o : Option Retired) (entry : Retired)
    → o ≡ cond (can_go_alone image hart) (Some (next_entry image hart)) None
    → next ≡ cond (can_go_alone image hart) (after hart (next_entry image hart)) hart
    → o ≡ Some entry
    → Taken image hart entry next
gone image hart next o entry e n f =
    let t = some_by (can_go_alone image hart) (next_entry image hart) entry (sym f ∙ e) in
    record { goes = t.0; entry_is = t.1; next_is = n ∙ cond-true (can_go_alone image hart) (after hart (next_entry image hart)) hart t.0 }

pub taken_is : (image : Initial) (hart next : Hart) (entry : Retired) → Taken image hart entry next → Some (pair entry next) ≡ cond (can_go_alone image hart) (Some (next_step image hart)) None
taken_is image hart next entry t =
    ap (λ (e : Retired). Some (pair e next)) t.entry_is ∙ (ap (λ (h : Hart). Some (pair (next_entry image hart) h)) t.next_is ∙ sym (cond-true (can_go_alone image hart) (Some (next_step image hart)) None t.goes))

none_by : (b : Bool) (e : Retired) → None ≡ cond b (Some e) None → b ≡ false
none_by true e q = cc
none_by false e q = refl

-- a hart that can't go alone
pub stays : (image : Initial) (hart : Hart) (o : Option Retired)
    → o ≡ cond (can_go_alone image hart) (Some (next_entry image hart)) None
    → o ≡ None
    → can_go_alone image hart ≡ false
stays image hart o e f = none_by (can_go_alone image hart) (next_entry image hart) (sym f ∙ e)

pub no_row : (image : Initial) (hart : Hart) (room : ℕ) → 0 < room → can_go_alone image hart ≡ false → private_row image hart room ≡ []
no_row image hart room l e =
    private_row-more image hart room l ∙ cond-false (can_go_alone image hart) (next_entry image hart ∷ private_row image (after hart (next_entry image hart)) (room - 1)) [] e

refused_by : (b : Bool) (p : Retired × Hart) → cond b (Some p) None ≡ None → b ≡ false
refused_by true p q = cc
refused_by false p q = refl

pub row_goes : (image : Initial) (hart last next : Hart) (entry : Retired) (items new : List Retired) (most room : ℕ)
    → private_row image hart most ≡ items ++ private_row image last room
    → 0 < room
    → Taken image last entry next
    → new ≡ items ++ entry ∷ []
    → private_row image hart most ≡ new ++ private_row image next (room - 1)
row_goes image hart last next entry items new most room row l t n =
    row
    ∙ (ap (λ (r : List Retired). items ++ r) (private_row-more image last room l ∙ ap (λ (b : Bool). cond b (next_entry image last ∷ private_row image (after last (next_entry image last)) (room - 1)) []) t.goes)
    ∙ (sym (append_assoc items (next_entry image last ∷ []) (private_row image (after last (next_entry image last)) (room - 1)))
    ∙ (ap (λ (r : List Retired). r ++ private_row image (after last (next_entry image last)) (room - 1)) (ap (λ (e : Retired). items ++ e ∷ []) (sym t.entry_is) ∙ sym n)
    ∙ ap (λ (h : Hart). new ++ private_row image h (room - 1)) (sym t.next_is))))

pub row_leads : (image : Initial) (hart last next : Hart) (entry : Retired) (items new : List Retired) → last ≡ reached hart items → Taken image last entry next → new ≡ items ++ entry ∷ [] → next ≡ reached hart new
row_leads image hart last next entry items new leads t n =
    t.next_is ∙ (ap (λ (e : Retired). after last e) (sym t.entry_is) ∙ (ap (λ (h : Hart). after h entry) leads ∙ (sym (reached-push hart items entry) ∙ ap (reached hart) (sym n))))

pub none_without_room : (image : Initial) (hart : Hart) (room : ℕ) → room ≤ 0 → private_row image hart room ≡ []
none_without_room image hart zero l = refl
none_without_room image hart (suc n) l = absurd (omega (arith, l))

pub none_refused : (image : Initial) (hart : Hart) (room : ℕ) (o : Option (Retired × Hart)) → 0 < room
    → o ≡ cond (can_go_alone image hart) (Some (next_step image hart)) None
    → o ≡ None
    → private_row image hart room ≡ []
none_refused image hart room o l e f = no_row image hart room l (refused_by (can_go_alone image hart) (next_step image hart) (sym e ∙ f))

pub row_done : (image : Initial) (hart last : Hart) (items : List Retired) (most room : ℕ)
    → private_row image hart most ≡ items ++ private_row image last room
    → last ≡ reached hart items
    → private_row image last room ≡ []
    → record { first = hart; last = last; entries = items } ≡ private_row_from image hart most
row_done image hart last items most room row leads none =
    let e : items ≡ private_row image hart most = sym (row ∙ (ap (λ (r : List Retired). items ++ r) none ∙ append-nil items)) in
    ap (λ (h : Hart). row_with hart h items) leads ∙ ap (λ (es : List Retired). row_with hart (reached hart es) es) e

pub the_row : (image : Initial) (hart last : Hart) (items : List Retired) (most : ℕ) → most ≤ MAX_ROW → record { first = hart; last = last; entries = items } ≡ private_row_from image hart most → IsPrivateRow (record { first = hart; last = last; entries = items })
the_row image hart last items most few e = subst IsPrivateRow (sym e) (row_of-IsRow image hart most few)
