-- The event that a row of private instructions from where its hart stands comes to.
use Rattle.std.proofs.Common.{ℕ, zero, suc, ◌≡◌, ◌≢◌, ◌∙◌, ◌<◌, ◌≤◌, refl, sym, ap, List, [], ◌∷◌, length, Bool, true, false, cond, not, ◌&&◌, arith, subst, inl, inr, Ok, Err}
use Rattle.std.specs.Prelude.{nat_eq}
use Rattle.std.specs.declared.result.Result.{Result}
use Rattle.std.specs.Result.{IsErrAnd}
use Rattle.std.proofs.lemmas.Result.{err_from_is_err_and}
use Rattle.std.proofs.lemmas.Bool.{and_from, and_parts, eq-eqb, le-leb, lt-ltb}
use Rattle.elf_loader.specs.Image.{Initial, word_at}
use Rattle.rv32_decode.specs.Rows.{decoded}
use Rattle.hart.specs.declared.retired.Retired.{Retired}
use Rattle.hart.specs.declared.state.Hart.{Hart}
use Rattle.hart.specs.Local.{PrivateRow, can_go_alone, is_done_alone, private_row, private_row_from}
use Rattle.hart.specs.Run.{can_fetch, is_running}
use Rattle.machine_model.specs.declared.act.Act.TheVariants as act
use Rattle.machine_model.specs.declared.act.Plan.TheVariants.{Stays, Changes}
use Rattle.machine_types.specs.declared.event.Event.TheVariants.{Local}
use Rattle.machine_types.specs.declared.limits.TheConstants.{MAX_ROW}
use Rattle.machine_types.specs.declared.outcome.Outcome.{Outcome}
use Rattle.machine_types.specs.declared.outcome.Outcome.TheVariants as outcome
use Rattle.machine_model.specs.Changing.{went_alone}
use Rattle.machine_model.specs.Events.{Verdict, counted, is_good, is_limited, plan_of, verdict, verdict_by}
use Rattle.machine_model.specs.Events.Verdict.{IsBad, IsLimited, Moves}
use Rattle.machine_model.specs.Views.{State, node_at}
use Rattle.machine_parts.specs.Applying.{Answers}
use Rattle.machine_parts.specs.declared.errors.ApplyError.{ApplyError}
use Rattle.machine_parts.specs.declared.errors.ApplyError.TheVariants.{Limit, NoMemory}

-- the batch is the hart's next private instructions
abbrev pub IsNext : ℕ → PrivateRow → State → Type 0
IsNext h row s = row ≡ private_row_from s.trace.image (node_at s h).hart (length row.entries)

some_length : {A : Type 0} (xs : List A) → (xs ≢ []) → 1 ≤ length xs
some_length [] some = absurd (some refl)
some_length (x ∷ xs) some = omega arith

running_by : (image : Initial) (hart : Hart) (b : Bool) (more : List Retired) → can_go_alone image hart ≡ b → (cond b more [] ≢ []) → is_running hart.status ≡ true
running_by image hart true more e some = (and_parts (is_running hart.status) (can_fetch image hart.pc) (and_parts (is_running hart.status && can_fetch image hart.pc) (is_done_alone hart (decoded (word_at image hart.pc))) e).0).0
running_by image hart false more e some = absurd (some refl)

running : (image : Initial) (hart : Hart) (n : ℕ) → (private_row image hart n ≢ []) → is_running hart.status ≡ true
running image hart zero some = absurd (some refl)
running image hart (suc n) some = running_by image hart (can_go_alone image hart) _ refl some

good : (h : ℕ) (row : PrivateRow) (s : State) → h < length s.views.nodes → length row.entries ≤ MAX_ROW → (row.entries ≢ []) → is_good s (Local h (length row.entries)) ≡ true
good h row s there few some =
    and_from _ _ (lt-ltb h (length s.views.nodes) there)
    (and_from _ _ (le-leb 1 (length row.entries) (some_length row.entries some)) (le-leb (length row.entries) MAX_ROW few))

planned : (h : ℕ) (row : PrivateRow) (s : State) → (row.entries ≢ []) → IsNext h row s → plan_of s (Local h (length row.entries)) ≡ Changes (act.Local (length row.entries))
planned h row s some next =
    let n = length row.entries in
    let hart = (node_at s h).hart in
    let same : private_row s.trace.image hart n ≡ row.entries = sym (ap (λ (r : PrivateRow). r.entries) next) in
    let runs = running s.trace.image hart n (λ (e : private_row s.trace.image hart n ≡ []). some (sym same ∙ e)) in
    ap (λ (b : Bool). cond (not b) (Stays outcome.Halted) (cond (nat_eq (length (private_row s.trace.image hart n)) n) (Changes (act.Local n)) (Stays outcome.NotLocal))) runs
    ∙ ap (λ (b : Bool). cond b (Changes (act.Local n)) (Stays outcome.NotLocal)) (eq-eqb (length (private_row s.trace.image hart n)) n (ap (λ (x : List Retired). length x) same))

abbrev pub verdict_of_row : Bool → ℕ → ℕ → State → Verdict
verdict_of_row limited h count s = cond limited IsLimited (Moves outcome.Retired (counted (went_alone h count s)))

pub verdict_is : (h : ℕ) (row : PrivateRow) (s : State) → h < length s.views.nodes → length row.entries ≤ MAX_ROW → (row.entries ≢ []) → IsNext h row s
    → verdict s (Local h (length row.entries)) ≡ verdict_of_row (is_limited s h (act.Local (length row.entries))) h (length row.entries) s
verdict_is h row s there few some next =
    ap (λ (b : Bool). cond b (verdict_by s h (plan_of s (Local h (length row.entries)))) IsBad) (good h row s there few some)
    ∙ ap (verdict_by s h) (planned h row s some next)

-- ---- the answers to it

-- the row is not empty, and is what its hart does next
pub record Fits (h : ℕ) (row : PrivateRow) (s : State) : Type 0 where
  pub there : h < length s.views.nodes
  pub few : length row.entries ≤ MAX_ROW
  pub some : row.entries ≢ []
  pub next : IsNext h row s

answers_by : (h : ℕ) (row : PrivateRow) (s new : State) (result : Result Outcome ApplyError) (entries : List Retired) (b : Bool) → Fits h row s → entries ≡ row.entries
    → b ≡ is_limited s h (act.Local (length entries))
    → Answers (verdict_of_row b h (length row.entries) s) s result new
    → Answers (verdict s (Local h (length row.entries))) s result new
answers_by h row s new result entries b f e l a =
    let limit = l ∙ ap (λ (x : List Retired). is_limited s h (act.Local (length x))) e in
    subst (λ (v : Verdict). Answers v s result new) (ap (λ (c : Bool). verdict_of_row c h (length row.entries) s) limit ∙ sym (verdict_is h row s f.there f.few f.some f.next)) a

pub limited : (h : ℕ) (row : PrivateRow) (s : State) (entries : List Retired) (b : Bool) → Fits h row s → entries ≡ row.entries → b ≡ is_limited s h (act.Local (length entries)) → b ≡ true
    → Answers (verdict s (Local h (length row.entries))) s (Err Limit) s
limited h row s entries b f e l t = answers_by h row s s (Err Limit) entries true f e (sym t ∙ l) (refl, refl)

is_no_memory : (result : Result Outcome ApplyError) → IsErrAnd result (λ error. error ≡ NoMemory) → result ≡ Err NoMemory
is_no_memory result r = let e = err_from_is_err_and result r in e.1 ∙ ap (λ (x : ApplyError). Err x) e.2

pub wanting : (h : ℕ) (row : PrivateRow) (s new : State) (result : Result Outcome ApplyError) (entries : List Retired) (b : Bool) → Fits h row s → entries ≡ row.entries → b ≡ is_limited s h (act.Local (length entries)) → b ≡ false
    → IsErrAnd result (λ error. error ≡ NoMemory) → new ≡ s
    → Answers (verdict s (Local h (length row.entries))) s result new
wanting h row s new result entries b f e l t r n = answers_by h row s new result entries false f e (sym t ∙ l) (inr (is_no_memory result r, n, λ code q. cc (q)))

pub committed : (h : ℕ) (row : PrivateRow) (s kept new : State) (entries : List Retired) (b : Bool) → Fits h row s → entries ≡ row.entries → b ≡ is_limited s h (act.Local (length entries)) → b ≡ false
    → kept ≡ s → new ≡ went_alone h (length row.entries) kept
    → Answers (verdict s (Local h (length row.entries))) s (Ok outcome.Retired) (counted new)
committed h row s kept new entries b f e l t k n =
    answers_by h row s (counted new) (Ok outcome.Retired) entries false f e (sym t ∙ l) (inl (refl, ap counted (n ∙ ap (went_alone h (length row.entries)) k)))
