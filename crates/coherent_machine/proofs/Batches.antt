-- A current row is what its hart does next, and how a machine answers to the event that it is.
use Rattle.std.proofs.Common.{ℕ, ◌≡◌, ◌≢◌, ◌∙◌, refl, sym, ap, subst, List, [], ◌∷◌, length, Bool, true, false, cond, Option, None, Some, Ok, Err, inl, inr, ◌&&◌}
use Rattle.std.specs.declared.result.Result.{Result}
use Rattle.std.specs.Prelude.{nat_eq, is_none}
use Rattle.std.proofs.lemmas.Bool.{and_from, and_parts, eq-eqb, eqb-true, false≢true}
use Rattle.elf_loader.specs.Image.{Initial, word_at}
use Rattle.rv32_decode.specs.Rows.{decoded}
use Rattle.hart.specs.declared.retired.Retired.{Retired}
use Rattle.hart.specs.declared.state.Hart.{Hart}
use Rattle.hart.specs.Local.{IsPrivateRow, PrivateRow, are_private_steps, can_go_alone, is_done_alone, is_private_step, next_entry, private_row, private_row_from}
use Rattle.hart.specs.Run.{after, can_fetch, is_running, reached}
use Rattle.machine_model.specs.declared.act.Act.TheVariants as act
use Rattle.machine_types.specs.declared.outcome.Outcome.{Outcome}
use Rattle.machine_types.specs.declared.outcome.Outcome.TheVariants as outcome
use Rattle.machine_model.specs.Changing.{went_alone}
use Rattle.machine_model.specs.Events.{Verdict, counted, is_limited, verdict}
use Rattle.machine_model.specs.Events.Verdict.{IsLimited, Moves}
use Rattle.machine_model.specs.Views.{State}
use Rattle.machine_parts.specs.Applying.{Answers}
use Rattle.machine_parts.specs.declared.errors.ApplyError.{ApplyError}
use Rattle.machine_parts.specs.declared.errors.ApplyError.TheVariants.{BadEvent}
use Rattle.machine_parts.proofs.Committed.{IsNext, verdict_is}
use Rattle.coherent_machine.specs.Adopting.{IsCurrent, have_words, local_of}

none_from : {A : Type 0} (o : Option A) → is_none o ≡ true → o ≡ None
none_from None e = refl
none_from (Some x) e = absurd (false≢true e)

-- what a private step says, test by test
record Private (hart : Hart) (entry : Retired) : Type 0 where
  running : is_running hart.status ≡ true
  place : entry.pc ≡ hart.pc
  done : is_done_alone hart (decoded entry.word) ≡ true
  unread : entry.loaded ≡ None
  untried : entry.sc_ok ≡ None

private_parts : (hart : Hart) (entry : Retired) → is_private_step hart entry ≡ true → Private hart entry
private_parts hart entry e =
    let a = and_parts (is_running hart.status && nat_eq entry.pc hart.pc && is_done_alone hart (decoded entry.word) && is_none entry.loaded) (is_none entry.sc_ok) e in
    let b = and_parts (is_running hart.status && nat_eq entry.pc hart.pc && is_done_alone hart (decoded entry.word)) (is_none entry.loaded) a.0 in
    let c = and_parts (is_running hart.status && nat_eq entry.pc hart.pc) (is_done_alone hart (decoded entry.word)) b.0 in
    let d = and_parts (is_running hart.status) (nat_eq entry.pc hart.pc) c.0 in
    record { running = d.0; place = eqb-true entry.pc hart.pc d.1; done = c.1; unread = none_from entry.loaded b.1; untried = none_from entry.sc_ok a.1 }

abbrev entry_with : ℕ → ℕ → Option ℕ → Option Bool → Retired
entry_with pc word loaded sc_ok = record { pc = pc; word = word; loaded = loaded; sc_ok = sc_ok }

entry_is : (image : Initial) (hart : Hart) (entry : Retired) → Private hart entry → entry.word ≡ word_at image entry.pc → entry ≡ next_entry image hart
entry_is image hart entry p w =
    ap (λ (x : ℕ). entry_with x entry.word entry.loaded entry.sc_ok) p.place
    ∙ (ap (λ (x : ℕ). entry_with hart.pc x entry.loaded entry.sc_ok) (w ∙ ap (word_at image) p.place)
    ∙ (ap (λ (x : Option ℕ). entry_with hart.pc (word_at image hart.pc) x entry.sc_ok) p.unread
    ∙ ap (entry_with hart.pc (word_at image hart.pc) None) p.untried))

goes_by : (image : Initial) (hart : Hart) (entry : Retired) → Private hart entry → can_fetch image entry.pc ≡ true → entry.word ≡ word_at image entry.pc → can_go_alone image hart ≡ true
goes_by image hart entry p f w =
    and_from _ _ (and_from _ _ p.running (sym (ap (can_fetch image) p.place) ∙ f)) (sym (ap (λ (x : ℕ). is_done_alone hart (decoded x)) (w ∙ ap (word_at image) p.place)) ∙ p.done)

-- a row of private steps whose words are the image's is the longest of as many instructions
pub row_is : (image : Initial) (hart : Hart) (entries : List Retired) → are_private_steps hart entries ≡ true → have_words image entries ≡ true → private_row image hart (length entries) ≡ entries
row_is image hart [] a w = refl
row_is image hart (entry ∷ rest) a w =
    let s = and_parts (is_private_step hart entry) (are_private_steps (after hart entry) rest) a in
    let v = and_parts (can_fetch image entry.pc && nat_eq entry.word (word_at image entry.pc)) (have_words image rest) w in
    let t = and_parts (can_fetch image entry.pc) (nat_eq entry.word (word_at image entry.pc)) v.0 in
    let p = private_parts hart entry s.0 in
    let word = eqb-true entry.word (word_at image entry.pc) t.1 in
    let same = entry_is image hart entry p word in
    ap (λ (b : Bool). cond b (next_entry image hart ∷ private_row image (after hart (next_entry image hart)) (length rest)) []) (goes_by image hart entry p t.0 word)
    ∙ (sym (ap (λ (e : Retired). e ∷ private_row image (after hart e) (length rest)) same)
    ∙ ap (λ (r : List Retired). entry ∷ r) (row_is image (after hart entry) rest s.1 v.1))

abbrev row_by : Hart → Hart → List Retired → PrivateRow
row_by first last entries = record { first = first; last = last; entries = entries }

-- a current row is what its hart does next
pub next_row : (h : ℕ) (row : PrivateRow) (s : State) → IsPrivateRow row → IsCurrent h row s → IsNext h row s
next_row h row s r c =
    let image = s.trace.image in
    let n = length row.entries in
    ap (λ (last : Hart). row_by row.first last row.entries) r.leads
    ∙ (ap (λ (entries : List Retired). row_by row.first (reached row.first entries) entries) (sym (row_is image row.first row.entries r.alone c.words))
    ∙ ap (λ (first : Hart). private_row_from image first n) (sym c.stands))

-- ---- answers to the event

abbrev pub limits_or : Bool → State → Verdict
limits_or b moved = cond b IsLimited (Moves outcome.Retired moved)

moved_by : (b : Bool) (moved s new : State) (o : Outcome) (result : Result Outcome ApplyError) → Answers (limits_or b moved) s result new → result ≡ Ok o → (limits_or b moved ≡ Moves o new) × (o ≡ outcome.Retired)
moved_by true moved s new o result a e = absurd (cc (a.0, e))
moved_by false moved s new o result a e =
    elim a [
      | inl x ↦ let same : o ≡ outcome.Retired = cc (x.0, e) in (ap (λ (p : Outcome). Moves p moved) (sym same) ∙ ap (Moves o) (sym x.1), same)
      | inr x ↦ absurd (cc (x.0, e))
    ]

never_bad_by : (b : Bool) (moved s new : State) (result : Result Outcome ApplyError) → Answers (limits_or b moved) s result new → result ≡ Err BadEvent → ⊥
never_bad_by true moved s new result a e = absurd (cc (a.0, e))
never_bad_by false moved s new result a e = elim a [ inl x ↦ absurd (cc (x.0, e)) | inr x ↦ absurd (cc (x.0, e)) ]

-- a current row that isn't empty
pub record Fits (h : ℕ) (row : PrivateRow) (s : State) : Type 0 where
  pub is_row : IsPrivateRow row
  pub current : IsCurrent h row s
  pub some : row.entries ≢ []

pub fits_by : (h : ℕ) (row : PrivateRow) (s t : State) (entries : List Retired) (b : Bool) → IsPrivateRow row → entries ≡ row.entries → t ≡ s → IsCurrent h row t → b ≡ nat_eq (length entries) 0 → b ≡ false → Fits h row s
fits_by h row s t entries b r e v c l f = record {
  is_row = r;
  current = subst (IsCurrent h row) v c;
  some = λ (q : row.entries ≡ []). false≢true (sym f ∙ (l ∙ eq-eqb (length entries) 0 (ap (λ (x : List Retired). length x) (e ∙ q))));
}

-- the machine after the row
abbrev went : ℕ → PrivateRow → State → State
went h row s = counted (went_alone h (length row.entries) s)

verdict_fits : (h : ℕ) (row : PrivateRow) (s : State) → Fits h row s → verdict s (local_of h row) ≡ limits_or (is_limited s h (act.Local (length row.entries))) (went h row s)
verdict_fits h row s f = verdict_is h row s f.current.there f.is_row.few f.some (next_row h row s f.is_row f.current)

answers_by : (h : ℕ) (row : PrivateRow) (s new : State) (result : Result Outcome ApplyError) → Fits h row s → Answers (verdict s (local_of h row)) s result new → Answers (limits_or (is_limited s h (act.Local (length row.entries))) (went h row s)) s result new
answers_by h row s new result f a = subst (λ (v : Verdict). Answers v s result new) (verdict_fits h row s f) a

pub moved_when : (h : ℕ) (row : PrivateRow) (s new : State) (o : Outcome) (result : Result Outcome ApplyError) → Fits h row s → Answers (verdict s (local_of h row)) s result new → result ≡ Ok o → (verdict s (local_of h row) ≡ Moves o new) × (o ≡ outcome.Retired)
moved_when h row s new o result f a e =
    let m = moved_by (is_limited s h (act.Local (length row.entries))) (went h row s) s new o result (answers_by h row s new result f a) e in
    (verdict_fits h row s f ∙ m.0, m.1)

pub never_bad : (h : ℕ) (row : PrivateRow) (s new : State) (result : Result Outcome ApplyError) → Fits h row s → Answers (verdict s (local_of h row)) s result new → result ≡ Err BadEvent → ⊥
never_bad h row s new result f a e = never_bad_by (is_limited s h (act.Local (length row.entries))) (went h row s) s new result (answers_by h row s new result f a) e
