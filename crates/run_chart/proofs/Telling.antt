-- Which row an event has.
use Rattle.std.proofs.Common.{ℕ, ◌≡◌, ◌∙◌, ◌+◌, ◌-◌, ◌≤◌, refl, sym, ap, List, [], ◌∷◌, ◌++◌, append_assoc, length, Ok, Option, inl, inr, arith, get_or, take, drop, true, false, Bool, Err}
use Rattle.std.proofs.lemmas.List.{append-nil, length-drop, map-append, take_all}
use Rattle.std.specs.Prelude.{OnOk, map}
use Rattle.std.specs.declared.result.Result.{Result}
use Rattle.run_chart.specs.declared.rows.Row.{Row}
use Rattle.event_stream.specs.Reports.{Report}
use Rattle.event_stream.specs.Telling.{report_behind}
use Rattle.machine_types.specs.declared.event.Event.{Event}
use Rattle.machine_types.specs.declared.outcome.Outcome.{Outcome}
use Rattle.machine_model.specs.Events.{Verdict, happens, verdict}
use Rattle.machine_model.specs.Events.Verdict.{IsBad, Keeps, IsLimited, Moves}
use Rattle.machine_model.specs.Laws.{ChangesAreCounted}
use Rattle.machine_model.specs.Views.{State}
use Rattle.event_stream.specs.Applying.{Answers}
use Rattle.run_chart.specs.declared.before.Before.{Before}
use Rattle.run_chart.specs.declared.gathering.Gathered.{Gathered}
use Rattle.run_chart.specs.Rows.{Told, before, is_shown, line_behind, report_since, row, row_between, rows_at, rows_by, rows_of, shown, told}
use Rattle.run_chart.specs.Stories.{IsRowTold}
use Rattle.tl_types.specs.declared.line.LineSize.{LineSize}

stays : (v : Verdict) (w : LineSize) (only : Option ℕ) (columns : List ℕ) (line index : ℕ) (s new : State) (e : Event) (o : Outcome) → Answers v s (Ok o) new
    → ((p : Outcome) (moved : State) → v ≡ Moves p moved → moved.views.changes ≡ s.views.changes + 1) → new.views.changes ≡ s.views.changes
    → rows_by v w only columns line index s e ≡ []
stays IsBad w only columns line index s new e o a counted same = refl
stays (Keeps p) w only columns line index s new e o a counted same = refl
stays IsLimited w only columns line index s new e o a counted same = refl
stays (Moves p moved) w only columns line index s new e o a counted same = elim a [
  | inl x ↦ (let more = counted p moved refl in let here = ap (λ (t : State). t.views.changes) x.1 in absurd (omega (arith, more, here, same)))
  | inr x ↦ absurd (cc (x.0))
]

-- an event behind which as many events have changed the machine has no row
pub none_told : ChangesAreCounted → (w : LineSize) (only : Option ℕ) (columns : List ℕ) (line index : ℕ) (s new : State) (e : Event) (o : Outcome) → Answers (verdict s e) s (Ok o) new → new.views.changes ≡ s.views.changes
    → rows_at w only columns line index s e ≡ []
none_told counted w only columns line index s new e o a same = stays (verdict s e) w only columns line index s new e o a (counted s e) same

moves : (v : Verdict) (s new : State) (o : Outcome) → Answers v s (Ok o) new → (new.views.changes ≡ s.views.changes → ⊥) → v ≡ Moves o new
moves IsBad s new o a h = absurd (cc (a.0))
moves (Keeps p) s new o a h = absurd (h (ap (λ (t : State). t.views.changes) a.1))
moves IsLimited s new o a h = absurd (cc (a.0))
moves (Moves p moved) s new o a h = elim a [
  | inl x ↦ (let same : p ≡ o = cc (x.0) in ap (λ (q : Outcome). Moves q moved) same ∙ ap (Moves o) (sym x.1))
  | inr x ↦ absurd (cc (x.0))
]

-- the row of an event that changed the machine, as it was told
pub row_told : (only : Option ℕ) (columns : List ℕ) (line index : ℕ) (s new : State) (e : Event) (o : Outcome) (b : Before) (r : Report) (t : Told) → b ≡ before s e → r ≡ report_behind b.lengths b.action new index e o → t ≡ row only columns b new line r
    → t ≡ row_between only columns line index s e o new
row_told only columns line index s new e o b r t eb er et =
    et
    ∙ ap (λ (x : Report). row only columns b new line x) er
    ∙ ap (λ (x : Before). row only columns x new line (report_behind x.lengths x.action new index e o)) eb

-- an event that changed the machine has this row, where it is shown
pub one_told : (w : LineSize) (only : Option ℕ) (columns : List ℕ) (line index : ℕ) (s new : State) (e : Event) (o : Outcome) (b : Before) (r : Report) (t : Told) → Answers (verdict s e) s (Ok o) new → (new.views.changes ≡ s.views.changes → ⊥)
    → b ≡ before s e → r ≡ report_behind b.lengths b.action new index e o → t ≡ row only columns b new line r
    → rows_at w only columns line index s e ≡ shown (is_shown w only b.address r.log) t
one_told w only columns line index s new e o b r t a h eb er et =
    ap (λ (v : Verdict). rows_by v w only columns line index s e) (moves (verdict s e) s new o a h)
    ∙ ap (λ (x : Told). shown (is_shown w only (before s e).address (report_since index s e o new).log) x) (sym (row_told only columns line index s new e o b r t eb er et))
    ∙ ap (λ (x : Before). shown (is_shown w only x.address (report_behind x.lengths x.action new index e o).log) t) (sym eb)
    ∙ ap (λ (x : Report). shown (is_shown w only b.address x.log) t) (sym er)

pub rest_is : {A : Type 0} (xs : List A) (d : A) → 1 ≤ length xs → xs ≡ get_or xs 0 d ∷ take (length xs - 1) (drop 1 xs)
rest_is {A = A} [] d some = absurd (omega (arith, some))
rest_is {A = A} (x ∷ xs) d some = ap (λ (r : List A). x ∷ r) (sym (take_all (length (x ∷ xs) - 1) (drop 1 (x ∷ xs)) (omega (arith, length-drop 1 (x ∷ xs)))))

pub rest_place : {A : Type 0} (xs : List A) (index count : ℕ) → 1 ≤ length xs → index + length xs ≡ count → index + 1 + length (take (length xs - 1) (drop 1 xs)) ≡ count
rest_place {A = A} xs index count some p =
    let same = ap (λ (r : List A). length r) (take_all (length xs - 1) (drop 1 xs) (omega (arith, length-drop 1 xs))) in
    omega (arith, some, p, same, length-drop 1 xs)

-- the events that are left complete the rows
pub rows_next : (w : LineSize) (only : Option ℕ) (columns : List ℕ) (line index next : ℕ) (s new : State) (events : List Event) (d : Event) (old now total : List Told) → 1 ≤ length events
    → now ≡ old ++ rows_at w only columns line index s (get_or events 0 d) → next ≡ line_behind line (rows_at w only columns line index s (get_or events 0 d)) → new ≡ happens s (get_or events 0 d)
    → old ++ rows_of w only columns line index s events ≡ total
    → now ++ rows_of w only columns next (index + 1) new (take (length events - 1) (drop 1 events)) ≡ total
rows_next w only columns line index next s new events d old now total some en el es h =
    let e = get_or events 0 d in
    let rest = take (length events - 1) (drop 1 events) in
    let later : List Told = rows_of w only columns (line_behind line (rows_at w only columns line index s e)) (index + 1) (happens s e) rest in
    ap (λ (t : List Told). t ++ rows_of w only columns next (index + 1) new rest) en
    ∙ ap (λ (l : ℕ). (old ++ rows_at w only columns line index s e) ++ rows_of w only columns l (index + 1) new rest) el
    ∙ ap (λ (m : State). (old ++ rows_at w only columns line index s e) ++ rows_of w only columns (line_behind line (rows_at w only columns line index s e)) (index + 1) m rest) es
    ∙ append_assoc old (rows_at w only columns line index s e) later
    ∙ sym (ap (λ (x : List Event). old ++ rows_of w only columns line index s x) (rest_is events d some))
    ∙ h

module _ (w : LineSize) (only : Option ℕ) (columns : List ℕ) (index : ℕ) (s : State) (e : Event) (new : State) where
  -- an event that has no row
  pub no_row : (g : Gathered) → new ≡ happens s e → rows_at w only columns g.line index s e ≡ [] → IsRowTold w only columns index s e new g g
  no_row g leads none = record {
    rows_are = sym (append-nil (map told g.rows.items)) ∙ ap (λ (ts : List Told). map told g.rows.items ++ ts) (sym none);
    line_is = ap (λ (ts : List Told). line_behind g.line ts) (sym none);
    leads = leads;
  }

  one_row : (g after : Gathered) (r : Row) → new ≡ happens s e → rows_at w only columns g.line index s e ≡ told r ∷ [] → after.rows.items ≡ g.rows.items ++ r ∷ [] → after.line ≡ r.end → IsRowTold w only columns index s e new g after
  one_row g after r leads one rows line = record {
    rows_are = ap (λ (rs : List Row). map told rs) rows ∙ map-append told g.rows.items (r ∷ []) ∙ ap (λ (ts : List Told). map told g.rows.items ++ ts) (sym one);
    line_is = line ∙ ap (λ (ts : List Told). line_behind g.line ts) (sym one);
    leads = leads;
  }

  -- an event whose row was added, if there was memory
  pub row_added : {T E : Type 0} (result : Result T E) (g after : Gathered) (r : Row) → new ≡ happens s e → rows_at w only columns g.line index s e ≡ told r ∷ [] → OnOk result (after.rows.items ≡ g.rows.items ++ r ∷ []) → OnOk result (after.line ≡ r.end)
      → OnOk result (IsRowTold w only columns index s e new g after)
  row_added (Ok x) g after r leads one rows line = one_row g after r leads one rows line
  row_added (Err x) g after r leads one rows line = tt

-- whether it is shown
pub is_listed : (b : Bool) (t : Told) (ts : List Told) → ts ≡ shown b t → b ≡ true → ts ≡ t ∷ []
is_listed b t ts e f = e ∙ ap (λ (x : Bool). shown x t) f

pub is_left_out : (b : Bool) (t : Told) (ts : List Told) → ts ≡ shown b t → b ≡ false → ts ≡ []
is_left_out b t ts e f = e ∙ ap (λ (x : Bool). shown x t) f
