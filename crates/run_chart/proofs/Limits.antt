-- When a picture would be too large.
use Rattle.std.proofs.Common.{ℕ, ◌≡◌, ◌∙◌, ◌+◌, ◌-◌, ◌<◌, ◌≤◌, Err, IfErr, Ok, Result, refl, sym, ap, subst, List, [], ◌∷◌, ◌++◌, length, Option, inl, inr, arith, get_or, take, drop, true, false, not, Bool, ◌&&◌, if◌then◌else◌}
use Rattle.std.proofs.lemmas.List.{append-nil, append_assoc, length-append, take-append-drop}
use Rattle.std.specs.Prelude.{IsErrAnd}
use Rattle.run_chart.specs.declared.rows.Note.{Note}
use Rattle.run_chart.specs.declared.rows.Noted.{Noted}
use Rattle.event_stream.specs.Machine.{Replayed, replayed_from}
use Rattle.elf_loader.specs.Image.{Initial}
use Rattle.machine_types.specs.declared.config.Config.{Config}
use Rattle.machine_types.specs.declared.event.Event.{Event}
use Rattle.machine_model.specs.Events.{Verdict, happens, verdict}
use Rattle.machine_model.specs.Events.Verdict.{IsBad, Keeps, IsLimited, Moves}
use Rattle.machine_model.specs.Views.{State, opening}
use Rattle.run_chart.specs.Copies.{has, is_about, lines_from, lines_of, with_line}
use Rattle.run_chart.specs.Lines.{noted}
use Rattle.run_chart.specs.Rows.{Told, line_behind, row_between, rows_at, rows_by, rows_of, shown}
use Rattle.run_chart.specs.Errors.{untold}
use Rattle.run_chart.specs.Stories.{AreTooMany, IsOverfull, IsUntold, only_of}
use Rattle.run_chart.specs.declared.errors.RowError.{RowError}
use Rattle.run_chart.specs.declared.errors.RowError.TheVariants as row
use Rattle.trace_recorder.specs.declared.logged.Logged.{Logged}
use Rattle.run_chart.proofs.Telling.{rest_is}
use Rattle.tl_types.specs.declared.line.LineSize.{LineSize}

pub line_behind_all : (line : ℕ) (xs ys : List Told) → line_behind line (xs ++ ys) ≡ line_behind (line_behind line xs) ys
line_behind_all line [] ys = refl
line_behind_all line (t ∷ ts) ys = line_behind_all t.end ts ys

shown_below : (b : Bool) (line : ℕ) (t : Told) → line ≤ t.end → line ≤ line_behind line (shown b t)
shown_below true line t h = h
shown_below false line t h = omega (arith)

module _ (w : LineSize) (only : Option ℕ) (columns : List ℕ) where
  rows_below : (v : Verdict) (line index : ℕ) (s : State) (e : Event) → line ≤ line_behind line (rows_by v w only columns line index s e)
  rows_below IsBad line index s e = omega (arith)
  rows_below (Keeps o) line index s e = omega (arith)
  rows_below IsLimited line index s e = omega (arith)
  rows_below (Moves o new) line index s e = shown_below _ line (row_between only columns line index s e o new) (omega (arith))

  -- each row ends below where it begins
  rest_below : (line index : ℕ) (s : State) (events : List Event) → line ≤ line_behind line (rows_of w only columns line index s events)
  rest_below line index s [] = omega (arith)
  rest_below line index s (e ∷ events) =
      let at = rows_at w only columns line index s e in
      let later = rows_of w only columns (line_behind line at) (index + 1) (happens s e) events in
      omega (arith, rows_below (verdict s e) line index s e, rest_below (line_behind line at) (index + 1) (happens s e) events, line_behind_all line at later)

  -- rows that are too many with those of the next event are too many with those of all events
  all_full : (line index : ℕ) (s : State) (e : Event) (events : List Event) (old : List Told) (count : ℕ) → count ≡ length old → line ≡ line_behind 0 old
      → AreTooMany count line (rows_at w only columns line index s e) → AreTooMany 0 0 (old ++ rows_of w only columns line index s (e ∷ events))
  all_full line index s e events old count ec el full =
      let at = rows_at w only columns line index s e in
      let later = rows_of w only columns (line_behind line at) (index + 1) (happens s e) events in
      elim full [
        | inl more ↦ inl (omega (arith, more, ec, length-append old (at ++ later), length-append at later))
        | inr long ↦ inr (
            let whole = line_behind_all 0 old (at ++ later) in
            let here = ap (λ (l : ℕ). line_behind l (at ++ later)) (sym el) in
            let split = line_behind_all line at later in
            let below = rest_below (line_behind line at) (index + 1) (happens s e) events in
            omega (arith, long, whole, here, split, below)
            )
      ]

  pub rows_full : (line index : ℕ) (s : State) (events : List Event) (d : Event) (old total : List Told) (count : ℕ) → 1 ≤ length events → count ≡ length old → line ≡ line_behind 0 old
      → old ++ rows_of w only columns line index s events ≡ total → AreTooMany count line (rows_at w only columns line index s (get_or events 0 d)) → AreTooMany 0 0 total
  rows_full line index s events d old total count some ec el h full =
      subst (AreTooMany 0 0) (sym (ap (λ (x : List Event). old ++ rows_of w only columns line index s x) (rest_is events d some)) ∙ h)
      (all_full line index s (get_or events 0 d) (take (length events - 1) (drop 1 events)) old count ec el full)

-- rows that were added where a picture had room fit
pub rows_fit : (rows : List Told) (line : ℕ) → length rows ≤ 400 → line ≤ 65535 → line ≡ line_behind 0 rows → AreTooMany 0 0 rows → ⊥
rows_fit rows line few low same full = elim full [
  | inl more ↦ omega (arith, more, few)
  | inr long ↦ omega (arith, long, low, same)
]

-- where the next row begins, behind those of one more event
pub line_next : (line next : ℕ) (old more now : List Told) → line ≡ line_behind 0 old → now ≡ old ++ more → next ≡ line_behind line more → next ≡ line_behind 0 now
line_next line next old more now el en ex = ex ∙ ap (λ (l : ℕ). line_behind l more) el ∙ sym (line_behind_all 0 old more) ∙ ap (λ (ts : List Told). line_behind 0 ts) (sym en)

-- an error that is handed up
pub given_up : {T E : Type 0} (P : E → Type 0) (r : Result T E) (e : E) → IsErrAnd r (λ told. told ≡ e) → P e → IfErr r P
given_up P (Ok x) e is so = absurd is
given_up P (Err told) e is so = subst P (sym is) so

length-noted : (line : ℕ) (notes : List Note) → length (noted line notes) ≡ length notes
length-noted line [] = refl
length-noted line (n ∷ ns) = omega (arith, length-noted (line + 1) ns)

-- notes of which one stands on the last line, and has one behind it, are too many
pub noted_long : (line next : ℕ) (notes rest : List Note) (list : List Noted) → 1 ≤ length rest → list ++ noted next rest ≡ noted line notes → next ≡ line + length list → next ≡ 65535 → 65535 < line + length notes
noted_long line next notes rest list some h en last =
    omega (arith, some, ap (λ (ns : List Noted). length ns) h, length-append list (noted next rest), length-noted next rest, length-noted line notes, en, last)

-- no more rows than there is room for, and one for this event
pub one_over : (count line : ℕ) (more : List Told) (t : Told) → more ≡ t ∷ [] → 400 ≤ count → AreTooMany count line more
one_over count line more t one full = inl (omega (arith, full, ap (λ (ts : List Told). length ts) one))

-- a row that ends too low
pub one_low : (count line : ℕ) (more : List Told) (t : Told) → more ≡ t ∷ [] → 65535 < t.end → AreTooMany count line more
one_low count line more t one low = inr (subst (λ (ts : List Told). 65535 < line_behind line ts) (sym one) low)

-- why a row could not be added
pub add_fails : {T : Type 0} (r : Result T RowError) (count line : ℕ) (more : List Told) (t : Told) → more ≡ t ∷ [] → IfErr r (λ why. why ≡ row.TooManyRows → 400 ≤ count) → IfErr r (λ why. why ≡ row.TooManyRows → AreTooMany count line more)
add_fails (Ok x) count line more t one full = tt
add_fails (Err e) count line more t one full = λ why. one_over count line more t one (full why)

-- why there are no rows
pub untold_is : (image : Initial) (config : Config) (events : List Event) (address : Option ℕ) (e : RowError) → (e ≡ row.TooManyRows → IsOverfull image config events address) → IsUntold image config events address (untold e)
untold_is image config events address row.TooManyRows large = large refl
untold_is image config events address row.NoMemory large = tt

-- the rows of a run that are too many, for its own lines of memory
pub overfull : (image : Initial) (config : Config) (events : List Event) (address : Option ℕ) (reached : State) (only : Option ℕ) (columns : List ℕ) → replayed_from 0 (opening image config) events ≡ Replayed.Reached reached
    → only ≡ only_of config.line address → columns ≡ lines_of only reached.trace.log
    → AreTooMany 0 0 (rows_of config.line only columns 0 0 (opening image config) events) → IsOverfull image config events address
overfull image config events address reached only columns leads same lines full =
    let whole : Option ℕ = only_of config.line address in
    let bars : columns ≡ lines_of whole reached.trace.log = lines ∙ ap (λ (o : Option ℕ). lines_of o reached.trace.log) same in
    record {
      first = events;
      later = [];
      whole = append-nil events;
      reached = reached;
      leads = leads;
      large = inl (
          subst (λ (o : Option ℕ). AreTooMany 0 0 (rows_of config.line o (lines_of whole reached.trace.log) 0 0 (opening image config) events)) same
          (subst (λ (cs : List ℕ). AreTooMany 0 0 (rows_of config.line only cs 0 0 (opening image config) events)) bars full)
          );
    }

-- ---- bars

with_below : (only : Option ℕ) (lines : List ℕ) (entry : Logged) → length lines ≤ length (with_line only lines entry)
with_below only lines entry = go (is_about only entry && not (has lines entry.message.line))
  where
    go : (b : Bool) → length lines ≤ length (if b then lines ++ entry.message.line ∷ [] else lines)
    go true = omega (arith, length-append lines (entry.message.line ∷ []))
    go false = omega (arith)

-- each message leaves as many lines in play at least
lines_below : (only : Option ℕ) (lines : List ℕ) (log : List Logged) → length lines ≤ length (lines_from only lines log)
lines_below only lines [] = omega (arith)
lines_below only lines (entry ∷ log) = omega (arith, with_below only lines entry, lines_below only (with_line only lines entry) log)

-- lines that are too many with the next message's are too many with those of all messages
pub lines_full : (only : Option ℕ) (lines : List ℕ) (rest log : List Logged) (d : Logged) → 1 ≤ length rest → lines_from only lines rest ≡ lines_from only [] log
    → 400 < length (with_line only lines (get_or rest 0 d)) → 400 < length (lines_from only [] log)
lines_full only lines [] log d some h full = absurd (omega (arith, some))
lines_full only lines (entry ∷ rest) log d some h full = omega (arith, full, lines_below only (with_line only lines entry) rest, ap (λ (xs : List ℕ). length xs) h)

-- the bars of a run that are too many
pub overfull_bars : (image : Initial) (config : Config) (events : List Event) (address : Option ℕ) (reached : State) (only : Option ℕ) → replayed_from 0 (opening image config) events ≡ Replayed.Reached reached
    → only ≡ only_of config.line address → 400 < length (lines_of only reached.trace.log) → IsOverfull image config events address
overfull_bars image config events address reached only leads same full = record {
  first = events;
  later = [];
  whole = append-nil events;
  reached = reached;
  leads = leads;
  large = inr (subst (λ (o : Option ℕ). 400 < length (lines_of o reached.trace.log)) same full);
}

-- events of which the first are too many are too many
pub longer : (image : Initial) (config : Config) (events : List Event) (address : Option ℕ) (n : ℕ) → IsOverfull image config (take n events) address → IsOverfull image config events address
longer image config events address n p = record {
  first = p.first;
  later = p.later ++ drop n events;
  whole = sym (append_assoc p.first p.later (drop n events)) ∙ ap (λ (xs : List Event). xs ++ drop n events) p.whole ∙ take-append-drop n events;
  reached = p.reached;
  leads = p.leads;
  large = p.large;
}
