-- All lines: one is read, and one is written.
use Rattle.std.proofs.Common.{◌≡◌, ℕ, zero, suc, ◌<◌, List, length, get_or, set, refl, sym, ap, ◌∙◌, subst}
use Rattle.std.specs.Prelude.{replicate, All}
use Rattle.std.proofs.lemmas.List.{map-set, get_or-map, length-map}
use Rattle.std.proofs.lemmas.List.Elements.{All-get_or, All-set}
use Rattle.directory.specs.declared.entry.Entry.{Entry}
use Rattle.directory.specs.declared.entry.Slot.{Slot}
use Rattle.directory.specs.Lines.{Line}
use Rattle.directory.specs.Directory.{Notes, quiet, line_at, with_line}
use Rattle.directory.specs.Entries.{notes_of_entry, lines_of, IsSoundEntry, AreSound}

abbrev shown : ℕ → Slot → Line
shown harts s = notes_of_entry harts s.entry

abbrev pub notes : ℕ → List Slot → Notes
notes harts slots = record { harts = harts; lines = lines_of harts slots }

-- each line has its entry
pub line-below : (harts : ℕ) (slots : List Slot) (d : Notes) (i : ℕ) → notes harts slots ≡ d → i < length d.lines → i < length slots
line-below harts slots d i is l = subst (λ n. i < n) (ap (λ (d : Notes). length d.lines) (sym is) ∙ length-map slots (shown harts)) l

-- the line that an entry shows
pub line_at-notes : (harts : ℕ) (slots : List Slot) (d : Notes) (i : ℕ) (y : Slot) (e : Entry) → notes harts slots ≡ d → i < length d.lines → y ≡ get_or slots i y → e ≡ y.entry → line_at d i ≡ notes_of_entry harts e
line_at-notes harts slots d i y e is l y_is e_is =
    ap (λ (d : Notes). line_at d i) (sym is)
    ∙ get_or-map (shown harts) slots i y (quiet harts) (line-below harts slots d i is l)
    ∙ ap (shown harts) (sym y_is)
    ∙ ap (notes_of_entry harts) (sym e_is)

pub sound-at : (harts : ℕ) (slots : List Slot) (d : Notes) (i : ℕ) (y : Slot) (e : Entry) → notes harts slots ≡ d → AreSound harts slots → i < length d.lines → y ≡ get_or slots i y → e ≡ y.entry → IsSoundEntry harts e
sound-at harts slots d i y e is sound l y_is e_is =
    subst (IsSoundEntry harts) (ap (λ (s : Slot). s.entry) (sym y_is) ∙ sym e_is)
    (All-get_or (λ (s : Slot). IsSoundEntry harts s.entry) slots i y (line-below harts slots d i is l) sound.each)

-- a line is written
pub notes-set : (harts : ℕ) (slots : List Slot) (d : Notes) (i : ℕ) (s : Slot) (e : Entry) → notes harts slots ≡ d → s.entry ≡ e → notes harts (set slots i s) ≡ with_line d i (notes_of_entry harts e)
notes-set harts slots d i s e is e_is =
    ap (λ (lines : List Line). record { harts = harts; lines = lines }) (map-set (shown harts) slots i s)
    ∙ ap (λ (later : Entry). record { harts = harts; lines = set (lines_of harts slots) i (notes_of_entry harts later) }) e_is
    ∙ ap (λ (d : Notes). with_line d i (notes_of_entry harts e)) is

pub sound-set : (harts : ℕ) (slots : List Slot) (i : ℕ) (s : Slot) (e : Entry) → s.entry ≡ e → IsSoundEntry harts e → AreSound harts slots → AreSound harts (set slots i s)
sound-set harts slots i s e e_is here sound = record {
  few = sound.few;
  each = All-set (λ (s : Slot). IsSoundEntry harts s.entry) slots i s (subst (IsSoundEntry harts) (sym e_is) here) sound.each;
}

-- a call that answers, and changes one line
module _ {A : Type 0} where
  pub notes-answered : (harts : ℕ) (slots : List Slot) (d : Notes) (i : ℕ) (s : Slot) (later : Entry) (a : A) (f : Line → A × Line) (l : Line) → notes harts slots ≡ d → s.entry ≡ later → line_at d i ≡ l → ◌≡◌ {A = A × Line} (a, notes_of_entry harts later) (f l) → ◌≡◌ {A = A × Notes} (a, notes harts (set slots i s)) ((f (line_at d i)).0, with_line d i (f (line_at d i)).1)
  notes-answered harts slots d i s later a f l is later_is at meaning =
      ap (λ (n : Notes). (a, n)) (notes-set harts slots d i s later is later_is)
      ∙ ap (λ (r : A × Line). (r.0, with_line d i r.1)) (meaning ∙ ap f (sym at))

lines_of-replicate : (harts n : ℕ) (s : Slot) (l : Line) → notes_of_entry harts s.entry ≡ l → lines_of harts (replicate n s) ≡ replicate n l
lines_of-replicate harts zero s l is = refl
lines_of-replicate harts (suc n) s l is =
    let rest : lines_of harts (replicate n s) ≡ replicate n l = lines_of-replicate harts n s l is in
    cc

pub notes-opening : (harts n : ℕ) (s : Slot) (slots : List Slot) → slots ≡ replicate n s → notes_of_entry harts s.entry ≡ quiet harts → notes harts slots ≡ record { harts = harts; lines = replicate n (quiet harts) }
notes-opening harts n s slots is quiet_is =
    ap (λ (slots : List Slot). notes harts slots) is
    ∙ ap (λ (lines : List Line). record { harts = harts; lines = lines }) (lines_of-replicate harts n s (quiet harts) quiet_is)

pub harts-notes : (harts : ℕ) (slots : List Slot) (d : Notes) (h : ℕ) → notes harts slots ≡ d → h < d.harts → h < harts
harts-notes harts slots d h is l = subst (λ n. h < n) (ap (λ (d : Notes). d.harts) (sym is)) l
