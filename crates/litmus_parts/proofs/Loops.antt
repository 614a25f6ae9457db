-- Loops over what a section has, each of which counts down what may still come.
use Rattle.std.proofs.Common.{◌≡◌, ℕ, suc, ◌+◌, ◌-◌, ◌<◌, ◌≤◌, true, false, List, [], ◌∷◌, ◌++◌, Some, None, Ok, Err, length, refl, sym, ap, ◌∙◌, arith}
use Rattle.std.proofs.lemmas.List.{append-nil}
use Rattle.std.specs.Prelude.{Result, codes}
use Rattle.text_words.specs.Words.{skip, symbol_at}
use Rattle.litmus_parts.specs.declared.rows.Item.{Item}
use Rattle.litmus_parts.specs.declared.rows.Item.TheVariants.{Label}
use Rattle.litmus_parts.specs.declared.stop.Cause.{Cause}
use Rattle.litmus_parts.specs.declared.stop.Cause.TheVariants as causes
use Rattle.litmus_parts.specs.declared.stop.Stop.{Stop}
use Rattle.litmus_parts.specs.declared.stop.Stop.TheVariants.{Memory, At}
use Rattle.litmus_parts.specs.Stops.{Read, at, ◌>>=◌, onto, Refuses}
use Rattle.litmus_parts.specs.Scanning.{items_at}
use Rattle.litmus_parts.specs.Header.{past_entry, past_entries}
use Rattle.litmus_parts.specs.Rows.{past_hart, head_at, label_at, labels_at, cell_at, end_of, row_at, is_end, rows_at}
use Rattle.litmus_parts.proofs.Reading.{onto_append, onto_then, onto_err}

one_more : (most taken : ℕ) → taken < most → most - taken ≡ suc (most - (taken + 1))
one_more most taken lt = omega arith

none_more : (most taken : ℕ) → most ≤ taken → most - taken ≡ 0
none_more most taken le = omega arith

-- ---- entries

entries_now : (most taken : ℕ) (rest : List ℕ) (total : Result (List ℕ) Stop) → taken < most → past_entries (most - taken) rest ≡ total → past_entries (suc (most - (taken + 1))) rest ≡ total
entries_now most taken rest total lt h = let one : most - taken ≡ suc (most - (taken + 1)) = one_more most taken lt in rw one at h

pub entries_more : (most taken : ℕ) (rest later : List ℕ) (total : Result (List ℕ) Stop) → taken < most → None ≡ symbol_at (codes "{") rest → Ok later ≡ past_entry rest → past_entries (most - taken) rest ≡ total → past_entries (most - (taken + 1)) later ≡ total
unfolding past_entries
entries_more most taken rest later total lt none is h =
    let step : past_entries (suc (most - (taken + 1))) rest ≡ past_entries (most - (taken + 1)) later = rw (sym none, sym is) refl in
    sym step ∙ entries_now most taken rest total lt h

pub entries_end : (most taken : ℕ) (rest later : List ℕ) (total : Result (List ℕ) Stop) → taken < most → Some later ≡ symbol_at (codes "{") rest → past_entries (most - taken) rest ≡ total → Ok later ≡ total
unfolding past_entries
entries_end most taken rest later total lt some h =
    let step : past_entries (suc (most - (taken + 1))) rest ≡ Ok later = rw (sym some) refl in
    sym step ∙ entries_now most taken rest total lt h

pub entries_stop : (most taken : ℕ) (rest : List ℕ) (stop : Stop) (total : Result (List ℕ) Stop) → taken < most → None ≡ symbol_at (codes "{") rest → Err stop ≡ past_entry rest → past_entries (most - taken) rest ≡ total → Err stop ≡ total
unfolding past_entries
entries_stop most taken rest stop total lt none is h =
    let step : past_entries (suc (most - (taken + 1))) rest ≡ Err stop = rw (sym none, sym is) refl in
    sym step ∙ entries_now most taken rest total lt h

pub entries_full : (most taken : ℕ) (rest : List ℕ) (total : Result (List ℕ) Stop) → most ≤ taken → past_entries (most - taken) rest ≡ total → Err (at causes.FewEntries rest) ≡ total
unfolding past_entries
entries_full most taken rest total le h = let none : most - taken ≡ 0 = none_more most taken le in rw none at h

-- ---- items up to a symbol

items_now : {A : Type 0} (symbol : List ℕ) (cause : Cause) (item : List ℕ → Read A) (front : List A) (most taken : ℕ) (rest : List ℕ) (total : Read (List A)) → taken < most → onto front (items_at symbol cause item (most - taken) rest) ≡ total → onto front (items_at symbol cause item (suc (most - (taken + 1))) rest) ≡ total
items_now symbol cause item front most taken rest total lt h = let one : most - taken ≡ suc (most - (taken + 1)) = one_more most taken lt in rw one at h

pub items_more : {A : Type 0} (symbol : List ℕ) (cause : Cause) (item : List ℕ → Read A) (front : List A) (x : A) (most taken : ℕ) (rest later : List ℕ) (total : Read (List A)) → taken < most → None ≡ symbol_at symbol rest → Ok (x, later) ≡ item rest → onto front (items_at symbol cause item (most - taken) rest) ≡ total → onto (front ++ x ∷ []) (items_at symbol cause item (most - (taken + 1)) later) ≡ total
unfolding items_at
items_more symbol cause item front x most taken rest later total lt none is h =
    let step : onto front (items_at symbol cause item (suc (most - (taken + 1))) rest) ≡ onto front (onto (x ∷ []) (items_at symbol cause item (most - (taken + 1)) later)) = rw (sym none, sym is) refl in
    sym (onto_append front (x ∷ []) (items_at symbol cause item (most - (taken + 1)) later)) ∙ sym step ∙ items_now symbol cause item front most taken rest total lt h

pub items_end : {A : Type 0} (symbol : List ℕ) (cause : Cause) (item : List ℕ → Read A) (front : List A) (most taken : ℕ) (rest later : List ℕ) (total : Read (List A)) → taken < most → Some later ≡ symbol_at symbol rest → onto front (items_at symbol cause item (most - taken) rest) ≡ total → total ≡ Ok (front, later)
unfolding items_at
items_end {A} symbol cause item front most taken rest later total lt some h =
    let step : onto front (items_at symbol cause item (suc (most - (taken + 1))) rest) ≡ Ok (front ++ [], later) = rw (sym some) refl in
    sym (items_now symbol cause item front most taken rest total lt h) ∙ step ∙ ap (λ (l : List A). Ok (l, later)) (append-nil front)

pub items_stop : {A : Type 0} (symbol : List ℕ) (cause : Cause) (item : List ℕ → Read A) (front : List A) (most taken : ℕ) (rest : List ℕ) (stop : Stop) (total : Read (List A)) → taken < most → None ≡ symbol_at symbol rest → Err stop ≡ item rest → onto front (items_at symbol cause item (most - taken) rest) ≡ total → total ≡ Err stop
unfolding items_at
items_stop symbol cause item front most taken rest stop total lt none is h =
    let step : onto front (items_at symbol cause item (suc (most - (taken + 1))) rest) ≡ Err stop = rw (sym none, sym is) refl in
    sym (items_now symbol cause item front most taken rest total lt h) ∙ step

pub items_full : {A : Type 0} (symbol : List ℕ) (cause : Cause) (item : List ℕ → Read A) (front : List A) (most taken : ℕ) (rest : List ℕ) (total : Read (List A)) → most ≤ taken → onto front (items_at symbol cause item (most - taken) rest) ≡ total → total ≡ Err (at cause rest)
unfolding items_at
items_full symbol cause item front most taken rest total le h = let none : most - taken ≡ 0 = none_more most taken le in sym (rw none at h)

-- ---- harts of the head

heads_now : (most hart : ℕ) (rest : List ℕ) (total : Read ℕ) → hart < most → head_at (most - hart) hart rest ≡ total → head_at (suc (most - (hart + 1))) hart rest ≡ total
heads_now most hart rest total lt h = let one : most - hart ≡ suc (most - (hart + 1)) = one_more most hart lt in rw one at h

pub heads_more : (most hart : ℕ) (rest later next : List ℕ) (total : Read ℕ) → hart < most → Ok later ≡ past_hart hart rest → Some next ≡ symbol_at (codes "|") later → head_at (most - hart) hart rest ≡ total → head_at (most - (hart + 1)) (hart + 1) next ≡ total
unfolding head_at
heads_more most hart rest later next total lt is bar h =
    let step : head_at (suc (most - (hart + 1))) hart rest ≡ head_at (most - (hart + 1)) (hart + 1) next = rw (sym is, sym bar) refl in
    sym step ∙ heads_now most hart rest total lt h

pub heads_end : (most hart : ℕ) (rest later next : List ℕ) (total : Read ℕ) → hart < most → Ok later ≡ past_hart hart rest → None ≡ symbol_at (codes "|") later → Some next ≡ symbol_at (codes ";") later → head_at (most - hart) hart rest ≡ total → Ok (hart + 1, next) ≡ total
unfolding head_at
heads_end most hart rest later next total lt is bar end h =
    let step : head_at (suc (most - (hart + 1))) hart rest ≡ Ok (hart + 1, next) = rw (sym is, sym bar, sym end) refl in
    sym step ∙ heads_now most hart rest total lt h

pub heads_open : (most hart : ℕ) (rest later : List ℕ) (total : Read ℕ) → hart < most → Ok later ≡ past_hart hart rest → None ≡ symbol_at (codes "|") later → None ≡ symbol_at (codes ";") later → head_at (most - hart) hart rest ≡ total → Err (at causes.HeadEnd later) ≡ total
unfolding head_at
heads_open most hart rest later total lt is bar end h =
    let step : head_at (suc (most - (hart + 1))) hart rest ≡ Err (at causes.HeadEnd later) = rw (sym is, sym bar, sym end) refl in
    sym step ∙ heads_now most hart rest total lt h

pub heads_stop : (most hart : ℕ) (rest : List ℕ) (stop : Stop) (total : Read ℕ) → hart < most → Err stop ≡ past_hart hart rest → head_at (most - hart) hart rest ≡ total → Err stop ≡ total
unfolding head_at
heads_stop most hart rest stop total lt is h =
    let step : head_at (suc (most - (hart + 1))) hart rest ≡ Err stop = rw (sym is) refl in
    sym step ∙ heads_now most hart rest total lt h

pub heads_full : (most hart : ℕ) (rest : List ℕ) (total : Read ℕ) → most ≤ hart → head_at (most - hart) hart rest ≡ total → Err (at causes.FewHarts rest) ≡ total
unfolding head_at
heads_full most hart rest total le h = let none : most - hart ≡ 0 = none_more most hart le in rw none at h

-- ---- labels of a cell

labels_now : (hart : ℕ) (front : List Item) (most taken : ℕ) (rest : List ℕ) (total : Read (List Item)) → taken < most → onto front (labels_at hart (most - taken) rest) ≡ total → onto front (labels_at hart (suc (most - (taken + 1))) rest) ≡ total
labels_now hart front most taken rest total lt h = let one : most - taken ≡ suc (most - (taken + 1)) = one_more most taken lt in rw one at h

pub labels_more : (hart : ℕ) (front : List Item) (name : List ℕ) (left most taken : ℕ) (rest later : List ℕ) (total : Read (List Item)) → taken < most → left ≡ length (skip rest) → Some (name, later) ≡ label_at rest → onto front (labels_at hart (most - taken) rest) ≡ total → onto (front ++ Label hart name left ∷ []) (labels_at hart (most - (taken + 1)) later) ≡ total
unfolding labels_at
labels_more hart front name left most taken rest later total lt place is h =
    let step : onto front (labels_at hart (suc (most - (taken + 1))) rest) ≡ onto front (onto (Label hart name left ∷ []) (labels_at hart (most - (taken + 1)) later)) = rw (sym is, sym place) refl in
    sym (onto_append front (Label hart name left ∷ []) (labels_at hart (most - (taken + 1)) later)) ∙ sym step ∙ labels_now hart front most taken rest total lt h

pub labels_put : (hart : ℕ) (front new : List Item) (name behind : List ℕ) (left most taken : ℕ) (rest later : List ℕ) (total : Read (List Item)) → taken < most → left ≡ length (skip rest) → Some (name, behind) ≡ label_at rest → onto front (Ok (Label hart name left ∷ [], behind)) ≡ Ok (new, later) → onto front (labels_at hart (most - taken) rest) ≡ total → onto new (labels_at hart (most - (taken + 1)) later) ≡ total
labels_put hart front new name behind left most taken rest later total lt place is put h =
    let both : (front ++ Label hart name left ∷ [], behind) ≡ (new, later) = cc put in
    let same : new ≡ front ++ Label hart name left ∷ [] = sym (ap (λ (p : List Item × List ℕ). p.0) both) in
    let there : later ≡ behind = sym (ap (λ (p : List Item × List ℕ). p.1) both) in
    ap (λ (l : List Item). onto l (labels_at hart (most - (taken + 1)) later)) same
    ∙ ap (λ (r : List ℕ). onto (front ++ Label hart name left ∷ []) (labels_at hart (most - (taken + 1)) r)) there
    ∙ labels_more hart front name left most taken rest behind total lt place is h

pub labels_end : (hart : ℕ) (front : List Item) (most taken : ℕ) (rest : List ℕ) (total : Read (List Item)) → taken < most → None ≡ label_at rest → onto front (labels_at hart (most - taken) rest) ≡ total → total ≡ Ok (front, rest)
unfolding labels_at
labels_end hart front most taken rest total lt is h =
    let step : onto front (labels_at hart (suc (most - (taken + 1))) rest) ≡ Ok (front ++ [], rest) = rw (sym is) refl in
    sym (labels_now hart front most taken rest total lt h) ∙ step ∙ ap (λ (l : List Item). Ok (l, rest)) (append-nil front)

pub labels_full : (hart : ℕ) (front : List Item) (most taken : ℕ) (rest : List ℕ) (total : Read (List Item)) → most ≤ taken → onto front (labels_at hart (most - taken) rest) ≡ total → total ≡ Err (at causes.FewLabels rest)
unfolding labels_at
labels_full hart front most taken rest total le h = let none : most - taken ≡ 0 = none_more most taken le in sym (rw none at h)

-- ---- cells of a row

cells_now : (harts : ℕ) (front : List Item) (hart : ℕ) (rest : List ℕ) (total : Read (List Item)) → hart < harts → onto front (row_at harts (harts - hart) rest) ≡ total → onto front (row_at harts (suc (harts - (hart + 1))) rest) ≡ total
cells_now harts front hart rest total lt h = let one : harts - hart ≡ suc (harts - (hart + 1)) = one_more harts hart lt in rw one at h

cell_hart : (harts hart : ℕ) → hart < harts → harts - suc (harts - (hart + 1)) ≡ hart
cell_hart harts hart lt = omega arith

pub cells_more : (harts : ℕ) (front new : List Item) (hart : ℕ) (rest later : List ℕ) (total : Read (List Item)) → hart < harts → onto front (cell_at hart (end_of hart harts) rest) ≡ Ok (new, later) → onto front (row_at harts (harts - hart) rest) ≡ total → onto new (row_at harts (harts - (hart + 1)) later) ≡ total
unfolding row_at
cells_more harts front new hart rest later total lt is h =
    let step : onto front (row_at harts (suc (harts - (hart + 1))) rest) ≡ onto front (cell_at hart (end_of hart harts) rest >>= λ x. onto x.0 (row_at harts (harts - (hart + 1)) x.1)) = rw (cell_hart harts hart lt) refl in
    sym (onto_then front new later (cell_at hart (end_of hart harts) rest) (row_at harts (harts - (hart + 1))) is) ∙ sym step ∙ cells_now harts front hart rest total lt h

pub cells_stop : (harts : ℕ) (front : List Item) (hart : ℕ) (rest : List ℕ) (stop : Stop) (total : Read (List Item)) → hart < harts → cell_at hart (end_of hart harts) rest ≡ Err stop → onto front (row_at harts (harts - hart) rest) ≡ total → total ≡ Err stop
unfolding row_at
cells_stop harts front hart rest stop total lt is h =
    let step : onto front (row_at harts (suc (harts - (hart + 1))) rest) ≡ Err stop = rw (cell_hart harts hart lt, is) refl in
    sym (cells_now harts front hart rest total lt h) ∙ step

pub cells_end : (harts : ℕ) (front : List Item) (hart : ℕ) (rest : List ℕ) (total : Read (List Item)) → harts ≤ hart → onto front (row_at harts (harts - hart) rest) ≡ total → total ≡ Ok (front, rest)
unfolding row_at
cells_end harts front hart rest total le h =
    let none : harts - hart ≡ 0 = none_more harts hart le in
    let done : Ok (front ++ [], rest) ≡ total = rw none at h in
    sym done ∙ ap (λ (l : List Item). Ok (l, rest)) (append-nil front)

-- ---- rows

rows_now : (harts : ℕ) (front : List Item) (most taken : ℕ) (rest : List ℕ) (total : Read (List Item)) → taken < most → onto front (rows_at harts (most - taken) rest) ≡ total → onto front (rows_at harts (suc (most - (taken + 1))) rest) ≡ total
rows_now harts front most taken rest total lt h = let one : most - taken ≡ suc (most - (taken + 1)) = one_more most taken lt in rw one at h

pub rows_more : (harts : ℕ) (front new : List Item) (most taken : ℕ) (rest later : List ℕ) (total : Read (List Item)) → taken < most → is_end rest ≡ false → onto front (row_at harts harts rest) ≡ Ok (new, later) → onto front (rows_at harts (most - taken) rest) ≡ total → onto new (rows_at harts (most - (taken + 1)) later) ≡ total
unfolding rows_at
rows_more harts front new most taken rest later total lt goes is h =
    let step : onto front (rows_at harts (suc (most - (taken + 1))) rest) ≡ onto front (row_at harts harts rest >>= λ x. onto x.0 (rows_at harts (most - (taken + 1)) x.1)) = rw goes refl in
    sym (onto_then front new later (row_at harts harts rest) (rows_at harts (most - (taken + 1))) is) ∙ sym step ∙ rows_now harts front most taken rest total lt h

pub rows_stop : (harts : ℕ) (front : List Item) (most taken : ℕ) (rest : List ℕ) (stop : Stop) (total : Read (List Item)) → taken < most → is_end rest ≡ false → row_at harts harts rest ≡ Err stop → onto front (rows_at harts (most - taken) rest) ≡ total → total ≡ Err stop
unfolding rows_at
rows_stop harts front most taken rest stop total lt goes is h =
    let step : onto front (rows_at harts (suc (most - (taken + 1))) rest) ≡ Err stop = rw (goes, is) refl in
    sym (rows_now harts front most taken rest total lt h) ∙ step

pub rows_end : (harts : ℕ) (front : List Item) (most taken : ℕ) (rest : List ℕ) (total : Read (List Item)) → taken < most → is_end rest ≡ true → onto front (rows_at harts (most - taken) rest) ≡ total → total ≡ Ok (front, rest)
unfolding rows_at
rows_end harts front most taken rest total lt ends h =
    let step : onto front (rows_at harts (suc (most - (taken + 1))) rest) ≡ Ok (front ++ [], rest) = rw ends refl in
    sym (rows_now harts front most taken rest total lt h) ∙ step ∙ ap (λ (l : List Item). Ok (l, rest)) (append-nil front)

pub rows_full : (harts : ℕ) (front : List Item) (most taken : ℕ) (rest : List ℕ) (total : Read (List Item)) → most ≤ taken → onto front (rows_at harts (most - taken) rest) ≡ total → total ≡ Err (at causes.FewRows rest)
unfolding rows_at
rows_full harts front most taken rest total le h = let none : most - taken ≡ 0 = none_more most taken le in sym (rw none at h)

-- ---- where a loop that adds stops

pub cells_refuse : (harts : ℕ) (old front : List Item) (hart : ℕ) (rest : List ℕ) (stop : Stop) (whole : Read (List Item)) → hart < harts → Refuses stop (cell_at hart (end_of hart harts) rest) → onto front (row_at harts (harts - hart) rest) ≡ onto old whole → Refuses stop whole
cells_refuse harts old front hart rest Memory whole lt is h = tt
cells_refuse harts old front hart rest (At cause left) whole lt is h = onto_err old (At cause left) whole (cells_stop harts front hart rest (At cause left) (onto old whole) lt is h)

pub rows_refuse : (harts : ℕ) (front : List Item) (most taken : ℕ) (rest : List ℕ) (stop : Stop) (whole : Read (List Item)) → taken < most → is_end rest ≡ false → Refuses stop (row_at harts harts rest) → onto front (rows_at harts (most - taken) rest) ≡ whole → Refuses stop whole
rows_refuse harts front most taken rest Memory whole lt goes is h = tt
rows_refuse harts front most taken rest (At cause left) whole lt goes is h = rows_stop harts front most taken rest (At cause left) whole lt goes is h
