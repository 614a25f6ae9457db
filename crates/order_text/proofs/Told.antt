-- Lines pushed one after another are those that are told.
use Rattle.std.proofs.Common.{◌≡◌, ◌∙◌, ◌+◌, ◌-◌, ◌<◌, ◌≤◌, ◌++◌, [], ◌∷◌, ℕ, suc, List, ap, append_assoc, arith, drop, get_or, length, refl, sym}
use Rattle.std.proofs.lemmas.List.{drop_more, drop_all, append-nil}
use Rattle.std.proofs.lemmas.List.Concat.{flat_map-cons}
use Rattle.std.specs.List.{flat_map, range_with_len}
use Rattle.hart.specs.declared.retired.Retired.{Retired}
use Rattle.machine_types.specs.declared.model.MemoryModel.{MemoryModel}
use Rattle.memory_model.specs.declared.operation.Operation.{Operation}
use Rattle.memory_model.specs.Items.{Item}
use Rattle.order_text.specs.Telling.{list_lines, lists_lines}
use Rattle.order_text.specs.declared.line.Line.{Line}

-- what was put out, one more part, and what is still to come
pub more_told : (before pushed part rest other all : List Line) → pushed ≡ before ++ part → other ≡ part ++ rest → before ++ other ≡ all → pushed ++ rest ≡ all
more_told before pushed part rest other all p o h = ap (λ (t : List Line). t ++ rest) p ∙ (append_assoc before part rest ∙ (ap (λ (t : List Line). before ++ t) (sym o) ∙ h))

-- nothing is still to come
pub all_told : (before other all : List Line) → other ≡ [] → before ++ other ≡ all → before ≡ all
all_told before other all o h = sym (append-nil before) ∙ (ap (λ (t : List Line). before ++ t) (sym o) ∙ h)

-- the next byte
pub bytes_next : (f : ℕ → List Line) (x end : ℕ) → x < end → flat_map f (range_with_len x (end - x)) ≡ f x ++ flat_map f (range_with_len (x + 1) (end - (x + 1)))
bytes_next f x end l =
    let count : end - x ≡ suc (end - (x + 1)) = omega arith in
    rw count (flat_map-cons f x (range_with_len (x + 1) (end - (x + 1))))

-- the next hart
pub lists_next : (model : MemoryModel) (harts : List (List Item)) (order : List Operation) (hart : ℕ) (lists : List (List Retired)) → hart < length lists
    → lists_lines model harts order hart (drop hart lists) ≡ list_lines model harts order hart 0 (get_or lists hart []) ++ lists_lines model harts order (hart + 1) (drop (hart + 1) lists)
lists_next model harts order hart lists l = ap (lists_lines model harts order hart) (drop_more lists hart [] l)

pub lists_none : (model : MemoryModel) (harts : List (List Item)) (order : List Operation) (hart : ℕ) (lists : List (List Retired)) → length lists ≤ hart → lists_lines model harts order hart (drop hart lists) ≡ []
lists_none model harts order hart lists l = ap (lists_lines model harts order hart) (drop_all hart lists l)

-- the lines on an operation, put out one kind after another
pub operation_told : (old r c f n v : List Line) (a : Line) → (((((old ++ a ∷ []) ++ r) ++ c) ++ f) ++ n) ++ v ≡ old ++ (a ∷ (r ++ (c ++ (f ++ (n ++ v)))))
operation_told old r c f n v a = simp append_assoc
