-- Parts whose values are kept, one after another.
use Rattle.std.specs.Prelude.{OnOk}
use Rattle.std.proofs.Common.{◌≡◌, ◌∙◌, ℕ, ◌+◌, ◌<◌, Err, Ok, Result, List, [], ◌∷◌, ◌++◌, ap, append_assoc, arith, get_or, length, map, sym, take}
use Rattle.std.proofs.lemmas.List.{map-append, take_more}
use Rattle.std.proofs.lemmas.List.FromFn.{map-range_with_len_more}
use Rattle.std.specs.List.{range_with_len}
use Rattle.machine_model.specs.Views.{State}
use Rattle.run_waves.specs.Telling.{seen_in}
use Rattle.run_waves.specs.declared.groups.Group.{Group}
use Rattle.run_waves.specs.declared.watching.Seen.{Seen}

-- the values of one more part
one_more : (s : State) (before items now : List Seen) (groups more : List Group) (g : Group) (x : Seen) → now ≡ items ++ x ∷ [] → x ≡ seen_in s g → items ≡ before ++ map (seen_in s) groups → more ≡ groups ++ g ∷ []
    → now ≡ before ++ map (seen_in s) more
one_more s before items now groups more g x pushed seen kept is =
    pushed
    ∙ ap (λ (v : Seen). items ++ v ∷ []) seen
    ∙ ap (λ (xs : List Seen). xs ++ seen_in s g ∷ []) kept
    ∙ append_assoc before (map (seen_in s) groups) (seen_in s g ∷ [])
    ∙ ap (λ (xs : List Seen). before ++ xs) (sym (ap (map (seen_in s)) is ∙ map-append (seen_in s) groups (g ∷ [])))

-- of the next part of a list
pub next_kept : (s : State) (before items now : List Seen) (groups : List Group) (i : ℕ) (d : Group) (x : Seen) → i < length groups → now ≡ items ++ x ∷ [] → x ≡ seen_in s (get_or groups i d) → items ≡ before ++ map (seen_in s) (take i groups)
    → now ≡ before ++ map (seen_in s) (take (i + 1) groups)
next_kept s before items now groups i d x within pushed seen kept = one_more s before items now (take i groups) (take (i + 1) groups) (get_or groups i d) x pushed seen kept (take_more groups i d within)

-- of the next hart
pub hart_kept : (s : State) (f : ℕ → Group) (before items now : List Seen) (h : ℕ) (x : Seen) → now ≡ items ++ x ∷ [] → x ≡ seen_in s (f h) → items ≡ before ++ map (seen_in s) (map f (range_with_len 0 h))
    → now ≡ before ++ map (seen_in s) (map f (range_with_len 0 (h + 1)))
hart_kept s f before items now h x pushed seen kept =
    one_more s before items now (map f (range_with_len 0 h)) (map f (range_with_len 0 (h + 1))) (f h) x pushed seen kept (map-range_with_len_more f 0 h h (omega arith))

-- two lists of parts, one behind the other
pub kept_then : (s : State) (before mid now : List Seen) (first second : List Group) → mid ≡ before ++ map (seen_in s) first → now ≡ mid ++ map (seen_in s) second → now ≡ before ++ map (seen_in s) (first ++ second)
kept_then s before mid now first second one two =
    two
    ∙ ap (λ (xs : List Seen). xs ++ map (seen_in s) second) one
    ∙ append_assoc before (map (seen_in s) first) (map (seen_in s) second)
    ∙ ap (λ (xs : List Seen). before ++ xs) (sym (map-append (seen_in s) first second))

-- the second of them by a call that may fail
pub kept_last : {T E : Type 0} (r : Result T E) (s : State) (before mid now : List Seen) (first second : List Group) → mid ≡ before ++ map (seen_in s) first → OnOk r (now ≡ mid ++ map (seen_in s) second) → OnOk r (now ≡ before ++ map (seen_in s) (first ++ second))
kept_last (Ok x) s before mid now first second one two = kept_then s before mid now first second one two
kept_last (Err x) s before mid now first second one two = tt
