-- Parts that are listed, one after another.
use Rattle.std.specs.Prelude.{OnOk}
use Rattle.std.proofs.Common.{◌≡◌, ◌∙◌, ℕ, ◌+◌, ◌-◌, ◌<◌, ◌≤◌, Err, Ok, Result, List, [], ◌∷◌, ◌++◌, ap, append_assoc, arith, drop, get_or, length, refl, sym, take}
use Rattle.std.proofs.lemmas.Grind.{flat_map-append}
use Rattle.std.proofs.lemmas.List.{append-nil, map-id}
use Rattle.std.proofs.lemmas.List.Concat.{flat_map-cons}
use Rattle.std.proofs.lemmas.List.FromFn.{map-range_with_len_more}
use Rattle.std.specs.List.{flat_map, range_with_len}
use Rattle.std.specs.Prelude.{nat_eq}
use Rattle.indexmap.specs.IndexSet.{insert_key}
use Rattle.trace_recorder.specs.declared.logged.Logged.{Logged}
use Rattle.run_waves.specs.Touched.{of_lines_in, of_new_line}
use Rattle.run_waves.specs.declared.groups.Group.{Group}
use Rattle.run_waves.proofs.Stepping.{rest_is}

range_more : (n : ℕ) → range_with_len 0 (n + 1) ≡ range_with_len 0 n ++ n ∷ []
range_more n =
    sym (map-id (range_with_len 0 (n + 1))) ∙ map-range_with_len_more (λ (k : ℕ). k) 0 n n (omega arith) ∙ ap (λ (ks : List ℕ). ks ++ n ∷ []) (map-id (range_with_len 0 n))

flat_more : (f : ℕ → List Group) (n : ℕ) → flat_map f (range_with_len 0 (n + 1)) ≡ flat_map f (range_with_len 0 n) ++ f n
flat_more f n =
    ap (flat_map f) (range_more n)
    ∙ flat_map-append f (range_with_len 0 n) (n ∷ [])
    ∙ ap (λ (xs : List Group). flat_map f (range_with_len 0 n) ++ xs) (flat_map-cons f n [] ∙ append-nil (f n))

-- the parts of the next hart
pub next_added : (f : ℕ → List Group) (before list now : List Group) (h : ℕ) → now ≡ list ++ f h → list ≡ before ++ flat_map f (range_with_len 0 h) → now ≡ before ++ flat_map f (range_with_len 0 (h + 1))
next_added f before list now h added are =
    added
    ∙ ap (λ (xs : List Group). xs ++ f h) are
    ∙ append_assoc before (flat_map f (range_with_len 0 h)) (f h)
    ∙ ap (λ (xs : List Group). before ++ xs) (sym (flat_more f h))

pub added_then : (before mid now first second : List Group) → mid ≡ before ++ first → now ≡ mid ++ second → now ≡ before ++ (first ++ second)
added_then before mid now first second one two = two ∙ ap (λ (xs : List Group). xs ++ second) one ∙ append_assoc before first second

-- the next message's line
pub line_added : (harts : ℕ) (met joined : List ℕ) (log : List Logged) (d : Logged) (list now total : List Group) → 1 ≤ length log → now ≡ list ++ of_new_line harts met (get_or log 0 d).message.line → joined ≡ insert_key nat_eq met (get_or log 0 d).message.line
    → list ++ of_lines_in harts met log ≡ total → now ++ of_lines_in harts joined (take (length log - 1) (drop 1 log)) ≡ total
line_added harts met joined log d list now total some added is_met h =
    let rest = take (length log - 1) (drop 1 log) in
    let line = (get_or log 0 d).message.line in
    ap (λ (xs : List Group). xs ++ of_lines_in harts joined rest) added
    ∙ append_assoc list (of_new_line harts met line) (of_lines_in harts joined rest)
    ∙ ap (λ (ks : List ℕ). list ++ (of_new_line harts met line ++ of_lines_in harts ks rest)) is_met
    ∙ ap (λ (es : List Logged). list ++ of_lines_in harts met es) (sym (rest_is log d some))
    ∙ h

pub lines_added : (harts : ℕ) (met : List ℕ) (log : List Logged) (list total : List Group) → length log < 1 → list ++ of_lines_in harts met log ≡ total → list ≡ total
lines_added harts met [] list total few h = sym (append-nil list) ∙ h
lines_added harts met (e ∷ log) list total few h = absurd (omega (arith, few))

-- the second by a call that may fail
pub added_last : {T E : Type 0} (r : Result T E) (before mid now first second : List Group) → mid ≡ before ++ first → OnOk r (now ≡ mid ++ second) → OnOk r (now ≡ before ++ (first ++ second))
added_last (Ok x) before mid now first second one two = added_then before mid now first second one two
added_last (Err x) before mid now first second one two = tt
