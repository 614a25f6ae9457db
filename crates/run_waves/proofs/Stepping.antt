-- What the events that are left tell.
use Rattle.std.proofs.Common.{◌≡◌, ◌∙◌, ℕ, ◌+◌, ◌-◌, ◌<◌, ◌≤◌, List, [], ◌∷◌, ◌++◌, ap, arith, drop, get_or, length, refl, sym, take}
use Rattle.std.proofs.lemmas.List.{length-drop, take_all}
use Rattle.machine_model.specs.Events.{happens}
use Rattle.machine_model.specs.Views.{State}
use Rattle.machine_types.specs.declared.event.Event.{Event}
use Rattle.std.specs.List.{flat_map}
use Rattle.run_waves.specs.declared.watching.Seen.{Seen}
use Rattle.run_waves.specs.Telling.{changes_since, event_lines, seen_before, time_line}
use Rattle.run_waves.specs.Waves.{lines_from}

pub rest_is : {A : Type 0} (xs : List A) (d : A) → 1 ≤ length xs → xs ≡ get_or xs 0 d ∷ take (length xs - 1) (drop 1 xs)
rest_is {A = A} [] d some = absurd (omega (arith, some))
rest_is {A = A} (x ∷ xs) d some = ap (λ (r : List A). x ∷ r) (sym (take_all (length (x ∷ xs) - 1) (drop 1 (x ∷ xs)) (omega (arith, length-drop 1 (x ∷ xs)))))

pub rest_place : {A : Type 0} (xs : List A) (index count : ℕ) → 1 ≤ length xs → index + length xs ≡ count → index + 1 + length (take (length xs - 1) (drop 1 xs)) ≡ count
rest_place {A = A} xs index count some p =
    let same = ap (λ (r : List A). length r) (take_all (length xs - 1) (drop 1 xs) (omega (arith, length-drop 1 xs))) in
    omega (arith, some, p, same, length-drop 1 xs)

-- the lines of the next event, and of those behind it
pub lines_next : (index : ℕ) (s new : State) (events : List Event) (d : Event) → 1 ≤ length events → new ≡ happens s (get_or events 0 d)
    → lines_from index s events ≡ event_lines index s (get_or events 0 d) ++ lines_from (index + 1) new (take (length events - 1) (drop 1 events))
lines_next index s new events d some leads =
    ap (λ (es : List Event). lines_from index s es) (rest_is events d some)
    ∙ ap (λ (m : State). event_lines index s (get_or events 0 d) ++ lines_from (index + 1) m (take (length events - 1) (drop 1 events))) (sym leads)

pub lines_none : (index : ℕ) (s : State) (events : List Event) → length events < 1 → lines_from index s events ≡ []
lines_none index s [] few = refl
lines_none index s (e ∷ events) few = absurd (omega (arith, few))

-- what was told of an event
pub event_told : (index : ℕ) (s new : State) (e : Event) (seen : List Seen) → new ≡ happens s e → seen ≡ seen_before s e → time_line (index + 2) ++ flat_map (changes_since new) seen ≡ event_lines index s e
event_told index s new e seen leads kept =
    ap (λ (m : State). time_line (index + 2) ++ flat_map (changes_since m) seen) leads
    ∙ ap (λ (xs : List Seen). time_line (index + 2) ++ flat_map (changes_since (happens s e)) xs) kept
