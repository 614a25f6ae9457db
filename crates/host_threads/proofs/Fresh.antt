-- The seats of a new board, in order: the last one that is taken is the last hart's.
use Rattle.std.proofs.Common.{◌≡◌, ◌∙◌, ap, arith, refl, subst, sym, ℕ, List, [], ◌∷◌, ◌++◌, length, map, Option, Some, None, IfSome}
use Rattle.std.specs.List.{range_with_len}
use Rattle.std.specs.Option.{option_to_list}
use Rattle.std.proofs.lemmas.List.{append-nil, length-append, map-append}
use Rattle.std.proofs.lemmas.List.FromFn.{map-range_with_len_more}
use Rattle.progress_board.specs.Seat.{AreFresh}
use Rattle.progress_board.specs.Rule.{new_view}
use Rattle.progress_board.specs.Seat.{view}
use Rattle.progress_board.specs.declared.seat.Seat.{Seat}
use Rattle.progress_board.specs.declared.view.View.{View}

-- lists with one more element at their ends
same_ends : (xs ys : List View) (a b : View) → xs ++ a ∷ [] ≡ ys ++ b ∷ [] → (xs ≡ ys) × (a ≡ b)
same_ends [] [] a b e = (refl, cc e)
same_ends [] (y ∷ []) a b e = absurd (cc e)
same_ends [] (y ∷ z ∷ ys) a b e = absurd (cc e)
same_ends (x ∷ []) [] a b e = absurd (cc e)
same_ends (x ∷ z ∷ xs) [] a b e = absurd (cc e)
same_ends (x ∷ xs) (y ∷ ys) a b e = let rest = same_ends xs ys a b (cc e) in let first : x ≡ y = cc e in (ap (λ (v : View). v ∷ xs) first ∙ ap (λ (l : List View). y ∷ l) rest.0, rest.1)

last_of : (harts : ℕ) (ys : List Seat) (seat : Seat) → map view (ys ++ seat ∷ []) ≡ map (new_view harts) (range_with_len 0 (length (ys ++ seat ∷ []))) → (map view ys ≡ map (new_view harts) (range_with_len 0 (length ys))) × (view seat ≡ new_view harts (length ys))
last_of harts ys seat e =
    same_ends _ _ _ _ (sym (map-append view ys (seat ∷ [])) ∙ e ∙ ap (λ (n : ℕ). map (new_view harts) (range_with_len 0 n)) (length-append ys (seat ∷ [])) ∙ map-range_with_len_more (new_view harts) 0 (length ys) (length ys) (omega arith))

pub fresh_pop : (xs ys : List Seat) (r : Option Seat) → xs ≡ ys ++ option_to_list r → AreFresh xs → AreFresh ys × IfSome r (λ (seat : Seat). (view seat).hart ≡ length ys)
fresh_pop xs ys None is fresh = (subst AreFresh (is ∙ append-nil ys) fresh, tt)
fresh_pop xs ys (Some seat) is fresh =
    let all = subst AreFresh is fresh in
    let both = last_of all.0 ys seat all.1 in ((all.0, both.0), ap (λ (v : View). v.hart) both.1)
