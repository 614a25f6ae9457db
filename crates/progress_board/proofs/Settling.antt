-- Seats that are joined, and what the last one knows.
use Rattle.std.proofs.Common.{◌≡◌, ◌∙◌, ◌≢◌, ⊎_elim, refl, sym, ap, subst, ℕ, ◌+◌, ◌*◌, ◌^◌, ◌<◌, ◌≤◌, List, [], ◌∷◌, ◌++◌, length, length-append, length-set, get_or, map, set, arith}
use Rattle.std.proofs.lemmas.List.Sums.{count_by-le-length, sum_by-cons, sum_by_push}
use Rattle.std.proofs.lemmas.List.{length-map, map-append}
use Rattle.std.proofs.Math.Dec.{eqb}
use Rattle.std.specs.List.{sum_by}
use mathlib.Core.Option.{some}
use lib.ListN.{get_elem?}
use Rattle.atomic_table.specs.Table.{Allows, Joins, Me, keeps}
use Rattle.atomic_table.proofs.Lists.{at_set}
use Rattle.progress_board.specs.declared.seat.Seat.{Seat}
use Rattle.progress_board.specs.declared.view.View.{View}
use Rattle.progress_board.specs.Rule.{Agree, DrewBelow, Fits, Rules, counter, times}
use Rattle.progress_board.specs.Seat.{view}
use Rattle.progress_board.specs.Step.{joined_view, spent_view}
use Rattle.progress_board.proofs.Keeps.{loaded}
use Rattle.progress_board.proofs.Sums.{sum_by-set_there, sum_by-within, times-append}

abbrev Sat : Type 0
Sat = Me (Unit {0}) View

abbrev often : ℕ → View → ℕ
often x v = times x v.drawn

abbrev many : View → ℕ
many v = length v.drawn

abbrev own_seats : View → ℕ
own_seats v = v.seats

-- what holds of a place that was written holds of each place
at_each : (P : View → Type 0) (views : List View) (id : ℕ) (w : View) → P w → ((j : ℕ) (u : View) → get_elem? views j ≡ some u → P u)
    → (j : ℕ) (u : View) → get_elem? (set views id w) j ≡ some u → P u
at_each P views id w here each j u e = ⊎_elim (λ (t : (j ≡ id) × (w ≡ u)). subst P t.1 here) (λ (t : (j ≢ id) × (get_elem? views j ≡ some u)). each j u t.1) (at_set views id j w u e)

-- a seat fits with what others drew
fits_joined : (words : List ℕ) (n id : ℕ) (v w : View) → Fits words n id v → Fits words n id (joined_view v w)
fits_joined words n id v w f = record {
  hart = f.hart;
  halted = f.halted;
  longest = f.longest;
  bits_seen = f.bits_seen;
  lengths_seen = f.lengths_seen;
  wide = f.wide;
  newest = f.newest;
}

pub joins : (id other : ℕ) (v w : View) → 0 < v.seats → Joins Rules id v other w (joined_view v w) spent_view
joins id other v w acts s o at apart there =
    let both : View = joined_view v w in
    let vs : List View = set s.views id both in
    let us : List View = set vs other spent_view in
    let same : length us ≡ length s.views = length-set vs other spent_view ∙ length-set s.views id both in
    let was : get_elem? s.views other ≡ some w = ⊎_elim (λ (t : (other ≡ id) × (both ≡ w)). absurd (apart t.0)) (λ (t : (other ≢ id) × (get_elem? s.views other ≡ some w)). t.1) (at_set s.views id other both w there) in
    let longer = length-append v.drawn w.drawn in
    record {
      once = λ x. omega (arith, sum_by-set_there (often x) s.views id v both at, sum_by-set_there (often x) vs other w spent_view there, times-append x v.drawn w.drawn, o.once x);
      count = omega (arith, sum_by-set_there many s.views id v both at, sum_by-set_there many vs other w spent_view there, longer, o.count);
      all = omega (arith, sum_by-set_there own_seats s.views id v both at, sum_by-set_there own_seats vs other w spent_view there, o.all, same);
      few = at_each (λ (u : View). many u ≤ u.seats * 2 ^ 32) vs other spent_view (omega arith)
          (at_each (λ (u : View). many u ≤ u.seats * 2 ^ 32) s.views id both (omega (arith, longer, o.few id v at, o.few other w was)) o.few);
      seats = λ j u e alive. subst (λ (n : ℕ). Fits s.words n j u) (sym same)
          (⊎_elim
          (λ (t : (j ≡ other) × (spent_view ≡ u)). absurd (omega (arith, alive, ap own_seats t.1)))
          (λ (t : (j ≢ other) × (get_elem? vs j ≡ some u)). ⊎_elim
          (λ (here : (j ≡ id) × (both ≡ u)). subst (λ (y : ℕ × View). Fits s.words (length s.views) y.0 y.1) (λ i. (sym here.0 i, here.1 i)) (fits_joined s.words (length s.views) id v w (o.seats id v at acts)))
          (λ (else : (j ≢ id) × (get_elem? s.views j ≡ some u)). o.seats j u else.1 alive)
          (at_set s.views id j both u t.1))
          (at_set vs other j spent_view u e));
      vacant_bit = λ h le. o.vacant_bit h (omega (arith, le, same));
      vacant_length = λ h le. o.vacant_length h (omega (arith, le, same));
      room = omega (arith, same, o.room);
      most = o.most;
    }

-- where a seat stands for all, no other one drew a number
stands_for_all : (words : List ℕ) (views : List View) (id : ℕ) (v : View) → Agree words views → get_elem? views id ≡ some v → 0 < v.seats → length v.lengths_seen ≤ v.seats → DrewBelow (v ∷ []) (get_or words 0 0)
stands_for_all words views id v o at acts whole x =
    let us : List View = set views id spent_view in
    let fits = o.seats id v at acts in
    let few = at_each (λ (u : View). many u ≤ u.seats * 2 ^ 32) views id spent_view (omega arith) o.few in
    let none : sum_by own_seats us ≡ 0 = omega (arith, sum_by-set_there own_seats views id v spent_view at, o.all, o.room, fits.wide, whole) in
    let no_numbers : sum_by many us ≡ 0 = omega (arith, none, sum_by-within many own_seats 4294967296 us few) in
    let each : sum_by (often x) us ≤ sum_by many us * 1 = sum_by-within (often x) many 1 us (λ j u e. omega (arith, count_by-le-length (λ y. eqb y x) u.drawn)) in
    omega (arith, sum_by-set_there (often x) views id v spent_view at, o.once x, no_numbers, each)

pub settles : (slots id : ℕ) (m : Sat) → 0 < m.0.seats → Allows Rules slots id m counter (λ n. n) (λ n m'. length m.0.lengths_seen ≤ m.0.seats → DrewBelow (m.0 ∷ []) n)
settles slots id m acts s o _ at small = (
  m.0,
  keeps,
  tt,
  loaded s.words s.views 0 id m.0 m.0 o at refl refl (o.seats id m.0 at acts),
  stands_for_all s.words s.views id m.0 o at acts,
)

-- one seat stands for all but these, which are left
pub record Gathers (harts : ℕ) (views : List View) (all : View) (left : List View) : Type 0 where
  pub acts : 0 < all.seats
  pub wide : length all.lengths_seen ≡ harts
  pub seats : all.seats + length left ≡ harts
  pub drawn : (x : ℕ) → often x all + sum_by (often x) left ≡ sum_by (often x) views

-- one of the seats stands for itself
pub gathers_first : (harts : ℕ) (seats rest : List Seat) (last : Seat) (all : View) → seats ≡ rest ++ last ∷ [] → view last ≡ all → all.seats ≡ 1 → length all.lengths_seen ≡ harts → length seats ≡ harts
    → Gathers harts (map view seats) all (map view rest)
gathers_first harts seats rest last all is same one wide many_seats =
    let views : map view seats ≡ map view rest ++ all ∷ [] = ap (map view) is ∙ map-append view rest (last ∷ []) ∙ ap (λ v. map view rest ++ v ∷ []) same in
    record {
      acts = omega (arith, one);
      wide = wide;
      seats = omega (arith, one, many_seats, ap (λ (l : List Seat). length l) is, length-append rest (last ∷ []), length-map rest view);
      drawn = λ x. omega (arith, ap (sum_by (often x)) views, sum_by_push (often x) (map view rest) all);
    }

-- the next one is joined to it
pub gathers_more : (harts : ℕ) (views : List View) (v w : View) (left : List View) → w.seats ≡ 1 → Gathers harts views v (w ∷ left) → Gathers harts views (joined_view v w) left
gathers_more harts views v w left one g = record {
  acts = omega (arith, g.acts);
  wide = g.wide;
  seats = omega (arith, g.seats, one);
  drawn = λ x. omega (arith, g.drawn x, times-append x v.drawn w.drawn, sum_by-cons (often x) w left);
}

-- none is left, so it knows all
pub gathered : (harts n : ℕ) (views : List View) (v : View) → Gathers harts views v [] → (length v.lengths_seen ≤ v.seats → DrewBelow (v ∷ []) n) → DrewBelow views n
gathered harts n views v g told x = let below = told (omega (arith, g.wide, g.seats)) x in let all = g.drawn x in omega (arith, below, all, sum_by-cons (often x) v [])
