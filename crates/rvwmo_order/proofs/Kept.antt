-- The ranks of the sources that are kept of each load: found one load after the other, and told by the load's bytes.
use Rattle.std.proofs.Common.{◌≡◌, ℕ, zero, suc, ◌+◌, ◌-◌, ◌<◌, ◌≤◌, List, [], ◌∷◌, ◌++◌, true, Some, sym, subst, ap, ◌∙◌, ⊎_elim, arith, length, length-append, get_or, max, refl, replicate, set}
use Rattle.std.specs.Prelude.{nat_lt, slice_get, slice_index_or}
use Rattle.std.proofs.lemmas.Bool.{cases_eq, cases_lt}
use Rattle.std.proofs.lemmas.Grind.{get_or-set_at}
use Rattle.std.proofs.lemmas.List.{get_or-set_other, get_or_append_left, get_or_push}
use Rattle.std.proofs.lemmas.Option.{get_or_from_slice_get, none-some, same_Some, slice_get-get_or, slice_get_within}
use Rattle.memory_model.specs.declared.operation.Operation.{Operation}
use Rattle.memory_model.specs.Operations.{reads}
use Rattle.memory_model.specs.Order.{source}
use Rattle.rvwmo_order.specs.Ranks.{AreDistinctOperations, GivesRanks, HasRank}
use Rattle.rvwmo_order.specs.Sourcing.{GivesOwn, IsLast, all_come}
use Rattle.rvwmo_order.proofs.LastStores.{later_source}

-- ---- one load after the other

-- what is kept of each load so far are the ranks of its bytes' sources
abbrev pub EachGiven : List Operation → List (List ℕ) → Type 0
EachGiven order kept = (p : ℕ) (a : Operation) (ranks : List ℕ) → slice_get kept p ≡ Some ranks → slice_get order p ≡ Some a → reads a.kind ≡ true → GivesRanks order a ranks

pub given_none : (order : List Operation) (kept : List (List ℕ)) → kept ≡ [] → EachGiven order kept
given_none order kept e p a ranks f g r = absurd (none-some ranks (sym (ap (λ (xs : List (List ℕ)). slice_get xs p) e) ∙ f))

pub given_more : (order : List Operation) (kept : List (List ℕ)) (ranks : List ℕ) (k : ℕ) (a : Operation) → EachGiven order kept → length kept ≡ k → slice_get order k ≡ Some a → (reads a.kind ≡ true → GivesRanks order a ranks) → EachGiven order (kept ++ ranks ∷ [])
given_more order kept ranks k a g count there found p b other h f r =
    let inside = slice_get_within (kept ++ ranks ∷ []) p other h in
    let at : get_or (kept ++ ranks ∷ []) p [] ≡ other = get_or_from_slice_get (kept ++ ranks ∷ []) p other [] h in
    ⊎_elim (λ l. before l at) (λ l. last l inside at) (cases_lt p (length kept))
  where
    before : p < length kept → get_or (kept ++ ranks ∷ []) p [] ≡ other → GivesRanks order b other
    before l at = g p b other (slice_get-get_or kept p [] l ∙ ap Some (sym (get_or_append_left kept (ranks ∷ []) [] p l) ∙ at)) f r

    last : length kept ≤ p → p < length (kept ++ ranks ∷ []) → get_or (kept ++ ranks ∷ []) p [] ≡ other → GivesRanks order b other
    last l inside at =
        let long = length-append kept (ranks ∷ []) in
        let is : length kept ≡ p = omega (arith, l, inside, long) in
        let place : k ≡ p = sym count ∙ is in
        let it : ranks ≡ other = sym (get_or_push kept ranks [] p is) ∙ at in
        let one : a ≡ b = same_Some a b (sym there ∙ (ap (slice_get order) place ∙ f)) in
        subst (GivesRanks order b) it (subst (λ (y : Operation). GivesRanks order y ranks) one (found (ap (λ (y : Operation). reads y.kind) one ∙ r)))

-- the later of both candidates of each byte
pub ranks_given : (order : List Operation) (p : ℕ) (a : Operation) (latest : ℕ → ℕ) (all : List (List ℕ)) (own ranks : List ℕ) → AreDistinctOperations order → slice_get order p ≡ Some a → a.size ≤ 4 → ((x : ℕ) → IsLast order x (λ j s. nat_lt j p) (latest x))
    → GivesOwn order all all_come → slice_get all p ≡ Some own → ((i : ℕ) → i < a.size → slice_index_or ranks i 0 ≡ max (latest (a.address + i)) (slice_index_or own i 0)) → GivesRanks order a ranks
ranks_given order p a latest all own ranks d e small l g f is =
    record { each = λ i within. later_source order a (a.address + i) p (latest (a.address + i)) (slice_index_or own i 0) (slice_index_or ranks i 0) d e (l (a.address + i)) (g.each p i a own e f (omega (arith, small, within)) within) (is i within) }

-- ---- nothing noted yet

zero_in : (z n i : ℕ) → z ≡ 0 → slice_index_or (replicate n z) i 0 ≡ 0
zero_in z zero i e = refl
zero_in z (suc n) zero e = e
zero_in z (suc n) (suc i) e = zero_in z n i e

same_in : (n : ℕ) (zeros : List ℕ) (p : ℕ) (ranks : List ℕ) → slice_get (replicate n zeros) p ≡ Some ranks → ranks ≡ zeros
same_in zero zeros p ranks e = absurd (none-some ranks e)
same_in (suc n) zeros zero ranks e = sym (same_Some zeros ranks e)
same_in (suc n) zeros (suc p) ranks e = same_in n zeros p ranks e

pub zeros_only : (own : List (List ℕ)) (n : ℕ) → own ≡ replicate n (replicate 4 0) → (p : ℕ) (ranks : List ℕ) (i : ℕ) → slice_get own p ≡ Some ranks → slice_index_or ranks i 0 ≡ 0
zeros_only own n is p ranks i e = ap (λ (xs : List ℕ). slice_index_or xs i 0) (same_in n (replicate 4 0) p ranks (ap (λ (xs : List (List ℕ)). slice_get xs p) (sym is) ∙ e)) ∙ zero_in 0 4 i refl

-- ---- a byte by the ranks

pub byte_ranked : (order : List Operation) (load : Operation) (ranks : List ℕ) (x : ℕ) → GivesRanks order load ranks → load.address ≤ x → x < load.address + load.size → HasRank order (source order load x) (slice_index_or ranks (x - load.address) 0)
byte_ranked order load ranks x g low inside =
    let at : load.address + (x - load.address) ≡ x = omega (arith, low) in
    subst (λ (y : ℕ). HasRank order (source order load y) (slice_index_or ranks (x - load.address) 0)) at (g.each (x - load.address) (omega (arith, low, inside)))

-- ---- one more byte of four

pub ranks_next : (p : ℕ → ℕ → Type 0) (size : ℕ) (old new : List ℕ) (k found : ℕ) → length old ≡ 4 → k < 4 → new ≡ set old k found → p k found → ((i : ℕ) → i < k → i < size → p i (slice_index_or old i 0)) → (i : ℕ) → i < k + 1 → i < size → p i (slice_index_or new i 0)
ranks_next p size old new k found long few e is inv i h within = ⊎_elim here other (cases_eq i k)
  where
    here : i ≡ k → p i (slice_index_or new i 0)
    here same =
        let value : slice_index_or new i 0 ≡ found = ap (λ (xs : List ℕ). slice_index_or xs i 0) e ∙ get_or-set_at old k i found 0 same (omega (arith, long, few)) in
        subst (p i) (sym value) (subst (λ (j : ℕ). p j found) (sym same) is)

    other : (i ≡ k → ⊥) → p i (slice_index_or new i 0)
    other apart =
        let value : slice_index_or new i 0 ≡ slice_index_or old i 0 = ap (λ (xs : List ℕ). slice_index_or xs i 0) e ∙ get_or-set_other old k i found 0 apart in
        subst (p i) (sym value) (inv i (omega (arith, h, apart)) within)

pub ranks_same : (p : ℕ → ℕ → Type 0) (size : ℕ) (old new : List ℕ) (k : ℕ) → new ≡ old → size ≤ k → ((i : ℕ) → i < k → i < size → p i (slice_index_or old i 0)) → (i : ℕ) → i < k + 1 → i < size → p i (slice_index_or new i 0)
ranks_same p size old new k e past inv i h within = subst (λ (xs : List ℕ). p i (slice_index_or xs i 0)) (sym e) (inv i (omega (arith, past, within)) within)
