-- Each witness's outcome is told.
use Rattle.std.proofs.Common.{◌≡◌, ◌∙◌, ◌+◌, ◌<◌, ◌⊎◌, ⊎_elim, inl, inr, ℕ, zero, suc, Bool, true, List, [], ◌∷◌, ◌++◌, All, Contains, IsPermutation, Option, Some, ap, arith, le_of_suc-le-suc, length, map, refl, subst, sym}
use Rattle.std.specs.Global.{Vec}
use Rattle.std.specs.List.{dedup, list_any}
use Rattle.std.specs.List.Retain.{DiffersFromLast, IsFiltered}
use Rattle.std.specs.Cmp.{Equal-is, on_total}
use Rattle.std.specs.Option.{option_to_list}
use Rattle.std.specs.Ordering.{eq_by_cmp, on}
use Rattle.std.proofs.lemmas.Cmp.{eq_by_cmp_equiv}
use Rattle.std.proofs.lemmas.List.{length-map, map-append}
use Rattle.std.proofs.lemmas.List.Elements.{All-contains, Contains-append_left, Contains-append_right, Contains-push, Contains-push_cases}
use Rattle.std.proofs.lemmas.List.Filters.{dedup_is}
use Rattle.std.proofs.lemmas.List.Folds.{Any-from_list_any}
use Rattle.std.proofs.lemmas.List.Kept.{Any-dedup}
use Rattle.std.proofs.lemmas.List.Sorted.{Contains-permutation, IsPermutation-map}
use Rattle.architecture_outcomes.specs.declared.outcome.Outcome.{Outcome}
use Rattle.architecture_outcomes.specs.Outcomes.{TellEach, end_of, ends_of, of_witness, tells}
use Rattle.elf_loader.specs.Image.{Initial}
use Rattle.exploration_text.specs.Orders.{outcome_total, same_outcome}
use Rattle.exploration_text.specs.Ranks.{outcome_cmp}
use Rattle.performed_words.specs.Outcomes.{Outcome as End, performed_word}
use Rattle.exploration_text.specs.Shown.{HartEnd}
use Rattle.machine_types.specs.declared.config.Config.{Config}
use Rattle.window_search.specs.WindowModelComplete.{TellsEachAllowed, ending_of}
use Rattle.window_search.specs.Told.{TellsSought, end_with, endings_of}
use Rattle.witnesses.specs.declared.witness.Witness.{Witness}
use Rattle.witnesses.specs.Witnesses.{IsWitness}
use Rattle.architecture_outcomes.proofs.Together.{Contains-map}

-- ---- ends of outcomes

-- the outcome that has an end
record Having (outcomes : List Outcome) (end : End) : Type 0 where
  outcome : Outcome
  there : Contains outcomes outcome
  is : end_of outcome ≡ end

having : (outcomes : List Outcome) (end : End) → Contains (ends_of outcomes) end → Having outcomes end
having [] end (k, l, is) = absurd (omega (arith, l))
having (o ∷ os) end (zero, l, is) = record { outcome = o; there = (0, omega arith, refl); is = is }
having (o ∷ os) end (suc k, l, is) =
    let h = having os end (k, le_of_suc-le-suc l, is) in
    let inside = h.there.1 in
    record { outcome = h.outcome; there = (suc h.there.0, omega (arith, inside), h.there.2); is = h.is }

-- where one of these is told, so is it by the list of what was found
found_there : (found : List Outcome) (end : End) → list_any (tells end) found ≡ true → Contains (ends_of found) end
found_there found end any =
    let a = Any-from_list_any (tells end) found any in
    subst (Contains (ends_of found)) (same_outcome (end_of a.1) end ((Equal-is (outcome_cmp (end_of a.1) end)).0 a.4)) (Contains-map end_of found a.1 (a.0, a.2, a.3))

-- no end is lost where they are sorted, and each is kept once
kept : (before sorted left : List Outcome) → IsPermutation before sorted → IsFiltered (DiffersFromLast (eq_by_cmp (on end_of outcome_cmp))) [] sorted left
    → (end : End) → Contains (ends_of before) end → Contains (ends_of left) end
kept before sorted left moved filtered end has =
    let h = having sorted end (Contains-permutation (ends_of before) (ends_of sorted) end (IsPermutation-map end_of before sorted moved) has) in
    let a = Any-dedup (eq_by_cmp_equiv (on_total end_of outcome_total)) sorted h.outcome h.there in
    let same : end_of h.outcome ≡ end_of a.1 = same_outcome (end_of h.outcome) (end_of a.1) ((Equal-is (outcome_cmp (end_of h.outcome) (end_of a.1))).0 a.4) in
    subst (λ (os : List Outcome). Contains (ends_of os) end) (sym (dedup_is (eq_by_cmp (on end_of outcome_cmp)) sorted left filtered))
    (subst (Contains (ends_of (dedup (eq_by_cmp (on end_of outcome_cmp)) sorted))) (sym same ∙ h.is) (Contains-map end_of (dedup (eq_by_cmp (on end_of outcome_cmp)) sorted) a.1 (a.0, a.2, a.3)))

-- ---- one witness after the other

-- each end of some is one of a witness that is left, or is told
abbrev pub IsLeftOrTold : (addresses : List ℕ) → (all left : List Witness) → (found outcomes : List Outcome) → Type 0
IsLeftOrTold addresses all left found outcomes =
    (end : End) → Contains (endings_of addresses all) end → Contains (endings_of addresses left) end ⊎ (Contains (ends_of found) end ⊎ Contains (ends_of outcomes) end)

pub all_left : (addresses : List ℕ) (all : List Witness) (found outcomes : List Outcome) → IsLeftOrTold addresses all all found outcomes
all_left addresses all found outcomes end has = inl has

pub same_end : (image : Initial) (config : Config) (addresses : List ℕ) (is_complete : Bool) (words : Vec ℕ) (w : Witness) → IsWitness image config w → words.items ≡ map (performed_word w.trace.history) addresses
    → end_of (of_witness is_complete words w) ≡ ending_of addresses w.trace.history
same_end image config addresses is_complete words w is words_are = λ i. record { results = is.outcome i; words = words_are i }

module _ (addresses : List ℕ) (all left rest : List Witness) (w : Witness) (found outcomes : List Outcome) (taken : left ≡ rest ++ w ∷ []) (was : IsLeftOrTold addresses all left found outcomes) where
  split : (end : End) → Contains (endings_of addresses left) end → Contains (endings_of addresses rest) end ⊎ (ending_of addresses w.trace.history ≡ end)
  split end has =
      Contains-push_cases (endings_of addresses rest) (ending_of addresses w.trace.history) end
      (subst (λ es. Contains es end) (ap (endings_of addresses) taken ∙ map-append (λ (x : Witness). ending_of addresses x.trace.history) rest (w ∷ [])) has)

  module _ (o : Outcome) (same : end_of o ≡ ending_of addresses w.trace.history) where
    -- its end was found
    pub one_found : list_any (tells (end_of o)) found ≡ true → IsLeftOrTold addresses all rest found outcomes
    one_found any end has =
        ⊎_elim
        (λ there. ⊎_elim (λ still. inl still) (λ is. inr (inl (subst (Contains (ends_of found)) (same ∙ is) (found_there found (end_of o) any)))) (split end there))
        (λ told. inr told)
        (was end has)

    -- or is told now
    pub one_told : IsLeftOrTold addresses all rest found (outcomes ++ o ∷ [])
    one_told end has =
        ⊎_elim
        (λ there. ⊎_elim
        (λ still. inl still)
        (λ is. inr (inr (subst (Contains (ends_of (outcomes ++ o ∷ []))) (same ∙ is) (Contains-map end_of (outcomes ++ o ∷ []) o (Contains-push outcomes o)))))
        (split end there))
        (λ told. inr (⊎_elim (λ f. inl f) (λ t. inr (subst (λ es. Contains es end) (sym (map-append end_of outcomes (o ∷ []))) (Contains-append_left (ends_of outcomes) (ends_of (o ∷ [])) end t))) told))
        (was end has)

-- none is left
pub each : (addresses : List ℕ) (all rest : List Witness) (found outcomes sorted left : List Outcome) → length rest ≡ 0 → IsLeftOrTold addresses all rest found outcomes
    → IsPermutation outcomes sorted → IsFiltered (DiffersFromLast (eq_by_cmp (on end_of outcome_cmp))) [] sorted left
    → TellEach (endings_of addresses all) found left
each addresses all rest found outcomes sorted left none told moved filtered end has =
    ⊎_elim
    (λ there. absurd (let inside = there.1 in let l = length-map rest (λ (x : Witness). ending_of addresses x.trace.history) in omega (arith, inside, l, none)))
    (λ either. ⊎_elim (λ f. inl f) (λ t. inr (kept outcomes sorted left moved filtered end t)) either)
    (told end has)

-- ---- all of them

-- each is among all outcomes, in whatever order
pub all_allowed : (image : Initial) (config : Config) (addresses : List ℕ) (witnesses : List Witness) (found beyond joined sorted : List Outcome)
    → joined ≡ beyond ++ found → IsPermutation joined sorted → TellEach (endings_of addresses witnesses) found beyond
    → TellsEachAllowed image config addresses (endings_of addresses witnesses) → TellsEachAllowed image config addresses (ends_of sorted)
all_allowed image config addresses witnesses found beyond joined sorted joined_is moved told allowed t ended =
    let end : End = ending_of addresses t in
    Contains-permutation (ends_of joined) (ends_of sorted) end (IsPermutation-map end_of joined sorted moved)
    (subst (λ (os : List Outcome). Contains (ends_of os) end) (sym joined_is)
    (subst (λ es. Contains es end) (sym (map-append end_of beyond found))
    (⊎_elim (λ f. Contains-append_right (ends_of beyond) (ends_of found) end f) (λ b. Contains-append_left (ends_of beyond) (ends_of found) end b) (told end (allowed t ended)))))

-- ---- what is sought

pub joined_there : (found beyond joined sorted : List Outcome) → joined ≡ beyond ++ found → IsPermutation joined sorted → (end : End) → Contains (ends_of found) end ⊎ Contains (ends_of beyond) end → Contains (ends_of sorted) end
joined_there found beyond joined sorted joined_is moved end told =
    Contains-permutation (ends_of joined) (ends_of sorted) end (IsPermutation-map end_of joined sorted moved)
    (subst (λ (os : List Outcome). Contains (ends_of os) end) (sym joined_is)
    (subst (λ es. Contains es end) (sym (map-append end_of beyond found))
    (⊎_elim (λ f. Contains-append_right (ends_of beyond) (ends_of found) end f) (λ b. Contains-append_left (ends_of beyond) (ends_of found) end b) told)))

-- an end of the machine that is sought is told
pub machine_there : (IsSought Other : End → Type 0) (found beyond joined sorted : List Outcome) → joined ≡ beyond ++ found → IsPermutation joined sorted
    → (end : End) × Contains (ends_of found) end × IsSought end → (end : End) × Contains (ends_of sorted) end × (IsSought end ⊎ Other end)
machine_there IsSought Other found beyond joined sorted joined_is moved (end, there, is) = (end, joined_there found beyond joined sorted joined_is moved end (inl there), inl is)

-- and so is one of the model
pub model_there : (IsSought Other : End → Type 0) (image : Initial) (config : Config) (addresses : List ℕ) (witnesses : List Witness) (found beyond joined sorted : List Outcome) → joined ≡ beyond ++ found → IsPermutation joined sorted
    → TellEach (endings_of addresses witnesses) found beyond → All (IsWitness image config) witnesses → TellsSought Other addresses witnesses → (end : End) × Contains (ends_of sorted) end × (IsSought end ⊎ Other end)
model_there IsSought Other image config addresses witnesses found beyond joined sorted joined_is moved told are (w, there, is) =
    let end : End = end_with w.harts.items (map (performed_word w.trace.history) addresses) in
    let is_witness : IsWitness image config w = All-contains (IsWitness image config) witnesses w are there in
    let same : ending_of addresses w.trace.history ≡ end = ap (λ (results : List HartEnd). record { results = results; words = map (performed_word w.trace.history) addresses }) (sym is_witness.outcome) in
    (end, joined_there found beyond joined sorted joined_is moved end (told end (subst (Contains (endings_of addresses witnesses)) same (Contains-map (λ (x : Witness). ending_of addresses x.trace.history) witnesses w there))), inr is)
